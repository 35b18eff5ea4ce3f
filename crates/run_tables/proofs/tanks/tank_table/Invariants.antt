use Rattle.run_tables.proofs.TankRows.{Tanks}
use Rattle.run_tables.proofs.tanks.tank_table.Given as goal

abbrev pub invariant-loop-k : goal.invariant-loop-k
invariant-loop-k l = Tanks l.fn.table l.at.nodes l.at.count l.k l.numbers l.overflows
