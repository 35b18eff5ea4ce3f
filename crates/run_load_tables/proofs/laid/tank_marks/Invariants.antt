use mathlib.Core.Bool.{cond}
use Rattle.run_state.proofs.Filled.{Filled}
use Rattle.run_tables.specs.Tanks.{tank_in}
use Rattle.run_load_tables.proofs.laid.tank_marks.Given as goal

abbrev pub invariant-loop-i : goal.invariant-loop-i
invariant-loop-i l = Filled 0 256 (λ k. cond (tank_in l.fn.table k) 1 0) l.i l.tanks
