use Rattle.model.proofs.Loops.{Ran}
use Rattle.run_tanks.specs.Moving.{smaller_tank_of}
use Rattle.run_tanks.proofs.moving.tank_time.Given as goal

abbrev pub invariant-loop-k : goal.invariant-loop-k
invariant-loop-k l = Ran l.t.at.count (smaller_tank_of l.t.at.nodes l.t.numbers l.t.overflows l.heads l.demands) l.initial.smallest l.k l.smallest
