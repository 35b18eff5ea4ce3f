use Rattle.model.proofs.Loops.{Ran}
use Rattle.run_tanks.specs.Moving.{tank_moved}
use Rattle.run_tanks.proofs.moving.move_tanks.Given as goal

abbrev pub invariant-loop-k : goal.invariant-loop-k
invariant-loop-k l = Ran l.t.at.count (tank_moved l.t.at.nodes l.t.numbers l.t.overflows l.demands l.seconds) l.initial.heads l.k l.heads
