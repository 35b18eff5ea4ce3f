use Rattle.model.proofs.Loops.{Ran}
use Rattle.run_tanks.specs.Emptying.{tank_emptied}
use Rattle.run_tanks.proofs.emptying.empty_tanks.Given as goal

abbrev pub invariant-loop-k : goal.invariant-loop-k
invariant-loop-k l = Ran l.tanks.count (tank_emptied l.tanks.nodes) l.initial.demands l.k l.demands
