use Rattle.model.proofs.Loops.{Ran}
use Rattle.premise.specs.Premise.{demand_added}
use Rattle.premise.proofs.total_demand.Given as goal

abbrev pub invariant-loop-i : goal.invariant-loop-i
invariant-loop-i l = Ran l.n (demand_added l.s) l.initial.total l.i l.total
