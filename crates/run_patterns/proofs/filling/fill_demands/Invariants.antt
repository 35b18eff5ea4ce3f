use Rattle.model.proofs.Loops.{Ran}
use Rattle.run_patterns.specs.Filling.{demand_put}
use Rattle.run_patterns.proofs.filling.fill_demands.Given as goal

abbrev pub invariant-loop-i : goal.invariant-loop-i
invariant-loop-i l = Ran l.t.count (demand_put l.t.counts l.t.bases l.t.patterns l.table l.scale) l.initial.demands l.i l.demands
