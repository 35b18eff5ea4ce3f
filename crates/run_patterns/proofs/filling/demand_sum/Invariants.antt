use lib.ListN.{get_or}
use Rattle.model.proofs.Loops.{Ran}
use Rattle.run_patterns.specs.Filling.{demand_added}
use Rattle.run_patterns.proofs.filling.demand_sum.Given as goal

abbrev pub invariant-loop-j : goal.invariant-loop-j
invariant-loop-j l = Ran (get_or l.t.counts l.i 0) (demand_added l.t.bases l.t.patterns l.table l.scale l.i) l.initial.sum l.j l.sum
