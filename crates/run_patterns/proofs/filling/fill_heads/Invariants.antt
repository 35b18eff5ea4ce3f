use Rattle.model.proofs.Loops.{Ran}
use Rattle.run_patterns.specs.Filling.{head_put}
use Rattle.run_patterns.proofs.filling.fill_heads.Given as goal

abbrev pub invariant-loop-r : goal.invariant-loop-r
invariant-loop-r l = Ran l.t.at.count (head_put l.t.at.nodes l.t.elevations l.t.patterns l.table) l.initial.heads l.r l.heads
