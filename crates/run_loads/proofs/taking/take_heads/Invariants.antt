use Rattle.model.proofs.Loops.{Ran}
use Rattle.run_loads.specs.Taking.{head_taken}
use Rattle.run_loads.proofs.taking.take_heads.Given as goal

abbrev pub invariant-loop-r : goal.invariant-loop-r
invariant-loop-r l = Ran l.n (head_taken l.words l.junctions l.from) l.initial.heads l.r l.heads
