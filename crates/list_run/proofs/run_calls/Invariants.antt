use lib.ListN.{length}
use Rattle.list_run.proofs.Counts.{Running}
use Rattle.list_run.proofs.run_calls.Given as goal

abbrev pub invariant-loop-rest : goal.invariant-loop-rest
invariant-loop-rest l = Running l.p l.initial.r l.words l.rest l.r

abbrev pub decreases-loop-rest : goal.decreases-loop-rest
decreases-loop-rest l = length l.rest
