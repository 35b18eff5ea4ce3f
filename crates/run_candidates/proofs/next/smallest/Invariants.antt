use Rattle.model.proofs.Loops.{Ran}
use Rattle.run_candidates.specs.Next.{or_smaller}
use Rattle.run_candidates.proofs.next.smallest.Given as goal

abbrev pub invariant-loop-i : goal.invariant-loop-i
invariant-loop-i g l = Ran l.fn.s.count (or_smaller g.of l.fn.s.seconds) l.initial.smallest l.i l.smallest
