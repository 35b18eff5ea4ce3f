use Rattle.model.proofs.Loops.{Ran}
use Rattle.run_candidates.specs.Next.{level_turn}
use Rattle.run_candidates.proofs.next.next_level.Given as goal

abbrev pub invariant-loop-i : goal.invariant-loop-i
invariant-loop-i l =
    Ran l.fn.l.count (level_turn l.fn.l.tanks l.fn.l.targets l.fn.nodes l.fn.numbers l.fn.overflows l.fn.heads l.fn.demands) l.initial.smallest l.i l.smallest
