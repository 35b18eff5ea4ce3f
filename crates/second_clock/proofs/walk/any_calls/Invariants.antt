use Rattle.model.proofs.Loops.{Ran}
use Rattle.second_clock.specs.Walks.{or_calls}
use Rattle.second_clock.proofs.walk.any_calls.Given as goal

abbrev pub invariant-loop-i : goal.invariant-loop-i
invariant-loop-i l = Ran l.count (or_calls l.times l.clocks l.instant l.clock) l.initial.called l.i l.called
