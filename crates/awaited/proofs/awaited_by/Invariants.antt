use Rattle.model.proofs.Loops.{Ran}
use Rattle.awaited.specs.Awaited.{time_of, clock_of, noted}
use Rattle.awaited.proofs.awaited_by.Given as goal

abbrev pub invariant-loop-i : goal.invariant-loop-i
invariant-loop-i l =
    Ran l.count (noted time_of l.fn.controls) l.initial.times l.i l.times × Ran l.count (noted clock_of l.fn.controls) l.initial.clocks l.i l.clocks
