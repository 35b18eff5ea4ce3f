use Rattle.model.proofs.Loops.{Ran}
use Rattle.stops_ahead.specs.Ahead.{smaller_awaited}
use Rattle.stops_ahead.proofs.ahead.awaited_time.Given as goal

abbrev pub invariant-loop-i : goal.invariant-loop-i
invariant-loop-i l = Ran l.count (smaller_awaited l.fn.awaited.times l.fn.awaited.clocks l.time l.clock) l.initial.smallest l.i l.smallest
