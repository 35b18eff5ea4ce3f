use Prim.Native.Nat.{◌-◌}
use lib.ListN.{length}
use Rattle.stops_ahead.proofs.Filling.{Stops}
use Rattle.stops_ahead.proofs.ahead.fill.Given as goal

abbrev pub invariant-loop-time : goal.invariant-loop-time
invariant-loop-time l = Stops l.o l.awaited.times l.awaited.clocks l.count l.from l.initial.out l.out l.time l.n

abbrev pub decreases-loop-time : goal.decreases-loop-time
decreases-loop-time l = length l.out - l.n
