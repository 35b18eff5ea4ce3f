use Prim.Native.Nat.{◌-◌}
use Rattle.second_clock.specs.Walks.{stops_by}
use Rattle.second_clock.proofs.Walks.{Going}
use Rattle.second_clock.proofs.walk.walk.Given as goal

abbrev pub invariant-loop-instant : goal.invariant-loop-instant
invariant-loop-instant l = Going (stops_by l.o l.times l.clocks l.count l.from) l.o.duration l.from l.instant l.seconds

abbrev pub decreases-loop-instant : goal.decreases-loop-instant
decreases-loop-instant l = l.o.duration - l.instant
