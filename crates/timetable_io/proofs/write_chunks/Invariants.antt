use Prim.Native.Nat.{◌-◌}
use Rattle.timetable_io.proofs.write_chunks.Given as goal

abbrev pub decreases-chunks : goal.decreases-chunks
decreases-chunks g l = 315360000 - l.instant
