-- The chunks come to an end: each but the last brings the instant further, and none past what a run can last. Assumes nothing.
use Prim.Native.Nat.{ℕ, ◌-◌, ◌<◌}
use mathlib.Core.Path.{◌≡◌}
use mathlib.Core.Bool.{false}
use native.Mathlib.Omega.{arith}
use Rattle.model.specs.declared.project.Project.{Project}
use Rattle.timetable_chunk.specs.Chunks.{chunk_of}
use Rattle.timetable_chunk.specs.declared.Chunk.{Chunk}
use Rattle.timetable_chunk.proofs.Whole.{chunk_later}

pub less_left : (p : Project) (t n : ℕ) (r : Chunk) → r ≡ chunk_of p t n → r.over ≡ false → 315360000 - r.instant < 315360000 - t
less_left p t n r e f = let l = chunk_later p t n (rw e at f) in rw e (omega (arith, l.0, l.1))
