use Prim.Native.Nat.{◌-◌, ◌≤◌}
use mathlib.Core.Path.{◌≡◌}
use lib.ListN.{length, take}
use Rattle.driver_io.proofs.read_until.Given as goal

abbrev pub invariant-loop-n : goal.invariant-loop-n
invariant-loop-n g l = (l.have ≤ l.n) × (l.n ≤ length l.buf) × (length l.buf ≡ length l.initial.buf) × (take l.have l.buf ≡ take l.have l.initial.buf)

abbrev pub decreases-loop-n : goal.decreases-loop-n
decreases-loop-n g l = l.need - l.n
