-- `planes::put_row` meets its contract: each turn of the loop puts one byte more in its plane, and no other place is written.
-- Assumes nothing.
use Prim.Native.Nat.{◌+◌, ◌*◌, ◌<◌}
use native.Mathlib.Nat.{mul_comm}
use lib.ListN.{length}
use Rattle.planes.proofs.Places.{among}
use Rattle.planes.proofs.Passes.{row_next}
use Rattle.planes.proofs.put_row.Goals as goal

pub loop-byte-preserved : goal.loop-byte-preserved
loop-byte-preserved c =
    let room : c.args.n * c.loop-byte.byte + c.args.row < length c.args.into.now = rw (c.requires.2, mul_comm c.args.w _) (among c.args.n c.requires.0 c.loop-byte-test.true) in
    row_next c.requires.0 room c.loop-byte.invariant
