-- `timetable_io::refuse` meets its contract. Assumes nothing.
use native.Mathlib.Omega.{arith}
use Rattle.listing.specs.Listing.{refused_line}
use Rattle.listing.proofs.Pasting.{after_in}
use Rattle.timetable_io.proofs.refuse.Goals as goal

pub write-requires : goal.write-requires
write-requires g c =
    let line = c.put_refused_line-k in
    let a = c.args in
    omega (arith, line.auto.buf, after_in a.out.now 0 (refused_line a.n) (omega arith) line.ensures.value)
