-- `listing::lines::put_labelled` meets its contract: the label, the number and the end are put one behind the other. Assumes nothing.
use mathlib.Core.List.{[], ◌∷◌}
use native.Mathlib.Omega.{arith}
use Rattle.listing.specs.Numbers.{decimal_text}
use Rattle.listing.specs.Listing.{labelled}
use Rattle.listing.proofs.Listing.{labelled_size, labelled_made}
use Rattle.listing.proofs.Pasting.{put_begun, put_then, put_as, with_room, room_found}
use Rattle.listing.proofs.lines.put_labelled.Goals as goal

pub returns-clause-buf_after : goal.returns-clause-buf_after
returns-clause-buf_after c =
    let a = c.args in
    let yes = c.if-not-has_room.false in
    let size = labelled_size a.label.now a.n c.places-b.ensures.value in
    let room = room_found a.buf.now a.at (labelled a.label.now a.n) size c.has_room.ensures yes in
    let p₀ = put_begun {buf = a.buf.now} {at = a.at} (omega arith) in
    let p₁ = put_then p₀ a.label.now c.copy_text-i.ensures.buf_after c.copy_text-i.ensures.value (omega arith) in
    let p₂ = put_then p₁ (decimal_text a.n) c.spell-j.ensures.buf_after c.spell-j.ensures.value (omega arith) in
    let p₃ = put_then p₂ (10 ∷ []) c.put_byte.ensures.buf_after c.put_byte.ensures.value (omega arith) in
    (with_room a.buf.now a.at (labelled a.label.now a.n) size c.has_room.ensures yes (put_as (labelled_made a.label.now a.n) p₃)).1
