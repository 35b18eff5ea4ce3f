-- `listing::lines::put_step_line` meets its contract: the two numbers, the space and the end are put one behind the other. Assumes nothing.
use mathlib.Core.List.{[], ◌∷◌}
use native.Mathlib.Omega.{arith}
use Rattle.listing.specs.Numbers.{decimal_text}
use Rattle.listing.specs.Listing.{step_line}
use Rattle.listing.proofs.Listing.{step_size, step_made}
use Rattle.listing.proofs.Pasting.{put_begun, put_then, put_as, with_room, room_found}
use Rattle.listing.proofs.lines.put_step_line.Goals as goal

pub returns-clause-buf_after : goal.returns-clause-buf_after
returns-clause-buf_after c =
    let a = c.args in
    let yes = c.if-not-has_room.false in
    let size = step_size a.from a.seconds c.places-a.ensures.value c.places-b.ensures.value in
    let room = room_found a.buf.now a.at (step_line a.from a.seconds) size c.has_room.ensures yes in
    let p₀ = put_begun {buf = a.buf.now} {at = a.at} (omega arith) in
    let p₁ = put_then p₀ (decimal_text a.from) c.spell-i.ensures.buf_after c.spell-i.ensures.value (omega arith) in
    let p₂ = put_then p₁ (32 ∷ []) c.put_byte-j.ensures.buf_after c.put_byte-j.ensures.value (omega arith) in
    let p₃ = put_then p₂ (decimal_text a.seconds) c.spell-k.ensures.buf_after c.spell-k.ensures.value (omega arith) in
    let p₄ = put_then p₃ (10 ∷ []) c.put_byte.ensures.buf_after c.put_byte.ensures.value (omega arith) in
    (with_room a.buf.now a.at (step_line a.from a.seconds) size c.has_room.ensures yes (put_as (step_made a.from a.seconds) p₄)).1
