-- `listing::hexadecimal::put_hex` meets its contract: a space, the high half and the low half are put one behind the other. Assumes nothing.
use mathlib.Core.List.{[], ◌∷◌}
use native.Mathlib.Omega.{arith}
use borrow.Author.Rules.{rules}
use Rattle.listing.specs.Numbers.{hex_text, hex_digits}
use Rattle.listing.proofs.HexDigits.{hex_length, hex_count, hex_made}
use Rattle.listing.proofs.Pasting.{put_begun, put_then, put_as, with_room, room_found}
use Rattle.listing.proofs.hexadecimal.put_hex.Goals as goal

pub spell_hex-requires : goal.spell_hex-requires
spell_hex-requires c =
    let a = c.args in
    let room = room_found a.buf.now a.at (hex_text a.low a.high) (hex_length a.low a.high) c.has_room.ensures c.if-not-has_room.false in
    omega (arith, hex_length a.low a.high, hex_count 8 a.high)

pub returns : goal.returns
returns c =
    let a = c.args in
    let text = hex_text a.low a.high in
    let yes = c.if-not-has_room.false in
    let size = hex_length a.low a.high in
    let room = room_found a.buf.now a.at text size c.has_room.ensures yes in
    let eight = hex_count 8 a.high in
    let last = hex_count 8 a.low in
    let p₀ = put_begun {buf = a.buf.now} {at = a.at} (omega arith) in
    let p₁ = put_then p₀ (32 ∷ []) c.put_byte-i.ensures.buf_after c.put_byte-i.ensures.value (omega arith) in
    let p₂ = put_then p₁ (hex_digits 8 a.high) c.spell_hex-j.ensures.buf_after c.spell_hex-j.ensures.value (omega arith) in
    let p₃ = put_then p₂ (hex_digits 8 a.low) c.spell_hex.ensures.buf_after c.spell_hex.ensures.value (omega arith) in
    let w = with_room a.buf.now a.at text size c.has_room.ensures yes (put_as (hex_made a.low a.high (search rules)) p₃) in
    record { value = w.0; buf_after = w.1 }
