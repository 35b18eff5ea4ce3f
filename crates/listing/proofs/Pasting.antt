-- Laws of a text put into a buffer.
-- Assumes nothing.
use Prim.Native.Nat.{ℕ, ◌+◌, ◌≤◌, ◌<◌}
use mathlib.Core.Path.{◌≡◌, refl, sym, ◌∙◌, subst}
use mathlib.Core.List.{List, [], ◌∷◌, ◌++◌, append_assoc}
use native.Mathlib.Nat.{add_assoc, add-zero}
use native.Mathlib.Numerals.{add-one}
use native.Mathlib.Omega.{arith}
use mathlib.Core.Bool.{Bool, true, false, cond}
use borrow.Author.Tests.{le-leb, leb-true}
use lib.Dec.{leb}
use lib.ListN.{length, take, drop, set, length-append, length-drop, take-append-drop}
use lib.Seq.{set_split, take_at, drop-drop, drop-append-add, length-take-le}
use Rattle.listing.specs.Text.{pasted, put, after}

module _ (buf : List ℕ) (at : ℕ) (a : List ℕ) (room : at + length a ≤ length buf) where
  front : length (take at buf ++ a) ≡ at + length a
  front =
      let low : at ≤ length buf = omega arith in
      omega (arith, length-append (take at buf) a, length-take-le at buf low)

  -- a buffer keeps its length
  pub pasted_length : length (pasted buf at a) ≡ length buf
  unfolding pasted
  pasted_length = rw (← append_assoc) (omega (arith, length-append (take at buf ++ a) (drop (at + length a) buf), front, length-drop (at + length a) buf))

  -- the front of the buffer, up to the text's end
  pub pasted_take : take (at + length a) (pasted buf at a) ≡ take at buf ++ a
  unfolding pasted
  pasted_take = rw (← append_assoc) (take_at (take at buf ++ a) (drop (at + length a) buf) (at + length a) front)

  pub pasted_drop : (n : ℕ) → drop (at + length a + n) (pasted buf at a) ≡ drop (at + length a + n) buf
  unfolding pasted
  pasted_drop n =
      rw (← append_assoc, ← front, drop-append-add (take at buf ++ a) (drop (length (take at buf ++ a)) buf) n)
      (drop-drop n (length (take at buf ++ a)) buf)

  -- one text after another is both of them at once
  pub pasted_more : (b : List ℕ) → pasted (pasted buf at a) (at + length a) b ≡ pasted buf at (a ++ b)
  unfolding pasted
  pasted_more b =
      rw (pasted_take, pasted_drop (length b), length-append, add_assoc) (simp append_assoc)

-- no text
pub pasted_none : (buf : List ℕ) (at : ℕ) → pasted buf at [] ≡ buf
unfolding pasted
pasted_none buf at = rw add-zero (take-append-drop at buf)

-- one byte
pub pasted_byte : (buf : List ℕ) (at b : ℕ) → at < length buf → set buf at b ≡ pasted buf at (b ∷ [])
unfolding pasted
pasted_byte buf at b h = set_split buf at b h ∙ rw (add-one)

-- `now` is the buffer with the text from `at` on, and `pos` the position after it
pub record Put (buf : List ℕ) (at : ℕ) (text now : List ℕ) (pos : ℕ) : Type 0 where
  pub made : now ≡ pasted buf at text
  pub place : pos ≡ at + length text
  pub room : pos ≤ length buf

module _ {buf : List ℕ} {at : ℕ} where
  pub put_begun : at ≤ length buf → Put buf at [] buf at
  put_begun h = record { made = sym (pasted_none buf at); place = omega arith; room = h }

  module _ {text now : List ℕ} {pos : ℕ} (p : Put buf at text now pos) where
    pub put_same : length now ≡ length buf
    put_same = rw p.made (pasted_length buf at text (omega (arith, p.place, p.room)))

    pub put_then : (b : List ℕ) {next : List ℕ} {end : ℕ} → next ≡ pasted now pos b → end ≡ pos + length b → end ≤ length now → Put buf at (text ++ b) next end
    put_then b {next} {end} e q r =
        let h : at + length text ≤ length buf = omega (arith, p.place, p.room) in
        record {
          made = e ∙ rw (p.made, p.place) (pasted_more buf at text h b);
          place = omega (arith, q, p.place, length-append text b);
          room = omega (arith, r, put_same);
        }

-- the same place and bytes, by another spelling of the text
pub put_as : {buf : List ℕ} {at : ℕ} {text other now : List ℕ} {pos : ℕ} → text ≡ other → Put buf at text now pos → Put buf at other now pos
put_as {buf} {at} {text} {other} {now} {pos} e p = subst (λ (t : List ℕ). Put buf at t now pos) e p

-- what a call says where the caller knows of room
pub put_fits : {buf : List ℕ} {at : ℕ} (text : List ℕ) {now : List ℕ} {r : ℕ} → at + length text ≤ length buf → r ≡ after buf at text → now ≡ put buf at text → Put buf at text now r
put_fits {buf} {at} text {now} {r} h e q =
    let t = le-leb (at + length text) (length buf) h in
    let place : r ≡ at + length text = e ∙ rw (t) in
    record { made = q ∙ rw (t); place = place; room = omega arith }

-- the position that a call answers is in the buffer
pub after_in : (buf : List ℕ) (at : ℕ) (text : List ℕ) {r : ℕ} → at ≤ length buf → r ≡ after buf at text → r ≤ length buf
after_in buf at text {r} h e = rw e (tested (leb (at + length text) (length buf)) refl)
  where
    tested : (b : Bool) → leb (at + length text) (length buf) ≡ b → cond b (at + length text) at ≤ length buf
    tested true t = leb-true (at + length text) (length buf) t
    tested false t = h

-- a function that asked for room of n bytes
module _ (buf : List ℕ) (at : ℕ) {n : ℕ} (text : List ℕ) (size : n ≡ length text) {b : Bool} (asked : b ≡ leb (at + n) (length buf)) where
  -- and found it
  pub with_room : b ≡ true → {now : List ℕ} {pos : ℕ} → Put buf at text now pos → (pos ≡ after buf at text) × (now ≡ put buf at text)
  with_room t {now} {pos} p =
      let h : leb (at + length text) (length buf) ≡ true = rw (← size) (sym asked ∙ t) in
      (rw h p.place, rw h p.made)

  pub room_found : b ≡ true → at + length text ≤ length buf
  room_found t = leb-true (at + length text) (length buf) (rw (← size) (sym asked ∙ t))
