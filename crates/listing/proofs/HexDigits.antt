-- The hexadecimal digits of a number, taken off from the last, and of a word in two halves.
-- Assumes nothing.
use Prim.Native.Nat.{ℕ, zero, suc, ◌+◌, ◌-◌, ◌*◌, ◌/◌, ◌%◌, ◌^◌, ◌≤◌, ◌<◌}
use mathlib.Core.Path.{◌≡◌, refl, sym, ap, ◌∙◌}
use mathlib.Core.List.{List, [], ◌∷◌, ◌++◌, append_assoc, append-nil}
use native.Mathlib.Nat.{pow-suc, mul_assoc, add-zero, add-suc}
use native.Mathlib.Omega.{arith}
use lib.ListN.{length, set, length-append}
use Rattle.listing.specs.Numbers.{hex_digit, hex_digits, hex_text}
use Rattle.listing.specs.Text.{pasted}
use Rattle.listing.proofs.Writing.{Written, written_none, written_more, written_all}

pub hex_count : (k n : ℕ) → length (hex_digits k n) ≡ k
unfolding hex_digits
hex_count zero n = refl
hex_count (suc k) n = omega (arith, length-append (hex_digits k (n / 16)) (hex_digit (n % 16) ∷ []), hex_count k (n / 16))

pub hex_length : (low high : ℕ) → 17 ≡ length (hex_text low high)
unfolding hex_text
hex_length low high = omega (arith, hex_count 16 (high * 2 ^ 32 + low))

-- the digits from i on have been written, and r is left for those before
pub record HexSpelled (buf : List ℕ) (at : ℕ) (text now : List ℕ) (i r : ℕ) : Type 0 where
  pub tail : List ℕ
  pub left : ℕ
  pub place : i ≡ at + left
  pub split : text ≡ hex_digits left r ++ tail
  pub written : Written buf (at + 8) now i tail

pub hex_begun : (buf : List ℕ) (at n : ℕ) → HexSpelled buf at (hex_digits 8 n) buf (at + 8) n
hex_begun buf at n = record { tail = []; left = 8; place = refl; split = sym (append-nil (hex_digits 8 n)); written = written_none buf (at + 8) }

module _ {buf : List ℕ} {at : ℕ} (room : at + 8 ≤ length buf) {text now : List ℕ} where
  one_more : (r : ℕ) {i : ℕ} (tail : List ℕ) (left : ℕ) → at < i → i ≡ at + left → text ≡ hex_digits left r ++ tail → Written buf (at + 8) now i tail
      → HexSpelled buf at text (set now (i - 1) (hex_digit (r % 16))) (i - 1) (r / 16)
  unfolding hex_digits
  one_more r {i} tail zero h p s w = absurd (omega arith)
  one_more r {i} tail (suc k) h p s w =
      record {
        tail = hex_digit (r % 16) ∷ tail;
        left = k;
        place = omega arith;
        split = s ∙ rw append_assoc;
        written = written_more (hex_digit (r % 16)) room (omega arith) w;
      }

  pub hex_more : {i r : ℕ} → at < i → HexSpelled buf at text now i r → HexSpelled buf at text (set now (i - 1) (hex_digit (r % 16))) (i - 1) (r / 16)
  hex_more {i} {r} h v = one_more r v.tail v.left h v.place v.split v.written

  ended : (r : ℕ) {i : ℕ} (tail : List ℕ) (left : ℕ) → i ≤ at → i ≡ at + left → text ≡ hex_digits left r ++ tail → Written buf (at + 8) now i tail → now ≡ pasted buf at text
  unfolding hex_digits
  ended r {i} tail zero h p s w =
      let q : i ≡ at = omega arith in
      written_all w ∙ rw (q, s)
  ended r {i} tail (suc k) h p s w = absurd (omega arith)

  pub hex_ended : {i r : ℕ} → i ≤ at → HexSpelled buf at text now i r → now ≡ pasted buf at text
  hex_ended {i} {r} h v = ended r v.tail v.left h v.place v.split v.written

-- a number of a + b digits is one of a digits and one of b
pub hex_halves : (a b high low : ℕ) → low < 16 ^ b → hex_digits (a + b) (high * 16 ^ b + low) ≡ hex_digits a high ++ hex_digits b low
unfolding hex_digits
hex_halves a zero high low h =
    let z : high * 16 ^ 0 + low ≡ high = omega arith in
    rw (add-zero a, z) (sym (append-nil (hex_digits a high)))
hex_halves a (suc b) high low h =
    let p : 16 ^ suc b ≡ 16 ^ b * 16 = pow-suc 16 b in
    let m : high * 16 ^ suc b ≡ high * 16 ^ b * 16 = rw p (sym (mul_assoc high (16 ^ b) 16)) in
    let d : (high * 16 ^ suc b + low) / 16 ≡ high * 16 ^ b + low / 16 = omega arith in
    let r : (high * 16 ^ suc b + low) % 16 ≡ low % 16 = omega arith in
    let s : low / 16 < 16 ^ b = omega arith in
    rw (add-suc a b, d, r, hex_halves a b high (low / 16) s, append_assoc)

-- a space, the high half and the low half
pub hex_made : (low high : ℕ) → low < 2 ^ 32 → ((([] ++ (32 ∷ [])) ++ hex_digits 8 high) ++ hex_digits 8 low) ≡ hex_text low high
unfolding hex_text
hex_made low high h = ap (λ (l : List ℕ). 32 ∷ l) (sym (hex_halves 8 8 high low h))
