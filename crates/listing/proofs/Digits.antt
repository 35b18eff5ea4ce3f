-- The decimal digits of a number, taken off from the last.
-- Assumes nothing.
use Prim.Native.Nat.{ℕ, zero, suc, ◌+◌, ◌-◌, ◌*◌, ◌/◌, ◌%◌, ◌^◌, ◌≤◌, ◌<◌}
use mathlib.Core.Path.{◌≡◌, refl, sym, ap, ◌∙◌}
use mathlib.Core.Bool.{Bool, true, false, cond}
use mathlib.Core.List.{List, [], ◌∷◌, ◌++◌, append_assoc, append-nil}
use native.Mathlib.Nat.{pow-suc}
use native.Mathlib.Omega.{arith}
use borrow.Author.Tests.{lt-ltb, le-ltb}
use lib.Dec.{ltb}
use lib.ListN.{length, set, length-append}
use Rattle.listing.specs.Numbers.{decimal_digits, decimal_text}
use Rattle.listing.specs.Text.{pasted}
use Rattle.listing.proofs.Writing.{Written, written_none, written_more, written_all}

-- the digits of n are those of r, and then the tail
pub record Split (n r : ℕ) (tail : List ℕ) : Type 0 where
  pub more : ℕ
  pub count : more + length tail ≡ 9
  pub small : r < 10 ^ suc more
  pub split : decimal_text n ≡ decimal_digits more r ++ tail

pub split_begun : {n : ℕ} → n < 2 ^ 32 → Split n n []
split_begun {n} h = record { more = 9; count = refl; small = omega arith; split = sym (append-nil (decimal_digits 9 n)) }

step : (n r more : ℕ) (tail : List ℕ) → 10 ≤ r → more + length tail ≡ 9 → r < 10 ^ suc more → decimal_text n ≡ decimal_digits more r ++ tail → Split n (r / 10) ((48 + r % 10) ∷ tail)
unfolding decimal_digits
step n r zero tail h c s e = absurd (omega arith)
step n r (suc k) tail h c s e =
    let p : 10 ^ suc (suc k) ≡ 10 ^ suc k * 10 = pow-suc 10 (suc k) in
    record {
      more = k;
      count = omega arith;
      small = omega arith;
      split = e ∙ rw (le-ltb r 10 h, append_assoc);
    }

pub split_more : {n r : ℕ} {tail : List ℕ} → 10 ≤ r → Split n r tail → Split n (r / 10) ((48 + r % 10) ∷ tail)
split_more {n} {r} {tail} h s = step n r s.more tail h s.count s.small s.split

one : (k r : ℕ) → r < 10 → decimal_digits k r ≡ (48 + r) ∷ []
unfolding decimal_digits
one zero r h = refl
one (suc k) r h = rw (lt-ltb r 10 h)

pub split_ended : {n r : ℕ} {tail : List ℕ} → r < 10 → Split n r tail → decimal_text n ≡ (48 + r) ∷ tail
split_ended {n} {r} {tail} h s = s.split ∙ rw (one s.more r h)

-- a number has 1 to k + 1 digits
either : (b : Bool) (x y : List ℕ) (least most : ℕ) → (least ≤ length x) × (length x ≤ most) → (least ≤ length y) × (length y ≤ most)
    → (least ≤ length (cond b x y)) × (length (cond b x y) ≤ most)
either true x y least most p q = p
either false x y least most p q = q

pub digits_count : (k r : ℕ) → (1 ≤ length (decimal_digits k r)) × (length (decimal_digits k r) ≤ suc k)
unfolding decimal_digits
digits_count zero r = (omega arith, omega arith)
digits_count (suc k) r =
    let l = length-append (decimal_digits k (r / 10)) ((48 + r % 10) ∷ []) in
    let d = digits_count k (r / 10) in
    either (ltb r 10) ((48 + r) ∷ []) (decimal_digits k (r / 10) ++ ((48 + r % 10) ∷ [])) 1 (suc (suc k)) (omega arith, omega arith) (omega (arith, l), omega (arith, l, d.1))

-- k - 1 digits have been counted, and r is left
pub record Counted (n k r : ℕ) : Type 0 where
  pub tail : List ℕ
  pub split : Split n r tail
  pub count : k ≡ length tail + 1

-- the digits from i on have been written, and r is left for those before
pub record Spelled (buf : List ℕ) (at n k : ℕ) (now : List ℕ) (i r : ℕ) : Type 0 where
  pub tail : List ℕ
  pub split : Split n r tail
  pub written : Written buf (at + k) now i tail

pub spelled_begun : {buf : List ℕ} {at n k : ℕ} → n < 2 ^ 32 → Spelled buf at n k buf (at + k) n
spelled_begun {buf} {at} {n} {k} h = record { tail = []; split = split_begun h; written = written_none buf (at + k) }

module _ {buf : List ℕ} {at n k : ℕ} (e : k ≡ length (decimal_text n)) where
  -- what is left has a digit, so that there is a place for it
  pub spelled_last : {now : List ℕ} {i r : ℕ} → Spelled buf at n k now i r → at < i
  spelled_last {now} {i} {r} v =
      let s = v.split in
      omega (arith, v.written.place, e, ap length s.split ∙ length-append (decimal_digits s.more r) v.tail, (digits_count s.more r).0)

  module _ (room : at + k ≤ length buf) where
    pub spelled_more : {now : List ℕ} {i r : ℕ} → 10 ≤ r → Spelled buf at n k now i r → Spelled buf at n k (set now (i - 1) (48 + r % 10)) (i - 1) (r / 10)
    spelled_more {now} {i} {r} h v =
        let q : i ≡ suc (i - 1) = omega (arith, spelled_last v) in
        record { tail = (48 + r % 10) ∷ v.tail; split = split_more h v.split; written = written_more (48 + r % 10) room q v.written }

    pub spelled_ended : {now : List ℕ} {i r : ℕ} → r < 10 → Spelled buf at n k now i r → set now at (48 + r) ≡ pasted buf at (decimal_text n)
    spelled_ended {now} {i} {r} h v =
        let d = split_ended h v.split in
        let q : i ≡ suc at = omega (arith, e ∙ ap length d, v.written.place) in
        written_all (written_more (48 + r) room q v.written) ∙ rw d
