-- A loop that fills an array from the front: its invariant, and the laws. Assumes nothing.
use Prim.Native.Nat.{ℕ, ◌+◌, ◌≤◌, ◌<◌}
use mathlib.Core.Path.{◌≡◌, sym, ap, ◌∙◌}
use mathlib.Core.List.{List, map}
use mathlib.Core.Logic.{⊎_elim}
use native.Mathlib.Nat.{eq-or-lt_of_le}
use native.Mathlib.Omega.{arith}
use lib.ListN.{get_or, set, length, length-map, length-set, get_or-map}
use lib.Seq.{get_or-set_same, get_or-set_other, ext_get_or}

-- the first i of n entries are what g gives
pub record Filled {A : Type 0} (d : A) (n : ℕ) (g : ℕ → A) (i : ℕ) (out : List A) : Type 0 where
  pub most : i ≤ n
  pub long : length out ≡ n
  pub each : (k : ℕ) → k < i → get_or out k d ≡ g k

module _ {A : Type 0} {d : A} {n : ℕ} {g : ℕ → A} where
  pub fill_none : {out : List A} → n ≡ length out → Filled d n g 0 out
  fill_none l = record { most = omega arith; long = sym l; each = λ k h. absurd (omega arith) }

  pub fill : {i : ℕ} {out : List A} {x : A} → Filled d n g i out → i < n → x ≡ g i → Filled d n g (i + 1) (set out i x)
  fill {i} {out} {x} f l e = record {
    most = omega arith;
    long = length-set out i x ∙ f.long;
    each = λ k h.
        ⊎_elim (λ q. rw q (get_or-set_same out i x d (omega (arith, f.long)) ∙ e))
        (λ m. get_or-set_other out i k x d (λ q. omega arith) ∙ f.each k m)
        (eq-or-lt_of_le (omega arith));
  }

  -- a list with the same entries
  pub full : {i : ℕ} {out xs : List A} → Filled d n g i out → n ≤ i → length xs ≡ n → ((k : ℕ) → k < n → get_or xs k d ≡ g k) → out ≡ xs
  full {i} {out} {xs} f l long same =
      ext_get_or d out xs (f.long ∙ sym long) (λ k h. f.each k (omega (arith, f.long)) ∙ sym (same k (omega (arith, f.long))))

  -- what a function makes of the entries
  pub full_map : {B : Type 0} (h : A → B) {i : ℕ} {out : List A} {ys : List B} → Filled d n g i out → n ≤ i → length ys ≡ n
      → ((k : ℕ) → k < n → get_or ys k (h d) ≡ h (g k)) → map h out ≡ ys
  full_map h {i} {out} {ys} f l long same =
      ext_get_or (h d) (map h out) ys (length-map out h ∙ f.long ∙ sym long)
      (λ k m. get_or-map h out k d ∙ ap h (f.each k (omega (arith, length-map out h, f.long))) ∙ sym (same k (omega (arith, length-map out h, f.long))))

-- a projection of a list, entry by entry
pub projected : {A B : Type 0} (h : A → B) (d : A) {n i : ℕ} {out : List B} (xs : List A)
    → Filled (h d) n (λ k. h (get_or xs k d)) i out → n ≤ i → length xs ≡ n → out ≡ map h xs
projected h d xs f l long = full f l (length-map xs h ∙ long) (λ k m. get_or-map h xs k d)
