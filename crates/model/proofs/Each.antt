-- What stands at an index after a loop that changes a list from the front: below n what g makes of it, from n on what stood there; and how long the list
-- of an array of structs is. Assumes nothing.
use Prim.Native.Nat.{ℕ, zero, suc, ◌≤◌, ◌<◌}
use mathlib.Core.Path.{◌≡◌, refl, sym, ◌∙◌, ap}
use mathlib.Core.List.{List, map}
use mathlib.Core.Logic.{⊎_elim}
use native.Mathlib.Nat.{le_of_suc-le-suc, not-suc-le-zero, eq-or-lt_of_le}
use native.Mathlib.Omega.{arith}
use lib.ListN.{get_or, set, length, length-map, length-set}
use lib.Seq.{get_or-set_same, get_or-set_other}
use Rattle.model.specs.Loops.{through}

-- the list with g i of what stood at i in its place (d past the end)
abbrev pub changed : {A : Type 0} → (ℕ → A → A) → A → ℕ → List A → List A
changed g d i xs = set xs i (g i (get_or xs i d))

module _ {A : Type 0} (g : ℕ → A → A) (d : A) (xs : List A) where
  abbrev so_far : ℕ → List A
  so_far n = through n (changed g d) xs

  abbrev next : ℕ → A
  next n = g n (get_or (so_far n) n d)

  pub same_length : (n : ℕ) → length (through n (changed g d) xs) ≡ length xs
  unfolding through
  same_length zero = refl
  same_length (suc n) = simp length-set (same_length n)

  pub from : (n k : ℕ) → n ≤ k → get_or (through n (changed g d) xs) k d ≡ get_or xs k d
  unfolding through
  from zero k h = refl
  from (suc n) k h = get_or-set_other (so_far n) n k (next n) d (λ e. omega arith) ∙ from n k (omega arith)

  pub below : (n k : ℕ) → k < n → n ≤ length xs → get_or (through n (changed g d) xs) k d ≡ g k (get_or xs k d)
  unfolding through
  below zero k h l = absurd (not-suc-le-zero h)
  below (suc n) k h l =
      ⊎_elim
      (λ e. rw e (get_or-set_same (so_far n) n (next n) d (rw (same_length n) (omega arith)) ∙ ap (g n) (from n n (omega arith))))
      (λ m. get_or-set_other (so_far n) n k (next n) d (λ e. omega arith) ∙ below n k m (omega arith))
      (eq-or-lt_of_le (le_of_suc-le-suc h))

-- what owning an array of structs tells is of their machine values: the list of the structs is as long
pub mapped : {A B : Type 0} (f : A → B) (l : List A) (n : ℕ) → length (map f l) ≡ n → length l ≡ n
mapped f l n e = omega (arith, length-map l f)
