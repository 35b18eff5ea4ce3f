-- Loops that count, `while i < n { .. i += 1; }`: the invariant of one that makes f i t of t at turn i, of one that tests each index and returns
-- where a test fails, and a law for each need of their proofs. Assumes nothing.
use Prim.Native.Nat.{ℕ, zero, suc, ◌+◌, ◌≤◌, ◌<◌}
use mathlib.Core.Path.{◌≡◌, refl, ap, ◌∙◌}
use mathlib.Core.List.{List}
use native.Mathlib.Numerals.{add-one}
use native.Mathlib.Omega.{arith}
use mathlib.Core.Bool.{Bool, true, false, ◌&&◌, and-false}
use native.Mathlib.Nat.{le_of_suc-le-suc, not-suc-le-zero, eq-or-lt_of_le}
use mathlib.Core.Logic.{⊎_elim}
use lib.ListN.{length, get_or, take}
use Rattle.std.specs.List.{list_all}
use Rattle.std.proofs.lemmas.List.Folds.{list_all_more}
use Rattle.model.specs.Loops.{through, all_below}

-- the loop has made t of s in i turns, of at most n
pub record Ran {S : Type 0} (n : ℕ) (f : ℕ → S → S) (s : S) (i : ℕ) (t : S) : Type 0 where
  pub most : i ≤ n
  pub made : t ≡ through i f s

module _ {S : Type 0} {n : ℕ} {f : ℕ → S → S} {s : S} where
  pub begun : Ran n f s 0 s
  unfolding through
  begun = record { most = omega arith; made = refl }

  -- a turn: u is what f makes of t at i
  pub turned : {i : ℕ} {t u : S} → Ran n f s i t → i < n → u ≡ f i t → Ran n f s (i + 1) u
  unfolding through
  turned {i} {t} {u} r h e = record { most = omega arith; made = rw (add-one, ← r.made) e }

  -- the end: n turns, and n is the count that the definition names
  pub ended : {i m : ℕ} {t : S} → Ran n f s i t → n ≤ i → n ≡ m → t ≡ through m f s
  ended {i} {m} {t} r h e =
      let q : i ≡ m = omega arith in
      rw (← q) r.made

-- what no turn changes is as it was
pub kept :
    {S A : Type 0} (g : S → A) (f : ℕ → S → S) (s : S) → ((i : ℕ) (t : S) → g (f i t) ≡ g t) → (n : ℕ) → g (through n f s) ≡ g s
unfolding through
kept g f s h zero = refl
kept g f s h (suc n) = h n (through n f s) ∙ kept g f s h n

-- A counted loop that looks for an index at which a test fails, and returns there: its invariant, and the laws.

pub record Held (n : ℕ) (t : ℕ → Bool) (i : ℕ) : Type 0 where
  pub most : i ≤ n
  pub all : all_below i t ≡ true

module _ {n : ℕ} {t : ℕ → Bool} where
  pub held_begun : Held n t 0
  unfolding all_below
  held_begun = record { most = omega arith; all = refl }

  pub held_turned : {i : ℕ} → Held n t i → i < n → t i ≡ true → Held n t (i + 1)
  unfolding all_below
  held_turned {i} h l e = record { most = omega arith; all = rw (add-one, h.all, e) }

  pub held_ended : {i m : ℕ} → Held n t i → n ≤ i → n ≡ m → all_below m t ≡ true
  held_ended {i} {m} h l e =
      let q : i ≡ m = omega arith in
      rw (← q) h.all

pub both_left : (a b : Bool) → (a && b) ≡ true → a ≡ true
both_left true b e = refl
both_left false b e = e

pub both_right : (a b : Bool) → (a && b) ≡ true → b ≡ true
both_right true b e = e
both_right false true e = refl
both_right false false e = e

-- where all hold, each does; and the other way round
pub held_at : (n : ℕ) (t : ℕ → Bool) → all_below n t ≡ true → (i : ℕ) → i < n → t i ≡ true
unfolding all_below
held_at zero t e i l = absurd (not-suc-le-zero l)
held_at (suc n) t e i l =
    ⊎_elim (λ q. rw q (both_right (all_below n t) (t n) e))
    (λ m. held_at n t (both_left (all_below n t) (t n) e) i m)
    (eq-or-lt_of_le (le_of_suc-le-suc l))

pub all_below_lem : (n : ℕ) (t : ℕ → Bool) → ((i : ℕ) → i < n → t i ≡ true) → all_below n t ≡ true
unfolding all_below
all_below_lem zero t h = refl
all_below_lem (suc n) t h = rw (all_below_lem n t (λ i l. h i (omega arith)), h n (omega arith))

-- where one fails, not all hold
pub held_failed : (n : ℕ) (t : ℕ → Bool) (i : ℕ) → i < n → t i ≡ false → all_below n t ≡ false
unfolding all_below
held_failed zero t i l e = absurd (not-suc-le-zero l)
held_failed (suc n) t i l e =
    ⊎_elim (λ q. rw (← q, e, and-false))
    (λ m. rw (held_failed n t i m e))
    (eq-or-lt_of_le (le_of_suc-le-suc l))

-- a test of each of the first n entries, as the library's `all` makes it
pub all_first : {A : Type 0} (t : A → Bool) (xs : List A) (d : A) (n : ℕ) → n ≤ length xs → list_all t (take n xs) ≡ all_below n (λ i. t (get_or xs i d))
unfolding all_below
all_first t xs d zero h = refl
all_first t xs d (suc n) h =
    let more : list_all t (take (suc n) xs) ≡ (list_all t (take n xs) && t (get_or xs n d)) = rw add-one at (list_all_more t xs n d (omega arith)) in
    more ∙ ap (λ b. b && t (get_or xs n d)) (all_first t xs d n (omega arith))
