-- What the groups are: each is a rearrangement of exactly the links with an end at its tank, they stand in the table one behind the other, and they fit.
-- Assumes nothing.
use Prim.Native.Nat.{ℕ, zero, suc, ◌+◌, ◌≤◌, ◌<◌}
use mathlib.Core.Path.{◌≡◌, refl, sym, ◌∙◌}
use mathlib.Core.Bool.{Bool, true, false, cond, ◌&&◌, ◌||◌}
use mathlib.Core.List.{List, [], ◌∷◌, ◌++◌}
use mathlib.Core.Logic.{⊎_elim}
use native.Mathlib.Nat.{eq-or-lt_of_le}
use native.Mathlib.Omega.{arith}
use borrow.Author.Tests.{eqb-true, ne_eqb, lt-ltb, le-ltb, ltb-true}
use lib.Dec.{eqb, ltb}
use lib.ListN.{length, get_or, length-append, get_or-append}
use lib.Seq.{get_or-append-add}
use Rattle.clock.specs.Machine.{bit}
use Rattle.clock.specs.Demand3.{count_of}
use Rattle.clock.proofs.Tests.{lt_cases, eqb_ind}
use Rattle.model.specs.declared.project.Project.{Project}
use Rattle.tables.specs.Fit.{TablesFit}
use Rattle.run_tables.specs.Chosen.{chosen}
use Rattle.tank_links.specs.Groups.{ends_at, starts_at, touches, links_into, links_out_of, group, joined}

-- ---- how often a number is among the chosen: once where it is below the bound and the test holds, else never
count_append : (t : ℕ → Bool) (xs ys : List ℕ) → count_of t (xs ++ ys) ≡ count_of t xs + count_of t ys
unfolding count_of
count_append t [] ys = omega arith
count_append t (x ∷ xs) ys = omega (arith, count_append t xs ys)

last_count : (n : ℕ) (t : ℕ → Bool) (k : ℕ) → bit (ltb k n && t k) + bit (eqb k n && t n) ≡ bit (ltb k (suc n) && t k)
last_count n t k =
    lt_cases k n
    (λ l. rw (lt-ltb k n l, lt-ltb k (suc n) (omega arith), ne_eqb k n (λ e. omega arith)) (omega arith))
    (λ l.
    eqb_ind (λ b. bit (ltb k n && t k) + bit (b && t n) ≡ bit (ltb k (suc n) && t k)) k n
    (λ e. rw (le-ltb k n l, lt-ltb k (suc n) (omega arith), e) (omega arith))
    (λ e. rw (le-ltb k n l, le-ltb k (suc n) (omega arith)) (omega arith)))

one_more : (b : Bool) (k n : ℕ) (xs : List ℕ) → count_of (eqb k) (cond b (xs ++ (n ∷ [])) xs) ≡ count_of (eqb k) xs + bit (eqb k n && b)
unfolding count_of
one_more true k n xs = count_append (eqb k) xs (n ∷ []) ∙ by (eqb k n)
  where
    by : (b : Bool) → count_of (eqb k) xs + (bit b + 0) ≡ count_of (eqb k) xs + bit (b && true)
    by true = omega arith
    by false = omega arith
one_more false k n xs = by (eqb k n)
  where
    by : (b : Bool) → count_of (eqb k) xs ≡ count_of (eqb k) xs + bit (b && false)
    by true = omega arith
    by false = omega arith

pub chosen_count : (n : ℕ) (t : ℕ → Bool) (k : ℕ) → count_of (eqb k) (chosen t n) ≡ bit (ltb k n && t k)
unfolding chosen count_of
chosen_count zero t k = rw (le-ltb k 0 (omega arith))
chosen_count (suc n) t k = one_more (t n) k n (chosen t n) ∙ rw (chosen_count n t k) (last_count n t k)

-- ---- "each group is a rearrangement of exactly the links with an end at its tank": every number is as often in the one as among the other
module _ {p : Project} (fit : TablesFit p) where
  abbrev L : ℕ
  L = p.counts.links

  one_end : (k j : ℕ) → k < L → bit (ends_at p j k) + bit (starts_at p j k) ≡ bit (touches p j k)
  one_end k j l = go (ends_at p j k) (starts_at p j k) refl refl
    where
      go : (a b : Bool) → ends_at p j k ≡ a → starts_at p j k ≡ b → bit a + bit b ≡ bit (a || b)
      go true true e f = absurd ((fit.link k l).apart (eqb-true _ _ f ∙ sym (eqb-true _ _ e)))
      go true false e f = refl
      go false true e f = refl
      go false false e f = refl

  pub rearranged : (j k : ℕ) → count_of (eqb k) (group p j) ≡ count_of (eqb k) (chosen (touches p j) L)
  rearranged j k =
      count_append (eqb k) (links_into p j) (links_out_of p j)
      ∙ rw (chosen_count L (ends_at p j) k, chosen_count L (starts_at p j) k, chosen_count L (touches p j) k) (by (ltb k L) refl)
    where
      by : (b : Bool) → ltb k L ≡ b → bit (b && ends_at p j k) + bit (b && starts_at p j k) ≡ bit (b && touches p j k)
      by true h = one_end k j (ltb-true k L h)
      by false h = refl

-- ---- they stand one behind the other
pub grows : (f : ℕ → List ℕ) (n k : ℕ) → k ≤ n → length (joined f k) ≤ length (joined f n)
unfolding joined
grows f zero k h = let z : k ≡ 0 = omega arith in rw z (omega arith)
grows f (suc n) k h =
    lt_cases k (suc n)
    (λ l. omega (arith, grows f n k (omega arith), length-append (joined f n) (f n)))
    (λ l. let z : k ≡ suc n = omega arith in rw z (omega arith))

pub group_at : (f : ℕ → List ℕ) (n k i : ℕ) → k < n → i < length (f k) → get_or (joined f n) (length (joined f k) + i) 0 ≡ get_or (f k) i 0
unfolding joined
group_at f zero k i h l = absurd (omega arith)
group_at f (suc n) k i h l =
    ⊎_elim
    (λ q. rw q (get_or-append-add (joined f n) (f n) i 0))
    (λ m.
    get_or-append (joined f n) (f n) 0 (length (joined f k) + i) (omega (arith, length-append (joined f k) (f k), grows f n (suc k) m))
    ∙ group_at f n k i m l)
    (eq-or-lt_of_le (omega arith))
