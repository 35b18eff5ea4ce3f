-- The indices that a test chooses: below the bound, rising, and such that the test holds. Assumes nothing.
use Prim.Native.Nat.{ℕ, zero, suc, ◌+◌, ◌≤◌, ◌<◌}
use mathlib.Core.Path.{◌≡◌, refl, sym, ap, ◌∙◌, subst}
use mathlib.Core.Bool.{Bool, true, false, cond, ◌||◌}
use mathlib.Core.List.{List, [], ◌∷◌, ◌++◌}
use mathlib.Core.Logic.{⊎_elim}
use native.Mathlib.Nat.{le_of_suc-le-suc, not-suc-le-zero, eq-or-lt_of_le}
use native.Mathlib.Omega.{arith}
use lib.ListN.{get_or, length, length-append, get_or-append}
use lib.Seq.{get_or-append_seam}
use Rattle.run_tables.specs.Chosen.{chosen}

-- an entry of the chosen: either the last, or one before it
pub record Chosen (test : ℕ → Bool) (n i : ℕ) : Type 0 where
  pub low : i < n
  pub holds : test i ≡ true

pub chosen_at : (test : ℕ → Bool) (n k : ℕ) → k < length (chosen test n) → Chosen test n (get_or (chosen test n) k 0)
unfolding chosen
chosen_at test zero k h = absurd (not-suc-le-zero h)
chosen_at test (suc n) k h = by (λ m. chosen_at test n m) (test n) refl h
  where
    C : List ℕ
    C = chosen test n

    up : (m : ℕ) → Chosen test n m → Chosen test (suc n) m
    up m c = record { low = omega (arith, c.low); holds = c.holds }

    by : ((m : ℕ) → m < length C → Chosen test n (get_or C m 0)) → (b : Bool) → test n ≡ b → k < length (cond b (C ++ (n ∷ [])) C) → Chosen test (suc n) (get_or (cond b (C ++ (n ∷ [])) C) k 0)
    by rec true e l =
        ⊎_elim
        (λ q. subst (Chosen test (suc n)) (sym (ap (λ (m : ℕ). get_or (C ++ (n ∷ [])) m 0) q ∙ get_or-append_seam C n [] 0)) (record { low = omega arith; holds = e }))
        (λ m. subst (Chosen test (suc n)) (sym (get_or-append C (n ∷ []) 0 k m)) (up (get_or C k 0) (rec k m)))
        (eq-or-lt_of_le (le_of_suc-le-suc (omega (arith, l, length-append C (n ∷ [])))))
    by rec false e l = up (get_or C k 0) (rec k l)

-- rising
pub chosen_rising : (test : ℕ → Bool) (n k m : ℕ) → k < m → m < length (chosen test n) → get_or (chosen test n) k 0 < get_or (chosen test n) m 0
unfolding chosen
chosen_rising test zero k m h l = absurd (not-suc-le-zero l)
chosen_rising test (suc n) k m h l = by (chosen_rising test n k m h) (test n) refl l
  where
    C : List ℕ
    C = chosen test n

    by : (m < length C → get_or C k 0 < get_or C m 0) → (b : Bool) → test n ≡ b → m < length (cond b (C ++ (n ∷ [])) C) → get_or (cond b (C ++ (n ∷ [])) C) k 0 < get_or (cond b (C ++ (n ∷ [])) C) m 0
    by rec true e l =
        ⊎_elim
        (λ q.
        let a : get_or (C ++ (n ∷ [])) k 0 ≡ get_or C k 0 = get_or-append C (n ∷ []) 0 k (omega arith) in
        let b : get_or (C ++ (n ∷ [])) m 0 ≡ n = ap (λ (j : ℕ). get_or (C ++ (n ∷ [])) j 0) q ∙ get_or-append_seam C n [] 0 in
        let c : get_or C k 0 < n = (chosen_at test n k (omega arith)).low in
        omega arith)
        (λ s.
        let a : get_or (C ++ (n ∷ [])) k 0 ≡ get_or C k 0 = get_or-append C (n ∷ []) 0 k (omega arith) in
        let b : get_or (C ++ (n ∷ [])) m 0 ≡ get_or C m 0 = get_or-append C (n ∷ []) 0 m s in
        let c : get_or C k 0 < get_or C m 0 = rec s in
        omega arith)
        (eq-or-lt_of_le (le_of_suc-le-suc (omega (arith, l, length-append C (n ∷ [])))))
    by rec false e l = rec l

pub chosen_few : (test : ℕ → Bool) (n : ℕ) → length (chosen test n) ≤ n
unfolding chosen
chosen_few test zero = omega arith
chosen_few test (suc n) = by (test n) (chosen_few test n)
  where
    by : (b : Bool) → length (chosen test n) ≤ n → length (cond b (chosen test n ++ (n ∷ [])) (chosen test n)) ≤ suc n
    by true r = omega (arith, r, length-append (chosen test n) (n ∷ []))
    by false r = omega (arith, r)

-- two tests that never hold together: together they choose as many as each by itself
pub chosen_both : (a b : ℕ → Bool) (n : ℕ) → ((i : ℕ) → i < n → a i ≡ true → b i ≡ true → ⊥)
    → length (chosen (λ i. a i || b i) n) ≡ length (chosen a n) + length (chosen b n)
unfolding chosen
chosen_both a b zero h = refl
chosen_both a b (suc n) h = by (a n) (b n) refl refl (chosen_both a b n (λ i l. h i (omega arith)))
  where
    A : List ℕ
    A = chosen a n

    B : List ℕ
    B = chosen b n

    AB : List ℕ
    AB = chosen (λ i. a i || b i) n

    by : (x y : Bool) → a n ≡ x → b n ≡ y → length AB ≡ length A + length B
        → length (cond (x || y) (AB ++ (n ∷ [])) AB) ≡ length (cond x (A ++ (n ∷ [])) A) + length (cond y (B ++ (n ∷ [])) B)
    by true true e f r = absurd (h n (omega arith) e f)
    by true false e f r = omega (arith, r, length-append AB (n ∷ []), length-append A (n ∷ []))
    by false true e f r = omega (arith, r, length-append AB (n ∷ []), length-append B (n ∷ []))
    by false false e f r = r
