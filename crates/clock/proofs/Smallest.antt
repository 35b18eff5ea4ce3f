-- `smallest_positive` is the least of a list's members that are not 0, and MAX where there is none, so it depends on what the members are and
-- not on their order. By induction over the list, with a split on each member's test against 0. Assumes nothing.
use Prim.Native.Nat.{ℕ, ◌≤◌, ◌<◌, min}
use mathlib.Core.Path.{◌≡◌, refl, sym, ap, subst}
use mathlib.Core.Logic.{◌⊎◌, inl, inr}
use mathlib.Core.Bool.{cond}
use mathlib.Core.List.{List, [], ◌∷◌, map}
use native.Mathlib.Omega.{arith}
use Rattle.number.specs.Constants.{MAX}
use Rattle.clock.specs.declared.length.Times.{Times}
use Rattle.clock.specs.Steps.{smallest_positive}
use Rattle.clock.specs.Triggers.{Trigger, Moment, candidate, control_time}
use Rattle.clock.proofs.Tests.{lt_cases, eqb_ind}

-- ---- members
abbrev pub Member : {A : Type 0} → A → List A → Type 0
Member a [] = ⊥
Member a (x ∷ xs) = (a ≡ x) ⊎ Member a xs

-- each member of xs is one of ys
abbrev pub Among : {A : Type 0} → List A → List A → Type 0
Among {A} xs ys = (a : A) → Member a xs → Member a ys

member_map : {A B : Type 0} (f : A → B) (a : A) (xs : List A) → Member a xs → Member (f a) (map f xs)
member_map f a [] h = absurd h
member_map f a (x ∷ xs) (inl e) = inl (ap f e)
member_map f a (x ∷ xs) (inr h) = inr (member_map f a xs h)

among_map : {A B : Type 0} (f : A → B) (xs ys : List A) → Among xs ys → Among (map f xs) (map f ys)
among_map f [] ys g b h = absurd h
among_map f (x ∷ xs) ys g b (inl e) = subst (λ c. Member c (map f ys)) (sym e) (member_map f x ys (g x (inl refl)))
among_map f (x ∷ xs) ys g b (inr h) = among_map f xs ys (λ a k. g a (inr k)) b h

-- ---- the smallest
pub smallest_positive_lem : (xs : List ℕ) → 0 < smallest_positive xs
unfolding smallest_positive
smallest_positive_lem [] = omega arith
smallest_positive_lem (x ∷ xs) =
    let r : 0 < smallest_positive xs = smallest_positive_lem xs in
    eqb_ind (λ b. 0 < cond b (smallest_positive xs) (min x (smallest_positive xs))) x 0 (λ e. r) (λ e. omega arith)

pub smallest_max : (xs : List ℕ) → smallest_positive xs ≤ MAX
unfolding smallest_positive
smallest_max [] = omega arith
smallest_max (x ∷ xs) =
    let r : smallest_positive xs ≤ MAX = smallest_max xs in
    eqb_ind (λ b. cond b (smallest_positive xs) (min x (smallest_positive xs)) ≤ MAX) x 0 (λ e. r) (λ e. omega arith)

pub smallest_le : {n : ℕ} (xs : List ℕ) → 0 < n → Member n xs → smallest_positive xs ≤ n
unfolding smallest_positive
smallest_le [] p h = absurd h
smallest_le {n} (x ∷ xs) p (inl q) =
    eqb_ind (λ b. cond b (smallest_positive xs) (min x (smallest_positive xs)) ≤ n) x 0 (λ e. omega arith) (λ e. omega arith)
smallest_le {n} (x ∷ xs) p (inr h) =
    let r : smallest_positive xs ≤ n = smallest_le xs p h in
    eqb_ind (λ b. cond b (smallest_positive xs) (min x (smallest_positive xs)) ≤ n) x 0 (λ e. r) (λ e. omega arith)

pub smallest_member : {n : ℕ} (xs : List ℕ) → n ≡ smallest_positive xs → (n ≡ MAX) ⊎ Member n xs
unfolding smallest_positive
smallest_member [] e = inl e
smallest_member {n} (x ∷ xs) q =
    eqb_ind (λ b. n ≡ cond b (smallest_positive xs) (min x (smallest_positive xs)) → (n ≡ MAX) ⊎ Member n (x ∷ xs)) x 0
    (λ z e. later (smallest_member xs e))
    (λ z e. lt_cases x (smallest_positive xs) (λ l. inr (inl (omega arith))) (λ l. later (smallest_member xs (omega arith))))
    q
  where
    later : (n ≡ MAX) ⊎ Member n xs → (n ≡ MAX) ⊎ Member n (x ∷ xs)
    later (inl e) = inl e
    later (inr h) = inr (inr h)

smallest_among : (xs ys : List ℕ) → Among ys xs → smallest_positive xs ≤ smallest_positive ys
smallest_among xs ys f = by (smallest_member ys refl)
  where
    by : (smallest_positive ys ≡ MAX) ⊎ Member (smallest_positive ys) ys → smallest_positive xs ≤ smallest_positive ys
    by (inl e) = omega (arith, smallest_max xs)
    by (inr h) = smallest_le xs (smallest_positive_lem ys) (f (smallest_positive ys) h)

-- the same for lists with the same members, in whatever order and however often
pub smallest_same : (xs ys : List ℕ) → Among xs ys → Among ys xs → smallest_positive xs ≡ smallest_positive ys
smallest_same xs ys f g = omega (arith, smallest_among xs ys g, smallest_among ys xs f)

-- and so for any order of the controls
pub control_time_same : {L : Type 0} (o : Times) (ts us : List (Trigger L)) (m : Moment L) (time : ℕ) → Among ts us → Among us ts
    → control_time o ts m time ≡ control_time o us m time
unfolding control_time
control_time_same o ts us m time f g = smallest_same _ _ (among_map (candidate o m time) ts us f) (among_map (candidate o m time) us ts g)
