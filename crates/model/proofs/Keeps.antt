-- What a counted loop keeps: a fact that each turn hands on, and a fact of every entry of a list. Assumes nothing.
use Prim.Native.Nat.{ℕ, zero, suc, ◌+◌, ◌≤◌, ◌<◌}
use mathlib.Core.Path.{◌≡◌, refl, sym, ap, ◌∙◌, subst}
use mathlib.Core.Bool.{Bool, true, false}
use mathlib.Core.List.{List}
use native.Mathlib.Omega.{arith}
use lib.Dec.{eqb, ltb}
use borrow.Author.Tests.{eqb-true, eqb-false, ltb-true, ltb-false}
use lib.ListN.{length, get_or, set, length-set, get_or-eq_default}
use lib.Seq.{get_or-set_same, get_or-set_other}
use Rattle.model.specs.Loops.{through}

-- P, at 0 of the start and handed on from i to i + 1 by turn i, holds at the end
pub keeps : {S : Type 0} (P : ℕ → S → Type 0) (f : ℕ → S → S) (s : S) (n : ℕ) → P 0 s → ((i : ℕ) (t : S) → i < n → P i t → P (suc i) (f i t)) → P n (through n f s)
unfolding through
keeps P f s zero b h = b
keeps P f s (suc n) b h = h n (through n f s) (omega arith) (keeps P f s n b (λ i t l. h i t (omega arith)))

-- what holds of an entry, and of the one written if it is that one, holds after the writing: whatever the list's length
pub set_keeps : {A : Type 0} (P : A → Type 0) (l : List A) (k i : ℕ) (v d : A) → (i ≡ k → P v) → P (get_or l i d) → P (get_or (set l k v) i d)
set_keeps P l k i v d new old = go (eqb i k) (ltb k (length l)) refl refl
  where
    go : (a b : Bool) → eqb i k ≡ a → ltb k (length l) ≡ b → P (get_or (set l k v) i d)
    go false b x y = subst P (sym (get_or-set_other l k i v d (eqb-false i k x))) old
    go true true x y =
        let e : i ≡ k = eqb-true i k x in
        subst P (sym (ap (λ (j : ℕ). get_or (set l k v) j d) e ∙ get_or-set_same l k v d (ltb-true k (length l) y))) (new e)
    go true false x y =
        let e : i ≡ k = eqb-true i k x in
        let m : length l ≤ k = ltb-false k (length l) y in
        let past : get_or l i d ≡ d = get_or-eq_default l d (omega arith) in
        let past' : get_or (set l k v) i d ≡ d = get_or-eq_default (set l k v) d (omega (arith, length-set l k v)) in
        subst P (past ∙ sym past') old
