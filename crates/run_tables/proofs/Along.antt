-- A loop over the indices at which a test holds is the loop over all of them, where the others do nothing. Assumes nothing.
use Prim.Native.Nat.{ℕ, zero, suc, ◌+◌, ◌≤◌, ◌<◌}
use mathlib.Core.Path.{◌≡◌, refl, sym, ap, ◌∙◌}
use mathlib.Core.Bool.{Bool, true, false, cond}
use mathlib.Core.List.{List, [], ◌∷◌, ◌++◌}
use native.Mathlib.Omega.{arith}
use lib.ListN.{length, get_or, take}
use lib.Seq.{take-suc, take_all}
use Rattle.model.specs.Loops.{through}
use Rattle.run_tables.specs.Chosen.{chosen}
use Rattle.run_tables.specs.Held.{Part}

-- f at each of a list, one after the other
unfoldable pub along : {S : Type 0} → List ℕ → (ℕ → S → S) → S → S
along [] f s = s
along (x ∷ xs) f s = along xs f (f x s)

along_more : {S : Type 0} (xs : List ℕ) (x : ℕ) (f : ℕ → S → S) (s : S) → along (xs ++ (x ∷ [])) f s ≡ f x (along xs f s)
unfolding along
along_more [] x f s = refl
along_more (y ∷ xs) x f s = along_more xs x f (f y s)

-- all the indices are the chosen ones, where the others do nothing
pub chosen_along : {S : Type 0} (test : ℕ → Bool) (n : ℕ) (f : ℕ → S → S) (s : S) → ((i : ℕ) (t : S) → i < n → test i ≡ false → f i t ≡ t)
    → through n f s ≡ along (chosen test n) f s
unfolding through chosen along
chosen_along test zero f s h = refl
chosen_along {S} test (suc n) f s h = by (test n) refl (chosen_along test n f s (λ i t l. h i t (omega arith)))
  where
    by : (b : Bool) → test n ≡ b → through n f s ≡ along (chosen test n) f s → f n (through n f s) ≡ along (cond b (chosen test n ++ (n ∷ [])) (chosen test n)) f s
    by true e r = ap (f n) r ∙ sym (along_more (chosen test n) n f s)
    by false e r = h n (through n f s) (omega arith) e ∙ r

-- a loop that acts where a test holds
pub chosen_cond : {S : Type 0} (test : ℕ → Bool) (n : ℕ) (f : ℕ → S → S) (s : S) → through n (λ i t. cond (test i) (f i t) t) s ≡ along (chosen test n) f s
unfolding through chosen along
chosen_cond test zero f s = refl
chosen_cond {S} test (suc n) f s = by (test n) (chosen_cond test n f s)
  where
    before : S
    before = through n (λ i t. cond (test i) (f i t) t) s

    by : (b : Bool) → before ≡ along (chosen test n) f s → cond b (f n before) before ≡ along (cond b (chosen test n ++ (n ∷ [])) (chosen test n)) f s
    by true r = ap (f n) r ∙ sym (along_more (chosen test n) n f s)
    by false r = r

pub same_along : {S : Type 0} (xs : List ℕ) (f g : ℕ → S → S) (s : S) → ((i : ℕ) (t : S) → f i t ≡ g i t) → along xs f s ≡ along xs g s
unfolding along
same_along [] f g s h = refl
same_along (x ∷ xs) f g s h = same_along xs f g (f x s) h ∙ ap (along xs g) (h x s)

-- a loop over indices that an array holds is the loop along the list that they are
held_take : {S : Type 0} (g : ℕ → ℕ) (xs : List ℕ) (f : ℕ → S → S) (s : S) (n : ℕ) → n ≤ length xs → ((i : ℕ) → i < n → g i ≡ get_or xs i 0)
    → through n (λ i. f (g i)) s ≡ along (take n xs) f s
unfolding through along
held_take g xs f s zero h e = refl
held_take g xs f s (suc n) h e =
    ap (f (g n)) (held_take g xs f s n (omega arith) (λ i l. e i (omega arith)))
    ∙ ap (λ (x : ℕ). f x (along (take n xs) f s)) (e n (omega arith))
    ∙ sym (ap (λ (ys : List ℕ). along ys f s) (take-suc xs n 0 (omega arith)) ∙ along_more (take n xs) (get_or xs n 0) f s)

pub held_along : {S : Type 0} (g : ℕ → ℕ) (xs : List ℕ) (f : ℕ → S → S) (s : S) (n : ℕ) → n ≡ length xs → ((i : ℕ) → i < n → g i ≡ get_or xs i 0)
    → through n (λ i. f (g i)) s ≡ along xs f s
held_along g xs f s n q e =
    held_take g xs f s n (omega arith) e ∙ ap (λ (ys : List ℕ). along ys f s) (take_all n xs (omega arith))

pub part_along : {S : Type 0} {array : List ℕ} {from n : ℕ} {xs : List ℕ} → Part array from n xs → (f : ℕ → S → S) (s : S)
    → through n (λ i. f (get_or array (from + i) 0)) s ≡ along xs f s
part_along {S} {array} {from} {n} {xs} h f s = held_along (λ i. get_or array (from + i) 0) xs f s n h.count h.each
