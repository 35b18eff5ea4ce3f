-- Tests: what a call's answer says of the definition, and conjunctions as the definitions write them, a && b && .., grouped to the left.
-- Assumes nothing.
use mathlib.Core.Path.{◌≡◌, refl, sym, ◌∙◌}
use mathlib.Core.Bool.{Bool, true, false, ◌&&◌}
use mathlib.Core.List.{List, [], ◌∷◌}
use Prim.Native.Nat.{ℕ, zero, suc}
use lib.ListN.{get_or}
use Rattle.model.proofs.Loops.{both_left, both_right}

-- the code asks `if !a`, and a is the definition's t
pub failed : {a t : Bool} → a ≡ t → a ≡ false → t ≡ false
failed e h = sym e ∙ h

pub passed : {a t : Bool} → a ≡ t → a ≡ true → t ≡ true
passed e h = sym e ∙ h

-- the conjunction of a test and those after it
abbrev conj : Bool → List Bool → Bool
conj a [] = a
conj a (b ∷ l) = conj (a && b) l

-- where it holds, so does the k-th of them
pub each : (a : Bool) (l : List Bool) → conj a l ≡ true → (k : ℕ) → get_or (a ∷ l) k true ≡ true
each a [] e zero = e
each a [] e (suc k) = refl
each a (b ∷ l) e zero = both_left a b (each (a && b) l e 0)
each a (b ∷ l) e (suc zero) = both_right a b (each (a && b) l e 0)
each a (b ∷ l) e (suc (suc k)) = each (a && b) l e (suc k)

-- one conjunction follows from another, part by part
pub and_grow : {a b c d : Bool} → (a ≡ true → c ≡ true) → (b ≡ true → d ≡ true) → (a && b) ≡ true → (c && d) ≡ true
and_grow {a} {b} f g e = rw (f (both_left a b e), g (both_right a b e))
