-- To prove P of a test, prove it of each answer from what that answer tells. Assumes nothing.
use Prim.Native.Nat.{ℕ, ◌≤◌, ◌<◌}
use mathlib.Core.Path.{◌≡◌, refl}
use mathlib.Core.Bool.{Bool, true, false}
use lib.Dec.{ltb, leb, eqb}
use borrow.Author.Tests.{ltb-true, ltb-false, leb-true, leb-false, eqb-true, eqb-false}

pub ltb_ind : (P : Bool → Type 0) (a b : ℕ) → (a < b → P true) → (b ≤ a → P false) → P (ltb a b)
ltb_ind P a b f g = go (ltb a b) refl
  where
    go : (x : Bool) → ltb a b ≡ x → P x
    go true e = f (ltb-true a b e)
    go false e = g (ltb-false a b e)

pub lt_cases : {P : Type 0} (a b : ℕ) → (a < b → P) → (b ≤ a → P) → P
lt_cases {P} a b f g = ltb_ind (λ _. P) a b f g

pub leb_ind : (P : Bool → Type 0) (a b : ℕ) → (a ≤ b → P true) → (b < a → P false) → P (leb a b)
leb_ind P a b f g = go (leb a b) refl
  where
    go : (x : Bool) → leb a b ≡ x → P x
    go true e = f (leb-true a b e)
    go false e = g (leb-false a b e)

pub eqb_ind : (P : Bool → Type 0) (a b : ℕ) → (a ≡ b → P true) → ((a ≡ b → ⊥) → P false) → P (eqb a b)
eqb_ind P a b f g = go (eqb a b) refl
  where
    go : (x : Bool) → eqb a b ≡ x → P x
    go true e = f (eqb-true a b e)
    go false e = g (eqb-false a b e)
