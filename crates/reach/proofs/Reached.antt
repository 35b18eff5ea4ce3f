-- The answers and the Rust's numbers, both ways: "The old 0 is arrived, MAX never, the rest the same seconds". Assumes nothing.
use Prim.Native.Nat.{ℕ}
use mathlib.Core.Path.{◌≡◌, refl, ap, sym, ◌∙◌}
use mathlib.Core.Bool.{Bool, true, false, cond}
use lib.Dec.{eqb}
use borrow.Author.Tests.{eqb-true, eqb-false, ne_eqb}
use Rattle.number.specs.Constants.{MAX}
use Rattle.reach.specs.Reach.{reach_of, seconds_of}
use Rattle.reach.specs.declared.Reach.{Reach}
use Rattle.reach.specs.declared.Reach.TheVariants.{Arrived, Seconds, Never}

-- an answer made of a number gives it back
pub seconds_of_reach : (n : ℕ) → seconds_of (reach_of n) ≡ n
unfolding reach_of
seconds_of_reach n = go (eqb n 0) (eqb n MAX) refl refl
  where
    go : (a b : Bool) → eqb n 0 ≡ a → eqb n MAX ≡ b → seconds_of (cond a Arrived (cond b Never (Seconds n))) ≡ n
    go true b e f = sym (eqb-true n 0 e)
    go false true e f = sym (eqb-true n MAX f)
    go false false e f = refl

-- what each answer says of the old number
abbrev pub Says : Reach → ℕ → Type 0
Says Arrived n = n ≡ 0
Says (Seconds m) n = (n ≡ m) × (n ≡ 0 → ⊥) × (n ≡ MAX → ⊥)
Says Never n = n ≡ MAX

-- from the number to the answer: what is answered holds of the number
pub answered : (n : ℕ) → Says (reach_of n) n
unfolding reach_of
answered n = go (eqb n 0) (eqb n MAX) refl refl
  where
    go : (a b : Bool) → eqb n 0 ≡ a → eqb n MAX ≡ b → Says (cond a Arrived (cond b Never (Seconds n))) n
    go true b e f = eqb-true n 0 e
    go false true e f = eqb-true n MAX f
    go false false e f = (refl, eqb-false n 0 e, eqb-false n MAX f)

-- and back: an answer that holds of the number is the one given
pub only_answer : (r : Reach) (n : ℕ) → Says r n → reach_of n ≡ r
unfolding reach_of
only_answer Arrived n e = rw (e)
only_answer (Seconds m) n (e, f, g) = rw (ne_eqb n 0 f, ne_eqb n MAX g, e)
only_answer Never n e = rw (e)

-- ---- what a function that answers has to show: the answer, and with it its seconds
pub both : {r : Reach} {m n : ℕ} → r ≡ reach_of m → n ≡ m → (r ≡ reach_of n) × (seconds_of r ≡ n)
both {r} {m} {n} e f = (e ∙ ap reach_of (sym f), ap seconds_of e ∙ seconds_of_reach m ∙ sym f)

pub arrived : {n : ℕ} → n ≡ 0 → (Arrived ≡ reach_of n) × (seconds_of Arrived ≡ n)
unfolding reach_of
arrived e = both refl e

pub never : {n : ℕ} → n ≡ MAX → (Never ≡ reach_of n) × (seconds_of Never ≡ n)
unfolding reach_of
never e = both refl e
