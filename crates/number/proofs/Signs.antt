-- A number's magnitude, by comparisons with 0. Assumes nothing.
use Rattle.std.proofs.Common.{◌≡◌, ℕ, zero, suc, ◌+◌, ◌*◌, ◌<◌, ◌≤◌, Bool, true, false, not, ◌&&◌, ◌||◌, T, eqb, ltb, ℤ, pos, negsuc, sym, refl, ap, ◌∙◌, subst, lt_irrefl, zero-lt-suc, mul-pos, zero-mul, arith, eqb→eq, ltb→lt, nltb→le, T_not}
use mathlib.Core.Bool.{beq}
use lib.Ieee.{Float, nan, inf, fin, binary64, up, down, lt, eq, neg, fits}
use lib.Ieee.Fits.{and_l, and_i, eq→eqb, up_pos, down_pos}
use lib.Ieee.Back.{whole_unique}
use Rattle.number.specs.Order.{abs}

-- the magnitude of a zero is +0
zero_is : (s : Bool) (e : ℤ) → T (fits binary64 (fin s 0 e)) → fin false 0 (pos 0) ≡ fin false 0 e
unfolding fits
zero_is s e t = whole_unique binary64 (fin false 0 (pos 0)) (fin false 0 e) false 0 tt t (refl, refl) (refl, nil e)
  where
    nil : (e : ℤ) → 0 * up e * 1 ≡ 0 * down e
    nil e = omega arith

not_zero : (n u d : ℕ) → 0 < n * u → n * u * 1 ≡ 0 * 1 * d → ⊥
not_zero n u d h p = omega arith

pub at_zero : (x : Float) → T (fits binary64 x) → T (eq x (fin false 0 (pos 0))) → fin false 0 (pos 0) ≡ abs x
unfolding eq
at_zero nan t p = absurd p
at_zero (inf s) t p = absurd p
at_zero (fin s zero e) t p = zero_is s e t
at_zero (fin s (suc m) e) t p =
    let a = suc m * up e * 1 in
    absurd (not_zero (suc m) (up e) (down e) (mul-pos (zero-lt-suc m) (up_pos e)) (eqb→eq a (0 * 1 * down e) (and_l (eqb a (0 * 1 * down e)) (beq s false || eqb a 0) p)))

pub below_zero : (x : Float) → T (lt x (fin false 0 (pos 0))) → neg x ≡ abs x
unfolding lt neg
below_zero nan p = absurd p
below_zero (inf true) p = refl
below_zero (inf false) p = absurd p
below_zero (fin true m e) p = refl
below_zero (fin false m e) p = absurd (none (m * up e * 1) (down e) (ltb→lt (m * up e * 1) (0 * 1 * down e) p))
  where
    none : (a d : ℕ) → a < 0 * d → ⊥
    none a d h = omega arith

-- a negative number that is not below 0 is -0
pub above_zero : (x : Float) → T (not (eq x (fin false 0 (pos 0)))) → T (not (lt x (fin false 0 (pos 0)))) → x ≡ abs x
unfolding lt eq
above_zero nan q p = refl
above_zero (inf true) q p = absurd p
above_zero (inf false) q p = refl
above_zero (fin false m e) q p = refl
above_zero (fin true m e) q p =
    let a = m * up e * 1 in
    let b = 0 * 1 * down e in
    let l : a + b ≤ 0 = nltb→le 0 (a + b) p in
    let x : a ≡ b = omega arith in
    let y : a ≡ 0 = omega arith in
    absurd (T_not (eqb a b && eqb a 0) q (and_i (eqb a b) (eqb a 0) (eq→eqb x) (eq→eqb y)))
