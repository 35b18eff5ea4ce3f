-- The range tests against `Within` and `Beyond`: `within` passes exactly where x is finite and at most the limit in size. Assumes nothing.
use Rattle.std.proofs.Common.{◌≡◌, ℕ, zero, suc, ◌+◌, ◌*◌, ◌<◌, ◌≤◌, Bool, true, false, cond, not, ◌&&◌, ◌||◌, T, eqb, ltb, ◌⊎◌, sym, refl, ap, ◌∙◌, subst, inl, inr, true≢false, le_trans, le_of_eq, le_of_lt, mul-le-mul_right, mul_assoc, mul_comm, eq-or-lt_of_le, mul-le-mul_left, mul-pos, mul-one, mul_right_comm, le_of_mul-le-mul_right, mul_left_comm, arith, eqb→eq, ltb→lt, lt→ltb, nltb→le}
use mathlib.Core.Bool.{beq}
use lib.Ieee.{Float, nan, inf, fin, up, down, neg, lt, eq, le}
use lib.Ieee.Positive.{positive}
use lib.Ieee.Scale.{finite}
use lib.Ieee.Fits.{up_pos, down_pos, and_l, and_r, and_i, eq→eqb}
use lib.Ieee.Exact.{HasValue}
use Rattle.number.specs.Order.{in_range, within}
use Rattle.number.specs.Bounds.{Within, Beyond}

-- below or equal, with the equation either way round
le_of : (a b : ℕ) (q : Bool) → (T q → a ≡ b) → T (ltb a b || (q && true)) → a ≤ b
le_of a b q e = go (ltb a b) q (ltb→lt a b) e
  where
    go : (p q : Bool) → (T p → a < b) → (T q → a ≡ b) → T (p || (q && true)) → a ≤ b
    go true q l e t = le_of_lt (l tt)
    go false true l e t = le_of_eq (e tt)
    go false false l e t = absurd t

of_le : (a b : ℕ) (q : Bool) → (a ≡ b → T q) → a ≤ b → T (ltb a b || (q && true))
of_le a b q f h = elim (eq-or-lt_of_le h) [ inl e ↦ right (ltb a b) q (f e) | inr l ↦ left (ltb a b) q (lt→ltb a b l) ]
  where
    left : (p q : Bool) → T p → T (p || (q && true))
    left true q t = tt
    left false q t = absurd t

    right : (p q : Bool) → T q → T (p || (q && true))
    right true q t = tt
    right false true t = tt
    right false false t = absurd t

-- a number that is not negative is not below one that is not positive
apart : (a b : ℕ) → T (ltb 0 (a + b) || (eqb a b && eqb a 0))
apart a b = go (ltb 0 (a + b)) (λ n. n)
  where
    go : (p : Bool) → (T (not p) → T (not (ltb 0 (a + b)))) → T (p || (eqb a b && eqb a 0))
    go true n = tt
    go false n =
        let l : a + b ≤ 0 = nltb→le 0 (a + b) (n tt) in
        let x : a ≡ b = omega arith in
        let y : a ≡ 0 = omega arith in
        and_i (eqb a b) (eqb a 0) (eq→eqb x) (eq→eqb y)

-- x / p ≤ y / r, and y / r = n
down_to : (x p y r n : ℕ) → 0 < r → y * 1 ≡ n * r → x * r ≤ y * p → x ≤ n * p
down_to x p y r n R e h =
    le_of_mul-le-mul_right (le_trans h (le_of_eq (ap (λ (z : ℕ). z * p) (sym (mul-one y) ∙ e) ∙ mul_right_comm n r p))) R

up_to : (x p y r n : ℕ) → y * 1 ≡ n * r → x ≤ n * p → x * r ≤ y * p
up_to x p y r n e h = le_trans (mul-le-mul_right r h) (le_of_eq (mul_right_comm n p r ∙ ap (λ (z : ℕ). z * p) (sym e ∙ mul-one y)))

-- ---- the limit is n
pub within_of_test : (x limit : Float) (n : ℕ) → HasValue limit false n 1 → T (within limit x) → Within x n
unfolding within in_range le neg
within_of_test (fin false m e) (fin false k g) n v t =
    let a = m * up e * down g in
    let b = k * up g * down e in
    record {
      is_finite = tt;
      size = down_to (m * up e) (down e) (k * up g) (down g) n (down_pos g) v.1
          (le_of a b (eqb a b) (eqb→eq a b) (and_r (le (fin true k g) (fin false m e)) (le (fin false m e) (fin false k g)) t));
    }
within_of_test (fin true m e) (fin false k g) n v t =
    let a = m * up e * down g in
    let b = k * up g * down e in
    record {
      is_finite = tt;
      size = down_to (m * up e) (down e) (k * up g) (down g) n (down_pos g) v.1
          (le_of a b (eqb b a) (λ i. sym (eqb→eq b a i)) (and_l (le (fin true k g) (fin true m e)) (le (fin true m e) (fin false k g)) t));
    }
within_of_test (inf true) (fin false k g) n v t = absurd t
within_of_test (inf false) (fin false k g) n v t = absurd t
within_of_test nan (fin false k g) n v t = absurd t
within_of_test x (fin true k g) n v t = absurd (true≢false v.0)
within_of_test x (inf s) n v t = absurd v
within_of_test x nan n v t = absurd v

pub test_of_within : (x limit : Float) (n : ℕ) → HasValue limit false n 1 → Within x n → T (within limit x)
unfolding within in_range le neg
test_of_within (fin false m e) (fin false k g) n v w =
    let a = m * up e * down g in
    let b = k * up g * down e in
    and_i (le (fin true k g) (fin false m e)) (le (fin false m e) (fin false k g)) (apart b a)
    (of_le a b (eqb a b) (λ i. eq→eqb i) (up_to (m * up e) (down e) (k * up g) (down g) n v.1 w.size))
test_of_within (fin true m e) (fin false k g) n v w =
    let a = m * up e * down g in
    let b = k * up g * down e in
    and_i (le (fin true k g) (fin true m e)) (le (fin true m e) (fin false k g))
    (of_le a b (eqb b a) (λ i. eq→eqb (sym i)) (up_to (m * up e) (down e) (k * up g) (down g) n v.1 w.size)) (apart a b)
test_of_within (inf s) (fin false k g) n v w = absurd w.is_finite
test_of_within nan (fin false k g) n v w = absurd w.is_finite
test_of_within x (fin true k g) n v w = absurd (true≢false v.0)
test_of_within x (inf s) n v w = absurd v
test_of_within x nan n v w = absurd v

-- ---- x is not below a number that is above 0
no_level_lem : (a b : ℕ) → 0 < a → T (false || (eqb a b && eqb a 0)) → ⊥
no_level_lem a b h t = let z : a ≡ 0 = eqb→eq a 0 (and_r (eqb a b) (eqb a 0) t) in omega arith

pub beyond_of_le : (least x : Float) (q : ℕ) → T (positive least) → Beyond least q → T (finite x) → T (le least x) → Beyond x q
unfolding le
beyond_of_le (fin false k g) (fin false m e) q p b f t =
    let h : k * up g * down e ≤ m * up e * down g = le_of (k * up g * down e) (m * up e * down g) (eqb (k * up g * down e) (m * up e * down g)) (eqb→eq (k * up g * down e) (m * up e * down g)) t in
    record {
      is_finite = tt;
      size = le_of_mul-le-mul_right
          (le_trans (mul-le-mul_left (down e) b.size)
          (le_trans (le_of_eq (turn (down e) (k * up g) q)) (le_trans (mul-le-mul_right q h) (le_of_eq (mul_right_comm (m * up e) (down g) q))))) (down_pos g);
    }
  where
    turn : (d u q : ℕ) → d * (u * q) ≡ u * d * q
    turn d u q = simp (mul_assoc, mul_comm, mul_left_comm)
beyond_of_le (fin false k g) (fin true m e) q p b f t = absurd (no_level_lem (k * up g * down e) (m * up e * down g) (mul-pos (mul-pos (ltb→lt 0 k p) (up_pos g)) (down_pos e)) t)
beyond_of_le (fin false k g) (inf s) q p b f t = absurd f
beyond_of_le (fin false k g) nan q p b f t = absurd f
beyond_of_le (fin true k g) x q p b f t = absurd p
beyond_of_le (inf s) x q p b f t = absurd p
beyond_of_le nan x q p b f t = absurd p
