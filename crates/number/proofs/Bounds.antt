-- Arithmetic on f64s of a known size: what a product, a sum, a difference and a quotient can reach. A bound has to be a value of the format (`Exact`), since a result rounds up to it at most. Assumes nothing.
use Rattle.std.proofs.Common.{◌≡◌, ℕ, zero, suc, ◌+◌, ◌-◌, ◌*◌, ◌/◌, ◌%◌, ◌^◌, ◌<◌, ◌≤◌, Bool, true, false, cond, not, ◌&&◌, ◌||◌, T, eqb, ltb, ◌⊎◌, ℤ, pos, negsuc, sym, refl, ap, ◌∙◌, subst, inl, inr, true≢false, zero-le, le_trans, le_of_eq, le_refl, lt_of_lt_of_le, le_of_lt, add-le-add, lt_irrefl, mul-le-mul_right, zero-lt-suc, mul_assoc, mul_comm, add-mul, mul-le-mul, mul-le-mul_left, mul-pos, one-mul, zero-mul, mul-one, mul_right_comm, not-le_of_lt, le_of_mul-le-mul_right, mul_left_comm, arith, lit<, eqb→eq, ltb→lt, nltb→le, pow_pos, pow_mono, pow-add, shl_lt}
use Prim.Native.Nat.{compare}
use native.Mathlib.Nat.{mul-mul-mul_comm}
use mathlib.Core.Bool.{beq}
use lib.Dec.{eqb-suc-zero}
use lib.Ieee.{Float, nan, inf, fin, binary64, prec, emax, low, up, down, unlike, size, nearest, odd, units, round, of_int, sum, add, sub, mul, div, neg, lt, eq, le, is_nan}
use lib.Ieee.Fits.{up_pos, down_pos, round_is, core, and_l, and_r}
use lib.Ieee.Exact.{HasValue, round_exact}
use lib.Ieee.Order.{round_mono}
use lib.Ieee.Back.{round_whole}
use lib.Ieee.Positive.{num, den}
use lib.Ieee.Scale.{finite}
use Rattle.number.specs.Order.{at_most, clamp}
use Rattle.number.specs.Seconds.{u64_to_f64}
use Rattle.number.specs.Bounds.{Within, Beyond}

-- n / d is a value of the format
abbrev pub Exact : ℕ → ℕ → Type 0
Exact n d = HasValue (round binary64 false n d) false n d

-- every whole number up to 2 ^ 53 is one
pub exact_whole : (n : ℕ) → n ≤ 2 ^ 53 → Exact n 1
exact_whole n h = round_whole binary64 false n h

-- and every number of at most 53 binary digits before its zeros
pub exact_scaled : (q j : ℕ) → q < 2 ^ 53 → j ≤ 900 → Exact (q * 2 ^ j) 1
exact_scaled q j h l =
    round_exact binary64 false (q * 2 ^ j) 1 q (j + 1074) (lit< tt) h
    (lt_of_lt_of_le (shl_lt 53 (j + 1074) h) (pow_mono (fits j l)))
    (mul_assoc q (2 ^ j) (2 ^ 1074) ∙ ap (λ (n : ℕ). q * n) (sym (pow-add 2 j 1074)) ∙ sym (mul-one (q * 2 ^ (j + 1074))))
  where
    fits : (j : ℕ) → j ≤ 900 → 53 + (j + 1074) ≤ 2098
    fits j l = omega arith

-- ---- both by the cases of a number
abbrev AtMost : Float → ℕ → Type 0
AtMost nan n = ⊥
AtMost (inf s) n = ⊥
AtMost (fin s m e) n = m * up e ≤ n * down e

within : (x : Float) (n : ℕ) → AtMost x n → Within x n
within nan n h = absurd h
within (inf s) n h = absurd h
within (fin s m e) n h = record { is_finite = tt; size = h }

at_most_lem : (x : Float) (n : ℕ) → Within x n → AtMost x n
at_most_lem nan n w = w.is_finite
at_most_lem (inf s) n w = w.is_finite
at_most_lem (fin s m e) n w = w.size

abbrev AtLeast : Float → ℕ → Type 0
AtLeast nan q = ⊥
AtLeast (inf s) q = ⊥
AtLeast (fin s m e) q = down e ≤ m * up e * q

beyond : (x : Float) (q : ℕ) → AtLeast x q → Beyond x q
beyond nan n h = absurd h
beyond (inf s) n h = absurd h
beyond (fin s m e) n h = record { is_finite = tt; size = h }

at_least : (x : Float) (q : ℕ) → Beyond x q → AtLeast x q
at_least nan n w = w.is_finite
at_least (inf s) n w = w.is_finite
at_least (fin s m e) n w = w.size

-- ---- rounding does not depend on the sign, and a value that is not negative keeps its sign
abbrev NotNegative : Float → Type 0
NotNegative nan = ⊥
NotNegative (inf true) = ⊥
NotNegative (inf false) = Unit
NotNegative (fin true m e) = ⊥
NotNegative (fin false m e) = Unit

odd_positive : (d q k l : ℕ) → NotNegative (odd d false q k l)
unfolding odd
odd_positive d zero k l = tt
odd_positive d (suc q) k l = tt

units_positive : (q k : ℕ) → NotNegative (units binary64 false q k)
unfolding units
units_positive q k = go (ltb (q * 2 ^ k) (2 ^ 2098))
  where
    go : (b : Bool) → NotNegative (cond b (odd 54 false q k 1074) (inf false))
    go true = odd_positive 54 q k 1074
    go false = tt

odd_within : (s : Bool) (d q k l n : ℕ) → AtMost (odd d false q k l) n → AtMost (odd d s q k l) n
unfolding odd
odd_within s d zero k l n w = w
odd_within s d (suc q) k l n w = w

units_within : (s : Bool) (q k n : ℕ) → AtMost (units binary64 false q k) n → AtMost (units binary64 s q k) n
unfolding units
units_within s q k n = go (ltb (q * 2 ^ k) (2 ^ 2098))
  where
    go : (b : Bool) → AtMost (cond b (odd 54 false q k 1074) (inf false)) n → AtMost (cond b (odd 54 s q k 1074) (inf s)) n
    go true w = odd_within s 54 q k 1074 n w
    go false w = w

-- ---- the fraction a / c rounded is within n where a / c is
le_of : (a b : ℕ) → T (ltb a b || (eqb a b && true)) → a ≤ b
le_of a b = go (ltb a b) (eqb a b) (ltb→lt a b) (eqb→eq a b)
  where
    go : (p q : Bool) → (T p → a < b) → (T q → a ≡ b) → T (p || (q && true)) → a ≤ b
    go true q l e t = le_of_lt (l tt)
    go false true l e t = le_of_eq (e tt)
    go false false l e t = absurd t

-- x / p ≤ y / r and y / r = n / c
carry : (x p y r n c : ℕ) → 0 < r → x * r ≤ y * p → y * c ≡ n * r → x * c ≤ n * p
carry x p y r n c R h e =
    le_of_mul-le-mul_right
    (le_trans (le_of_eq (mul_right_comm x c r))
    (le_trans (mul-le-mul_right c h)
    (le_of_eq (mul_right_comm y p c ∙ ap (λ (z : ℕ). z * p) e ∙ mul_right_comm n r p)))) R

under_value : (x y : Float) (n : ℕ) → NotNegative x → HasValue y false n 1 → T (le x y) → AtMost x n
unfolding le
under_value (fin false m e) (fin false k g) n s v t =
    subst (λ (z : ℕ). z ≤ n * down e) (mul-one (m * up e))
    (carry (m * up e) (down e) (k * up g) (down g) n 1 (down_pos g) (le_of (m * up e * down g) (k * up g * down e) t) v.1)
under_value (fin false m e) (fin true k g) n s v t = absurd (true≢false v.0)
under_value (fin false m e) (inf u) n s v t = absurd v
under_value (fin false m e) nan n s v t = absurd v
under_value (inf false) (fin false k g) n s v t = absurd t
under_value (inf false) (fin true k g) n s v t = absurd t
under_value (inf false) (inf u) n s v t = absurd v
under_value (inf false) nan n s v t = absurd v
under_value (fin true m e) y n s v t = absurd s
under_value (inf true) y n s v t = absurd s
under_value nan y n s v t = absurd s

round_positive : (a c : ℕ) → NotNegative (round binary64 false a c)
round_positive a c = rw (round_is binary64 false a c) (units_positive _ _)

round_signed : (s : Bool) (a c n : ℕ) → AtMost (round binary64 false a c) n → AtMost (round binary64 s a c) n
round_signed s a c n w = rw (round_is binary64 s a c) (units_within s _ _ n (rw (round_is binary64 false a c) at w))

round_within : (s : Bool) (a c n : ℕ) → 0 < c → Exact n 1 → a ≤ n * c → AtMost (round binary64 s a c) n
round_within s a c n C x h =
    round_signed s a c n
    (under_value (round binary64 false a c) (round binary64 false n 1) n (round_positive a c) x
    (round_mono binary64 a c n 1 C (lit< tt) (subst (λ (z : ℕ). z ≤ n * c) (sym (mul-one a)) h)))

-- ---- the laws
pub within_mono : {x : Float} {a b : ℕ} → a ≤ b → Within x a → Within x b
within_mono {x} h w = record { is_finite = w.is_finite; size = le_trans w.size (mul-le-mul_right (den x) h) }

neg_at_most : (x : Float) (a : ℕ) → AtMost x a → AtMost (neg x) a
unfolding neg
neg_at_most nan a w = w
neg_at_most (inf s) a w = w
neg_at_most (fin s m e) a w = w

pub within_neg : {x : Float} {a : ℕ} → Within x a → Within (neg x) a
within_neg {x} {a} w = within (neg x) a (neg_at_most x a (at_most_lem x a w))

mul_at_most : (x y : Float) (a b n : ℕ) → Exact n 1 → a * b ≤ n → AtMost x a → AtMost y b → AtMost (mul binary64 x y) n
unfolding mul
mul_at_most (fin s m e) (fin t k g) a b n x h v w =
    round_within (unlike s t) (m * up e * (k * up g)) (down e * down g) n (mul-pos (down_pos e) (down_pos g)) x
    (le_trans (mul-le-mul v w) (le_trans (le_of_eq (mul-mul-mul_comm a (down e) b (down g))) (mul-le-mul_right (down e * down g) h)))
mul_at_most (fin s m e) (inf t) a b n x h v w = absurd w
mul_at_most (fin s m e) nan a b n x h v w = absurd w
mul_at_most (inf s) y a b n x h v w = absurd v
mul_at_most nan y a b n x h v w = absurd v

pub within_mul : {x y : Float} {a b n : ℕ} → Exact n 1 → a * b ≤ n → Within x a → Within y b → Within (mul binary64 x y) n
within_mul {x} {y} {a} {b} {n} e h v w = within (mul binary64 x y) n (mul_at_most x y a b n e h (at_most_lem x a v) (at_most_lem y b w))

sum_at_most : (s : Bool) (p : ℕ) (t : Bool) (q c n : ℕ) → 0 < c → Exact n 1 → p + q ≤ n * c → AtMost (sum binary64 s p t q c) n
unfolding sum
sum_at_most s p t q c n C x l = go (beq s t) (ltb p q)
  where
    less : q - p ≤ n * c
    less = omega arith

    more : p - q ≤ n * c
    more = omega arith

    go : (u v : Bool) → AtMost (cond u (round binary64 s (p + q) c) (cond v (round binary64 t (q - p) c) (round binary64 (s && ltb q p) (p - q) c))) n
    go true v = round_within s (p + q) c n C x l
    go false true = round_within t (q - p) c n C x less
    go false false = round_within (s && ltb q p) (p - q) c n C x more

add_at_most : (x y : Float) (a b n : ℕ) → Exact n 1 → a + b ≤ n → AtMost x a → AtMost y b → AtMost (add binary64 x y) n
unfolding add
add_at_most (fin s m e) (fin t k g) a b n x h v w =
    let p = m * up e * down g in
    let q = k * up g * down e in
    let c = down e * down g in
    let i : p ≤ a * c = le_trans (mul-le-mul_right (down g) v) (le_of_eq (mul_assoc a (down e) (down g))) in
    let j : q ≤ b * c = le_trans (mul-le-mul_right (down e) w) (le_of_eq (mul_right_comm b (down g) (down e) ∙ mul_assoc b (down e) (down g))) in
    sum_at_most s p t q c n (mul-pos (down_pos e) (down_pos g)) x (le_trans (add-le-add i j) (le_trans (le_of_eq (sym (add-mul a b c))) (mul-le-mul_right c h)))
add_at_most (fin s m e) (inf t) a b n x h v w = absurd w
add_at_most (fin s m e) nan a b n x h v w = absurd w
add_at_most (inf s) y a b n x h v w = absurd v
add_at_most nan y a b n x h v w = absurd v

pub within_add : {x y : Float} {a b n : ℕ} → Exact n 1 → a + b ≤ n → Within x a → Within y b → Within (add binary64 x y) n
within_add {x} {y} {a} {b} {n} e h v w = within (add binary64 x y) n (add_at_most x y a b n e h (at_most_lem x a v) (at_most_lem y b w))

pub within_sub : {x y : Float} {a b n : ℕ} → Exact n 1 → a + b ≤ n → Within x a → Within y b → Within (sub binary64 x y) n
unfolding sub
within_sub e h v w = within_add e h v (within_neg w)

-- a further term of a running sum: the k + 1 st of numbers within a
pub within_step : (k : ℕ) {acc x : Float} {a : ℕ} → k * a + a ≤ 2 ^ 53 → Within acc (k * a) → Within x a → Within (add binary64 acc x) (k * a + a)
within_step k {acc} {x} {a} h v w = within_add (exact_whole (k * a + a) h) (le_refl (k * a + a)) v w

-- ---- the quotient by a number that is at least 1 / q
div_at_most : (x y : Float) (a q n : ℕ) → Exact n 1 → a * q ≤ n → AtMost x a → AtLeast y q → AtMost (div binary64 x y) n
unfolding div
div_at_most (fin s m e) (fin t (suc k) g) a q n x h v w =
    rw (eqb-suc-zero k)
    (round_within (unlike s t) (m * up e * down g) (suc k * up g * down e) n (mul-pos (mul-pos (zero-lt-suc k) (up_pos g)) (down_pos e)) x
    (le_trans (mul-le-mul v w) (le_trans (le_of_eq (turn a (down e) (suc k * up g) q)) (mul-le-mul_right (suc k * up g * down e) h))))
  where
    turn : (a d u q : ℕ) → a * d * (u * q) ≡ a * q * (u * d)
    turn a d u q = simp (mul_assoc, mul_comm, mul_left_comm)
div_at_most (fin s m e) (fin t zero g) a q n x h v w = absurd (nothing (up g) q (down g) (down_pos g) w)
  where
    nothing : (u q d : ℕ) → 0 < d → d ≤ 0 * u * q → ⊥
    nothing u q d h l = let z : 0 * u * q ≡ 0 = ap (λ (n : ℕ). n * q) (zero-mul u) ∙ zero-mul q in omega arith
div_at_most (fin s m e) (inf t) a q n x h v w = absurd w
div_at_most (fin s m e) nan a q n x h v w = absurd w
div_at_most (inf s) y a q n x h v w = absurd v
div_at_most nan y a q n x h v w = absurd v

pub within_div : {x y : Float} {a q n : ℕ} → Exact n 1 → a * q ≤ n → Within x a → Beyond y q → Within (div binary64 x y) n
within_div {x} {y} {a} {q} {n} e h v w = within (div binary64 x y) n (div_at_most x y a q n e h (at_most_lem x a v) (at_least y q w))

-- ---- a product and a quotient are at least so large
over_value : (x y : Float) (q : ℕ) → 0 < q → HasValue x false 1 q → NotNegative y → T (finite y) → T (le x y) → AtLeast y q
unfolding le
over_value (fin false k g) (fin false m e) q Q v s f t =
    subst (λ (z : ℕ). z ≤ m * up e * q) (one-mul (down e))
    (carry_back 1 q (k * up g) (down g) (m * up e) (down e) (down_pos g) v.1 (le_of (k * up g * down e) (m * up e * down g) t))
  where
    carry_back : (n c y r z p : ℕ) → 0 < r → y * c ≡ n * r → y * p ≤ z * r → n * p ≤ z * c
    carry_back n c y r z p R e h =
        le_of_mul-le-mul_right
        (le_trans (le_of_eq (mul_right_comm n p r ∙ ap (λ (w : ℕ). w * p) (sym e) ∙ mul_right_comm y c p))
        (le_trans (mul-le-mul_right c h) (le_of_eq (mul_right_comm z r c)))) R
over_value (fin true k g) y q Q v s f t = absurd (true≢false v.0)
over_value (inf u) y q Q v s f t = absurd v
over_value nan y q Q v s f t = absurd v
over_value (fin false k g) (fin true m e) q Q v s f t = absurd s
over_value (fin false k g) (inf u) q Q v s f t = absurd f
over_value (fin false k g) nan q Q v s f t = absurd f

units_beyond : (s : Bool) (u k q : ℕ) → (T (finite (units binary64 false u k)) → AtLeast (units binary64 false u k) q) → T (finite (units binary64 s u k)) → AtLeast (units binary64 s u k) q
unfolding units
units_beyond s u k q = go (ltb (u * 2 ^ k) (2 ^ 2098))
  where
    digits : (u : ℕ) → (T (finite (odd 54 false u k 1074)) → AtLeast (odd 54 false u k 1074) q) → AtLeast (odd 54 s u k 1074) q
    digits zero h = unfold odd in h tt
    digits (suc u) h = unfold odd in h tt

    go : (b : Bool) → (T (finite (cond b (odd 54 false u k 1074) (inf false))) → AtLeast (cond b (odd 54 false u k 1074) (inf false)) q) → T (finite (cond b (odd 54 s u k 1074) (inf s))) → AtLeast (cond b (odd 54 s u k 1074) (inf s)) q
    go true h f = digits u h
    go false h f = absurd f

round_beyond : (s : Bool) (a c q : ℕ) → 0 < c → 0 < q → Exact 1 q → c ≤ a * q → T (finite (round binary64 s a c)) → AtLeast (round binary64 s a c) q
round_beyond s a c q C Q x h =
    let base : T (finite (round binary64 false a c)) → AtLeast (round binary64 false a c) q
    = λ f. over_value (round binary64 false 1 q) (round binary64 false a c) q Q x (round_positive a c) f (round_mono binary64 1 q a c Q C (subst (λ (z : ℕ). z ≤ a * q) (sym (one-mul c)) h)) in
    rw (round_is binary64 s a c) (units_beyond s _ _ q (rw (round_is binary64 false a c) at base))

mul_at_least : (x y : Float) (q r : ℕ) → 0 < q * r → Exact 1 (q * r) → T (finite (mul binary64 x y)) → AtLeast x q → AtLeast y r → AtLeast (mul binary64 x y) (q * r)
unfolding mul
mul_at_least (fin s m e) (fin t k g) q r Q x f v w =
    round_beyond (unlike s t) (m * up e * (k * up g)) (down e * down g) (q * r) (mul-pos (down_pos e) (down_pos g)) Q x
    (le_trans (mul-le-mul v w) (le_of_eq (mul-mul-mul_comm (m * up e) q (k * up g) r))) f
mul_at_least (fin s m e) (inf t) q r Q x f v w = absurd w
mul_at_least (fin s m e) nan q r Q x f v w = absurd w
mul_at_least (inf s) y q r Q x f v w = absurd v
mul_at_least nan y q r Q x f v w = absurd v

pub beyond_mul : {x y : Float} {q r : ℕ} → 0 < q * r → Exact 1 (q * r) → T (finite (mul binary64 x y)) → Beyond x q → Beyond y r → Beyond (mul binary64 x y) (q * r)
beyond_mul {x} {y} {q} {r} Q e f v w = beyond (mul binary64 x y) (q * r) (mul_at_least x y q r Q e f (at_least x q v) (at_least y r w))

div_at_least : (x y : Float) (q b r : ℕ) → 0 < q * b → Exact 1 (q * b) → T (finite (div binary64 x y)) → AtLeast x q → AtMost y b → AtLeast y r → AtLeast (div binary64 x y) (q * b)
unfolding div
div_at_least (fin s m e) (fin t (suc k) g) q b r Q x f v w z =
    go (eqb (suc k) 0) (eqb-suc-zero k) f
  where
    turn : (b d u q : ℕ) → b * d * (u * q) ≡ u * d * (q * b)
    turn b d u q = simp (mul_assoc, mul_comm, mul_left_comm)

    go : (p : Bool) → p ≡ false
        → T (finite (cond p (cond (eqb m 0) nan (inf (unlike s t))) (round binary64 (unlike s t) (m * up e * down g) (suc k * up g * down e))))
        → AtLeast (cond p (cond (eqb m 0) nan (inf (unlike s t))) (round binary64 (unlike s t) (m * up e * down g) (suc k * up g * down e))) (q * b)
    go true i f = absurd (true≢false i)
    go false i f =
        round_beyond (unlike s t) (m * up e * down g) (suc k * up g * down e) (q * b) (mul-pos (mul-pos (zero-lt-suc k) (up_pos g)) (down_pos e)) Q x
        (le_trans (mul-le-mul w v) (le_of_eq (turn b (down g) (m * up e) q))) f
div_at_least (fin s m e) (fin t zero g) q b r Q x f v w z = absurd (nothing (up g) r (down g) (down_pos g) z)
  where
    nothing : (u q d : ℕ) → 0 < d → d ≤ 0 * u * q → ⊥
    nothing u q d h l = let z : 0 * u * q ≡ 0 = ap (λ (n : ℕ). n * q) (zero-mul u) ∙ zero-mul q in omega arith
div_at_least (fin s m e) (inf t) q b r Q x f v w z = absurd w
div_at_least (fin s m e) nan q b r Q x f v w z = absurd w
div_at_least (inf s) y q b r Q x f v w z = absurd v
div_at_least nan y q b r Q x f v w z = absurd v

pub beyond_div : {x y : Float} {q b r : ℕ} → 0 < q * b → Exact 1 (q * b) → T (finite (div binary64 x y)) → Beyond x q → Within y b → Beyond y r → Beyond (div binary64 x y) (q * b)
beyond_div {x} {y} {q} {b} {r} Q e f v w z = beyond (div binary64 x y) (q * b) (div_at_least x y q b r Q e f (at_least x q v) (at_most_lem y b w) (at_least y r z))

-- ---- between two numbers, and held there
-- x / p ≤ y / r, and y / r ≤ a
cap : (x p y r a : ℕ) → 0 < r → x * r ≤ y * p → y ≤ a * r → x ≤ a * p
cap x p y r a R h l = le_of_mul-le-mul_right (le_trans h (le_trans (mul-le-mul_right p l) (le_of_eq (mul_right_comm a r p)))) R

-- nothing at all
null : (x p y r a : ℕ) → 0 < r → y * p + x * r ≤ 0 → x ≤ a * p
null x p y r a R h =
    let z : x * r ≤ 0 = omega arith in
    le_of_mul-le-mul_right (le_trans z zero-le) R

null' : (x p y r a : ℕ) → 0 < r → x * r + y * p ≤ 0 → x ≤ a * p
null' x p y r a R h =
    let z : x * r ≤ 0 = omega arith in
    le_of_mul-le-mul_right (le_trans z zero-le) R

between : (x lo hi : Float) (a b : ℕ) → AtMost lo a → AtMost hi a → AtMost x b → T (not (lt x lo)) → T (not (lt hi x)) → AtMost x a
unfolding lt
between (fin false m e) lo (fin false k g) a b v w z p q = cap (m * up e) (down e) (k * up g) (down g) a (down_pos g) (nltb→le (k * up g * down e) (m * up e * down g) q) w
between (fin false m e) lo (fin true k g) a b v w z p q = null (m * up e) (down e) (k * up g) (down g) a (down_pos g) (nltb→le 0 (k * up g * down e + m * up e * down g) q)
between (fin true m e) (fin true k g) hi a b v w z p q = cap (m * up e) (down e) (k * up g) (down g) a (down_pos g) (nltb→le (k * up g * down e) (m * up e * down g) p) v
between (fin true m e) (fin false k g) hi a b v w z p q = null' (m * up e) (down e) (k * up g) (down g) a (down_pos g) (nltb→le 0 (m * up e * down g + k * up g * down e) p)
between (fin false m e) lo (inf u) a b v w z p q = absurd w
between (fin false m e) lo nan a b v w z p q = absurd w
between (fin true m e) (inf u) hi a b v w z p q = absurd v
between (fin true m e) nan hi a b v w z p q = absurd v
between (inf u) lo hi a b v w z p q = absurd z
between nan lo hi a b v w z p q = absurd z

pub within_clamp : {x lo hi : Float} {a b : ℕ} → Within lo a → Within hi a → Within x b → Within (clamp x lo hi) a
unfolding clamp
within_clamp {x} {lo} {hi} {a} {b} v w z = low (lt x lo) (λ t. t)
  where
    inner : (q : Bool) → (T (not q) → T (not (lt hi x))) → T (not (lt x lo)) → Within (cond q hi x) a
    inner true n p = w
    inner false n p = within x a (between x lo hi a b (at_most_lem lo a v) (at_most_lem hi a w) (at_most_lem x b z) p (n tt))

    pick : (q : Bool) → Within (cond q hi lo) a
    pick true = w
    pick false = v

    low : (p : Bool) → (T (not p) → T (not (lt x lo))) → Within (at_most hi (cond p lo x)) a
    low true n = pick (lt hi lo)
    low false n = inner (lt hi x) (λ t. t) (n tt)

-- ---- a count as a number
pub within_count : {k n : ℕ} → Exact n 1 → k ≤ n → Within (u64_to_f64 k) n
unfolding u64_to_f64 of_int
within_count {k} {n} e h = within (round binary64 false k 1) n (round_within false k 1 n (lit< tt) e (subst (λ (z : ℕ). k ≤ z) (sym (mul-one n)) h))

-- ---- a bounded number is no NaN, and one of two bounded numbers is bounded
pub within_no_nan : {x : Float} {n : ℕ} → Within x n → T (not (is_nan x))
within_no_nan {x} {n} w = go x w.is_finite
  where
    go : (x : Float) → T (finite x) → T (not (is_nan x))
    go nan t = absurd t
    go (inf s) t = absurd t
    go (fin s m e) t = unfold is_nan in tt

pub within_cond : {x y : Float} {n : ℕ} (b : Bool) → Within x n → Within y n → Within (cond b x y) n
within_cond true v w = v
within_cond false v w = w

-- ---- a limit that is a value of the format
pub exact_20 : Exact (10 ^ 20) 1
unfolding round
exact_20 = (refl, refl)
