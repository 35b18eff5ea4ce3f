-- A number rounded to whole seconds. Twice a number is exact, and half of its whole part plus one is the number rounded. From 2 ^ 53 on a number has no fraction. Assumes nothing.
use Rattle.std.proofs.Common.{◌≡◌, ℕ, zero, suc, ◌+◌, ◌-◌, ◌*◌, ◌/◌, ◌%◌, ◌^◌, ◌<◌, ◌≤◌, min, Bool, true, false, cond, not, ◌&&◌, T, eqb, ltb, leb, ℤ, pos, negsuc, sym, refl, ap, ◌∙◌, subst, true≢false, zero-le, le_trans, le_of_eq, le_refl, lt_of_lt_of_le, le_of_suc-le-suc, lt_of_le_of_lt, mul-le-mul_right, mul_assoc, mul_comm, div-lt_iff_lt-mul, add-mul, lt_of_mul-lt-mul_right, mul-lt-mul_of_pos_right, mul-pos, one-mul, lt_of_not-le, le-div_iff_mul-le, zero-mul, mul-one, mul_right_comm, not-le_of_lt, mul_left_comm, arith, lit<, lit≤, ltb→lt, lt→ltb, leb→le, nltb→le, pow_pos, pow_mono, pow-add}
use native.Mathlib.Nat.{add-mul-div_right, div-div-eq-div-mul}
use lib.Pow.{pow-lt}
use lib.Ieee.{Float, nan, inf, fin, binary64, up, down, round, sum, add, lt, fits, to_unsigned}
use lib.Ieee.Fits.{and_l, and_r, up_pos, down_pos}
use lib.Ieee.Exact.{HasValue, round_exact}
use lib.Ieee.Nearest.{div_same}
use lib.Ieee.Scale.{round_same}
use Rattle.number.specs.Seconds.{half_away, round_to_u64}
use Rattle.number.specs.Constants.{MAX}

-- ---- what `fits` says of m * 2 ^ e: m has at most 53 digits, and e is -1074 or more
module _ (s : Bool) (m : ℕ) (e : ℤ) (t : T (fits binary64 (fin s (suc m) e))) where
  digits : suc m < 2 ^ 53
  unfolding fits
  digits =
      let a = eqb (suc m % 2) 1 in
      let b = ltb (suc m) (2 ^ 53) in
      let c = leb (down e) (2 ^ 1074) in
      ltb→lt (suc m) (2 ^ 53) (and_r a b (and_l (a && b) c (and_l (a && b && c) (ltb (suc m * up e) (2 ^ 1024 * down e)) t)))

  lowest : down e ≤ 2 ^ 1074
  unfolding fits
  lowest =
      let a = eqb (suc m % 2) 1 in
      let b = ltb (suc m) (2 ^ 53) in
      let c = leb (down e) (2 ^ 1074) in
      leb→le (down e) (2 ^ 1074) (and_r (a && b) c (and_l (a && b && c) (ltb (suc m * up e) (2 ^ 1024 * down e)) t))

-- ---- 2 ^ e is 2 ^ shift e units of 2 ^ -1074
shift : ℤ → ℕ
shift (pos k) = k + 1074
shift (negsuc k) = 1074 - suc k

back : (k : ℕ) → suc k ≤ 1074 → 1074 - suc k + suc k ≡ 1074
back k h = omega arith

shifted : (e : ℤ) → down e ≤ 2 ^ 1074 → up e * 2 ^ 1074 ≡ 2 ^ shift e * down e
unfolding shift
shifted (pos k) h = sym (mul-one (2 ^ (k + 1074)) ∙ pow-add 2 k 1074)
shifted (negsuc k) h =
    let j : suc k ≤ 1074 = le_of_suc-le-suc (lt_of_not-le (λ (g : suc 1074 ≤ suc k). not-le_of_lt (pow-lt g) h)) in
    one-mul (2 ^ 1074) ∙ ap (λ (n : ℕ). 2 ^ n) (sym (back k j)) ∙ pow-add 2 (1074 - suc k) (suc k)

-- ---- twice a number is exact
next_power : (j : ℕ) → 2 ^ (j + 1) ≡ 2 * 2 ^ j
next_power j = pow-add 2 j 1 ∙ mul_comm (2 ^ j) (2 ^ 1)

twice : (a d : ℕ) → (a * d + a * d) * d ≡ 2 * a * (d * d)
twice a d =
    let p : (a * d + a * d) * d ≡ a * d * d + a * d * d = add-mul (a * d) (a * d) d in
    let q : 2 * a * (d * d) ≡ 2 * (a * d * d) = simp (mul_assoc, mul_comm, mul_left_comm) in
    omega arith

module _ (m : ℕ) (e : ℤ) (t : T (fits binary64 (fin false (suc m) e))) (small : suc m * up e < 2 ^ 53 * down e) where
  units : 2 * (suc m * up e) * 2 ^ 1074 ≡ suc m * 2 ^ (shift e + 1) * down e
  units =
      let u : up e * 2 ^ 1074 ≡ 2 ^ shift e * down e = shifted e (lowest false m e t) in
      rw (next_power (shift e)) (simp (mul_assoc, mul_comm, mul_left_comm) (simp (mul_assoc, mul_comm, mul_left_comm) at (ap (λ (n : ℕ). 2 * suc m * n) u)))

  under : suc m * 2 ^ (shift e + 1) < 2 ^ (1074 + 1024)
  under =
      let a = suc m * up e in
      let d = down e in
      let l : 2 * a < 2 ^ 54 * d = omega arith in
      let k : 2 * a * 2 ^ 1074 < 2 ^ 54 * d * 2 ^ 1074 = mul-lt-mul_of_pos_right l (pow_pos 1074) in
      let r : suc m * 2 ^ (shift e + 1) * d < 2 ^ 1128 * d = subst (λ (n : ℕ). n < 2 ^ 1128 * d) units (lt_of_lt_of_le k (le_of_eq (mul_right_comm (2 ^ 54) d (2 ^ 1074)))) in
      lt_of_lt_of_le (lt_of_mul-lt-mul_right d r) (lit≤ tt)

  double : HasValue (add binary64 (fin false (suc m) e) (fin false (suc m) e)) false (2 * (suc m * up e)) (down e)
  unfolding add sum
  double =
      let a = suc m * up e in
      let d = down e in
      let same : round binary64 false (a * d + a * d) (d * d) ≡ round binary64 false (2 * a) d
      = round_same binary64 false (a * d + a * d) (d * d) (2 * a) d (mul-pos (down_pos e) (down_pos e)) (down_pos e) (twice a d) in
      subst (λ (x : Float). HasValue x false (2 * a) d) (sym same)
      (round_exact binary64 false (2 * a) d (suc m) (shift e + 1) (down_pos e) (digits false m e t) under units)

-- ---- half of twice the number's whole part plus one
halves : (a d : ℕ) → 0 < d → (2 * a / d + 1) / 2 ≡ half_away a d
halves a d h =
    ap (λ (n : ℕ). n / 2) (sym (add-mul-div_right (2 * a) 1 h) ∙ ap (λ (n : ℕ). (2 * a + n) / d) (one-mul d))
    ∙ div-div-eq-div-mul (2 * a + d) d 2
    ∙ ap (λ (n : ℕ). (2 * a + d) / n) (mul_comm d 2)

-- ---- a number from 0 up with a known value
pub is : {b : Bool} → b ≡ true → T b
is e = subst T (sym e) tt

pub is_not : {b : Bool} → b ≡ false → T (not b)
is_not e = subst (λ (b : Bool). T (not b)) (sym e) tt

either_pos : (a b : ℕ) → 0 < a → 0 < a + b
either_pos a b h = omega arith

above : (y : Float) (n d : ℕ) → HasValue y false n d → T (lt (fin true 1 (pos 0)) y)
unfolding lt
above (fin false k g) n d v = lt→ltb 0 (1 * 1 * down g + k * up g * 1) (either_pos (1 * 1 * down g) (k * up g * 1) (subst (λ (x : ℕ). 0 < x) (sym (one-mul (down g))) (down_pos g)))
above (fin true k g) n d v = absurd (true≢false v.0)
above (inf s) n d v = absurd v
above nan n d v = absurd v

below : (y : Float) (n d : ℕ) → 0 < d → HasValue y false n d → n < 2 ^ 64 * d → T (lt y (fin false 1 (pos 64)))
unfolding lt
below (fin false k g) n d D v h =
    let l : n * down g < 2 ^ 64 * d * down g = mul-lt-mul_of_pos_right h (down_pos g) in
    let r : k * up g * d < 2 ^ 64 * down g * d = subst (λ (x : ℕ). x < 2 ^ 64 * down g * d) (sym v.1) (lt_of_lt_of_le l (le_of_eq (mul_right_comm (2 ^ 64) d (down g)))) in
    lt→ltb (k * up g * 1) (2 ^ 64 * down g) (subst (λ (x : ℕ). x < 2 ^ 64 * down g) (sym (mul-one (k * up g))) (lt_of_mul-lt-mul_right d r))
below (fin true k g) n d D v h = absurd (true≢false v.0)
below (inf s) n d D v h = absurd v
below nan n d D v h = absurd v

uncapped : (a : ℕ) → a < 2 ^ 64 → min a MAX ≡ a
uncapped a h = omega arith

whole_part : (y : Float) (n d : ℕ) → 0 < d → HasValue y false n d → n < 2 ^ 64 * d → to_unsigned 64 y ≡ n / d
unfolding to_unsigned
whole_part (fin false k g) n d D v h =
    ap (λ (x : ℕ). min x MAX) (div_same (k * up g) (down g) n d (down_pos g) D v.1)
    ∙ uncapped (n / d) ((div-lt_iff_lt-mul D).1 h)
whole_part (fin true k g) n d D v h = absurd (true≢false v.0)
whole_part (inf s) n d D v h = absurd v
whole_part nan n d D v h = absurd v

-- ---- below 2 ^ 53
pub record Small (x : Float) : Type 0 where
  pub low : T (lt (fin true 1 (pos 0)) (add binary64 x x))
  pub high : T (lt (add binary64 x x) (fin false 1 (pos 64)))
  pub room : to_unsigned 64 (add binary64 x x) + 1 < 2 ^ 64
  pub rounded : (to_unsigned 64 (add binary64 x x) + 1) / 2 ≡ round_to_u64 x

capped : (t n : ℕ) → t < 2 ^ 54 → (t + 1) / 2 ≡ n → n < 2 ^ 64
capped t n h e = omega arith

room_of : (t : ℕ) → t < 2 ^ 54 → t + 1 < 2 ^ 64
room_of t h = omega arith

small_at : (m : ℕ) (e : ℤ) → T (fits binary64 (fin false (suc m) e)) → suc m * up e < 2 ^ 53 * down e → Small (fin false (suc m) e)
unfolding round_to_u64
small_at m e t h =
    let a = suc m * up e in
    let d = down e in
    let x : Float = fin false (suc m) e in
    let v : HasValue (add binary64 x x) false (2 * a) d = double m e t h in
    let D : 0 < d = down_pos e in
    let k : 2 * a < 2 ^ 54 * d = omega arith in
    let l : 2 * a < 2 ^ 64 * d = omega arith in
    let w : to_unsigned 64 (add binary64 x x) ≡ 2 * a / d = whole_part (add binary64 x x) (2 * a) d D v l in
    let q : 2 * a / d < 2 ^ 54 = (div-lt_iff_lt-mul D).1 k in
    record {
      low = above (add binary64 x x) (2 * a) d v;
      high = below (add binary64 x x) (2 * a) d D v l;
      room = subst (λ (n : ℕ). n + 1 < 2 ^ 64) (sym w) (room_of (2 * a / d) q);
      rounded = ap (λ (n : ℕ). (n + 1) / 2) w ∙ halves a d D ∙ sym (uncapped (half_away a d) (capped (2 * a / d) (half_away a d) q (halves a d D)));
    }

nothing : (u d : ℕ) → 0 * d < 0 * u * 1 → ⊥
nothing u d h = omega arith

pub small : (x : Float) → T (fits binary64 x) → T (lt (fin false 0 (pos 0)) x) → T (lt x (fin false 1 (pos 53))) → Small x
unfolding lt
small nan t p q = absurd p
small (inf true) t p q = absurd p
small (inf false) t p q = absurd q
small (fin true m e) t p q = absurd p
small (fin false zero e) t p q = absurd (nothing (up e) (down e) (ltb→lt (0 * 1 * down e) (0 * up e * 1) p))
small (fin false (suc m) e) t p q =
    small_at m e t (subst (λ (n : ℕ). n < 2 ^ 53 * down e) (mul-one (suc m * up e)) (ltb→lt (suc m * up e * 1) (2 ^ 53 * down e) q))

-- ---- from 2 ^ 53 up to 2 ^ 64
-- a number from 2 ^ 53 on has no fraction, since its digits are fewer than that
no_fraction : (m k : ℕ) → m < 2 ^ 53 → 2 ^ 53 * 2 ^ suc k ≤ m * 1 * 1 → ⊥
no_fraction m k h g =
    let p : 0 < 2 ^ suc k = pow_pos (suc k) in
    omega arith

half_of_whole : (n : ℕ) → min (n / 1) MAX ≡ min (half_away n 1) MAX
half_of_whole n = omega arith

pub whole : (x : Float) → T (fits binary64 x) → T (lt (fin false 0 (pos 0)) x) → T (not (lt x (fin false 1 (pos 53)))) → T (lt x (fin false 1 (pos 64))) → to_unsigned 64 x ≡ round_to_u64 x
unfolding lt round_to_u64 to_unsigned
whole nan t p q r = absurd p
whole (inf true) t p q r = absurd p
whole (inf false) t p q r = absurd r
whole (fin true m e) t p q r = absurd p
whole (fin false zero e) t p q r = absurd (nothing (up e) (down e) (ltb→lt (0 * 1 * down e) (0 * up e * 1) p))
whole (fin false (suc m) (pos k)) t p q r = half_of_whole (suc m * 2 ^ k)
whole (fin false (suc m) (negsuc k)) t p q r = absurd (no_fraction (suc m) k (digits false m (negsuc k) t) (nltb→le (suc m * 1 * 1) (2 ^ 53 * 2 ^ suc k) q))

pub above_minus_one : (x : Float) → T (lt (fin false 0 (pos 0)) x) → T (lt (fin true 1 (pos 0)) x)
unfolding lt
above_minus_one nan p = absurd p
above_minus_one (inf true) p = absurd p
above_minus_one (inf false) p = tt
above_minus_one (fin true m e) p = absurd p
above_minus_one (fin false m e) p = above (fin false m e) (m * up e) (down e) (refl, refl)

-- ---- from 2 ^ 64 on
past_cap : (n : ℕ) → 2 ^ 64 ≤ n → MAX ≡ min n MAX
past_cap n h = omega arith

enough : (a d : ℕ) → 2 ^ 64 * d ≤ a * 1 → 2 ^ 64 * (2 * d) ≤ 2 * a + d
enough a d h = omega arith

pub past : (x : Float) → T (lt (fin false 0 (pos 0)) x) → T (not (lt x (fin false 1 (pos 64)))) → MAX ≡ round_to_u64 x
unfolding lt round_to_u64
past nan p q = absurd p
past (inf true) p q = absurd p
past (inf false) p q = refl
past (fin true m e) p q = absurd p
past (fin false m e) p q =
    let a = m * up e in
    let d = down e in
    past_cap (half_away a d) ((le-div_iff_mul-le (mul-pos (lit< tt) (down_pos e))).1 (enough a d (nltb→le (a * 1) (2 ^ 64 * d) q)))

-- ---- 0, what is below it, and a NaN
no_more : (a d : ℕ) → 0 < d → a * 1 ≤ 0 * d → 0 ≡ min (half_away a d) MAX
no_more a d D h =
    let l : 2 * a + d < 1 * (2 * d) = omega arith in
    let q : (2 * a + d) / (2 * d) < 1 = (div-lt_iff_lt-mul (mul-pos (lit< tt) D)).1 l in
    omega arith

pub none : (x : Float) → T (not (lt (fin false 0 (pos 0)) x)) → 0 ≡ round_to_u64 x
unfolding lt round_to_u64
none nan p = refl
none (inf true) p = refl
none (inf false) p = absurd p
none (fin true m e) p = refl
none (fin false m e) p = no_more (m * up e) (down e) (down_pos e) (nltb→le (0 * 1 * down e) (m * up e * 1) p)

-- ---- no more than the greatest count
pub seconds_max : (x : Float) → round_to_u64 x ≤ MAX
unfolding round_to_u64
seconds_max nan = zero-le
seconds_max (inf true) = zero-le
seconds_max (inf false) = le_refl MAX
seconds_max (fin true m e) = zero-le
seconds_max (fin false m e) = at_most_lem (half_away (m * up e) (down e))
  where
    at_most_lem : (n : ℕ) → min n MAX ≤ MAX
    at_most_lem n = omega arith
