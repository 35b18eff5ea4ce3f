-- Numbers and counts of seconds: Rust's `x.round() as usize` and `n as f64`, on a 64-bit target.
use Rattle.std.specs.Prelude.{ℕ, ◌+◌, ◌*◌, ◌/◌, min, cond, pos, Float}
use Rattle.std.specs.Float.{nan, inf, fin, binary64}
use Rattle.std.specs.Float.Ieee.{up, down, of_int}
use Rattle.number.specs.Constants.{MAX}

-- "rounded half away from zero": n / d to the nearest whole number
abbrev pub half_away : ℕ → ℕ → ℕ
half_away n d = (2 * n + d) / (2 * d)

-- "MAX at or above 2^64"; what is negative and a NaN give 0. A finite number m * 2 ^ e is the fraction m * up e / down e.
unfoldable pub round_to_u64 : Float → ℕ
round_to_u64 nan = 0
round_to_u64 (inf negative) = cond negative 0 MAX
round_to_u64 (fin negative m e) = cond negative 0 (min (half_away (m * up e) (down e)) MAX)

-- the nearest f64: "MAX turns into 2^64"
unfoldable pub u64_to_f64 : ℕ → Float
u64_to_f64 n = of_int binary64 (pos n)
