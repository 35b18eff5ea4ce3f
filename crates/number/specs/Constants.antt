-- Numbers by their decimal digits, and the constants of `constants.rs`.
use Rattle.std.specs.Prelude.{ℕ, ◌-◌, ◌^◌, false, Float}
use Rattle.std.specs.Float.{binary64}
use Rattle.std.specs.Float.Ieee.{round}

-- The f64 that Rust's literal n * 10 ^ -k stands for: the fraction, rounded once. So 0.0005 is `decimal 5 4`.
unfoldable pub decimal : ℕ → ℕ → Float
unfolding round
decimal n k = round binary64 false n (10 ^ k)

-- "Q_ZERO 1e-6, H_TOL 0.0005, L_TOL 0.0001, PSIperFT 0.4333."
abbrev pub q_zero : Float
q_zero = decimal 1 6

abbrev pub h_tol : Float
h_tol = decimal 5 4

abbrev pub l_tol : Float
l_tol = decimal 1 4

abbrev pub psi_per_ft : Float
psi_per_ft = decimal 4333 4

-- Rust's std::f64::consts::PI
abbrev pub PI : Float
PI = decimal 314159265358979323846264338327950288 35

-- "greatest usize (MAX)", on a 64-bit target
abbrev pub MAX : ℕ
MAX = 2 ^ 64 - 1
