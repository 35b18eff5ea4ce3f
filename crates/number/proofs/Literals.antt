-- Closed cases of the definitions, computed: the bits of each constant are those that rustc gives the literal on x86-64, and the roundings are
-- its answers. Assumes nothing.
use Rattle.std.proofs.Common.{◌≡◌, ℕ, ◌+◌, ◌^◌, true, false, List, [], ◌∷◌, map, pos, negsuc, refl}
use lib.Ieee.{Float, nan, inf, fin, binary64, of_bits, of_int, round}
use Rattle.number.specs.Constants.{decimal, q_zero, h_tol, l_tol, psi_per_ft, PI, MAX}
use Rattle.number.specs.Seconds.{round_to_u64, u64_to_f64}

literals : map (λ (b : ℕ). of_bits binary64 b) (0x400921fb54442d18 ∷ 0x3eb0c6f7a0b5ed8d ∷ 0x3f40624dd2f1a9fc ∷ 0x3f1a36e2eb1c432d ∷ 0x3fdbbb2fec56d5d0 ∷ [])
    ≡ PI ∷ q_zero ∷ h_tol ∷ l_tol ∷ psi_per_ft ∷ []
unfolding decimal of_bits
literals = refl

-- 0, 5e-324, 0.49999999999999994, 0.5, 2.5, 4503599627370497.5, 2 ^ 53 + 2, the f64 below 2 ^ 64, 2 ^ 64, -0.7, both infinities and a NaN
rounded : map round_to_u64 (decimal 0 0 ∷ fin false 1 (negsuc 1073) ∷ decimal 49999999999999994 17 ∷ decimal 5 1 ∷ decimal 25 1 ∷ decimal 45035996273704975 1
    ∷ decimal 9007199254740994 0 ∷ fin false 9007199254740991 (pos 11) ∷ fin false 1 (pos 64) ∷ fin true 7 (negsuc 2) ∷ inf false ∷ inf true ∷ nan ∷ [])
    ≡ 0 ∷ 0 ∷ 0 ∷ 1 ∷ 3 ∷ 4503599627370498 ∷ 9007199254740994 ∷ 18446744073709549568 ∷ MAX ∷ 0 ∷ MAX ∷ 0 ∷ 0 ∷ []
unfolding round_to_u64 decimal
rounded = refl

-- "MAX turns into 2^64"; 2 ^ 53 + 1 and 2 ^ 53 + 3 lie between two numbers and go to the even one
counted : map u64_to_f64 (MAX ∷ 9007199254740993 ∷ 9007199254740995 ∷ []) ≡ fin false 1 (pos 64) ∷ fin false 1 (pos 53) ∷ fin false 2251799813685249 (pos 2) ∷ []
unfolding u64_to_f64 of_int
counted = refl
