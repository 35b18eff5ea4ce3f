-- Numbers as text, in bytes.
-- Assumes nothing.
use Rattle.std.specs.Prelude.{ℕ, zero, suc, ◌+◌, ◌*◌, ◌/◌, ◌%◌, ◌^◌, cond, List, [], ◌∷◌, ◌++◌, ltb}

-- Document 01: "numbers are plain decimal".

-- the decimal digits of n, the most significant first, at most k + 1 of them
unfoldable pub decimal_digits : ℕ → ℕ → List ℕ
decimal_digits zero n = (48 + n) ∷ []
decimal_digits (suc k) n = cond (ltb n 10) ((48 + n) ∷ []) (decimal_digits k (n / 10) ++ ((48 + n % 10) ∷ []))

-- a number of 32 bits has at most ten
abbrev pub decimal_text : ℕ → List ℕ
decimal_text n = decimal_digits 9 n

-- a hexadecimal digit: 0 to 9, then a to f
unfoldable pub hex_digit : ℕ → ℕ
hex_digit d = cond (ltb d 10) (48 + d) (87 + d)

-- the last k hexadecimal digits of n, the most significant first
unfoldable pub hex_digits : ℕ → ℕ → List ℕ
hex_digits zero n = []
hex_digits (suc k) n = hex_digits k (n / 16) ++ (hex_digit (n % 16) ∷ [])

-- a space, and the 16 digits of a 64-bit word in two halves
unfoldable pub hex_text : ℕ → ℕ → List ℕ
hex_text low high = 32 ∷ hex_digits 16 (high * 2 ^ 32 + low)
