-- A number of the image or of a load.
use Rattle.std.specs.Prelude.{ℕ, ◌+◌, ◌*◌, ◌^◌, from_bits, Float}
use Rattle.std.specs.Float.{binary64}

-- "A number is an f64's bits, low word first." A NaN's bits give NaN, which passes no range test, and neither does an infinity.
unfoldable pub from_words : ℕ → ℕ → Float
from_words lo hi = from_bits binary64 (lo + hi * 2 ^ 32)
