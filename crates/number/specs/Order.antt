-- Range tests, and Rust's `abs` and `clamp`.
use Rattle.std.specs.Prelude.{Bool, false, cond, ◌&&◌, Float}
use Rattle.std.specs.Float.{nan, inf, fin}
use Rattle.std.specs.Float.Ieee.{neg, lt, le}

-- from least to greatest, both inclusive
unfoldable pub in_range : Float → Float → Float → Bool
in_range least greatest x = le least x && le x greatest

-- "within ±limit"
unfoldable pub within : Float → Float → Bool
within limit x = in_range (neg limit) limit x

-- the sign dropped
abbrev pub abs : Float → Float
abs nan = nan
abs (inf s) = inf false
abs (fin s m e) = fin false m e

-- the least where x is below it, and else x, a NaN and a zero of either sign too
abbrev pub at_least : Float → Float → Float
at_least least x = cond (lt x least) least x

-- the greatest where x is above it, and else x
abbrev pub at_most : Float → Float → Float
at_most greatest x = cond (lt greatest x) greatest x

-- Rust's `x.clamp(least, greatest)`: first the least, then the greatest
unfoldable pub clamp : Float → Float → Float → Float
clamp x least greatest = at_most greatest (at_least least x)
