-- `number::words::to_bits` meets its contract. Assumes nothing.
use Rattle.std.proofs.Common.{◌≡◌, true, false, not, T, sym, ◌∙◌, true≢false}
use lib.Ieee.{Float, nan, inf, fin, is_nan, ne, to_bits}
use lib.Ieee.Compare.{differs_from_itself, nan_differs}
use Rattle.number.proofs.Rounding.{is}
use Rattle.number.proofs.words.to_bits.Goals as goal

-- a number that equals itself is no NaN
no_nan : (x : Float) → ne x x ≡ false → T (not (is_nan x))
unfolding is_nan
no_nan nan e = absurd (true≢false (sym nan_differs ∙ e))
no_nan (inf s) e = tt
no_nan (fin s m k) e = tt

pub returns-then-x : goal.returns-then-x
unfolding to_bits
returns-then-x c = rw (differs_from_itself c.args.x (is c.if-x.true))

pub float_to_bits-result : goal.float_to_bits-result
float_to_bits-result c = no_nan c.args.x c.if-x.false
