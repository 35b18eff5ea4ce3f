use Rattle.std.proofs.Common.{◌≡◌, Bool, true, false, not, T, sym, refl, ◌∙◌, subst, le-ltb, lt-ltb}
use lib.Ieee.{Float, nan, inf, fin, is_nan, div, of_bits, binary64}
use lib.Ieee.Bits.{nan_bits_is, nan_bits_above}
use Rattle.number.proofs.words.from_bits.Goals as goal

only_nan : (x : Float) → is_nan x ≡ true → x ≡ nan
unfolding is_nan
only_nan nan e = refl
only_nan (inf s) e = cc
only_nan (fin s m k) e = cc

nan_made : div binary64 (of_bits binary64 0) (of_bits binary64 0) ≡ nan
unfolding div of_bits
nan_made = refl

pub returns-then-bits-gt9218868437227405312 : goal.returns-then-bits-gt9218868437227405312
returns-then-bits-gt9218868437227405312 c =
    let b = c.args.bits in
    nan_made ∙ sym (only_nan (of_bits binary64 b) (sym (nan_bits_is binary64 b) ∙ (nan_bits_above binary64 b ∙ lt-ltb _ _ c.if-bits-gt9218868437227405312.true)))

pub float_from_bits-result : goal.float_from_bits-result
float_from_bits-result c =
    let b = c.args.bits in
    subst (λ (t : Bool). T (not t)) (sym (nan_bits_above binary64 b ∙ le-ltb _ _ c.if-bits-gt9218868437227405312.false)) tt
