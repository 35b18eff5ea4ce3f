-- f64's operators, each rounded once, written infix so that a definition has the order of operations of the Rust.
use Rattle.std.specs.Prelude.{Float}
use Rattle.std.specs.Float.{binary64}
use Rattle.std.specs.Float.Ieee.{add, sub, mul, div}

infixl 70 ◌·◌ ◌÷◌
infixl 65 ◌⊕◌ ◌⊖◌
abbrev pub ◌·◌ : Float → Float → Float
x · y = mul binary64 x y

abbrev pub ◌÷◌ : Float → Float → Float
x ÷ y = div binary64 x y

abbrev pub ◌⊕◌ : Float → Float → Float
x ⊕ y = add binary64 x y

abbrev pub ◌⊖◌ : Float → Float → Float
x ⊖ y = sub binary64 x y
