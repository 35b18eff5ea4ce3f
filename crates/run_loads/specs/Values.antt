-- Document 01: the numbers of a load, "each within ±10^12", and the faults of its shape and of its values.
use Rattle.std.specs.Prelude.{ℕ, ◌+◌, ◌*◌, ◌^◌, Bool, ◌&&◌, List, eqb, Float, length}
use Rattle.number.specs.Constants.{decimal}
use Rattle.number.specs.Order.{within}
use Rattle.model.specs.Loops.{all_below}
use Rattle.image_entry.specs.Words.{word, number}

-- number k of a load, behind the header
abbrev pub value_at : List ℕ → ℕ → Float
value_at words k = number words (1 + 2 * k)

-- 7: "kind, header bits or size wrong, cut, or words left over"
unfoldable pub shape_ok : ℕ → List ℕ → Bool
shape_ok count words = eqb (length words) (1 + 2 * count) && eqb (word words 0) (15 * 2 ^ 28 + 2 * count)

-- 8: "value not finite or beyond 10^12"
abbrev pub value_ok : List ℕ → ℕ → Bool
value_ok words k = within (decimal 1000000000000 0) (value_at words k)

unfoldable pub values_ok : ℕ → List ℕ → Bool
values_ok count words = all_below count (value_ok words)
