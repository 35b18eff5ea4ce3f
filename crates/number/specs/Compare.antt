-- `compare_f64` of rule.rs: "A number goes through `compare_f64`."
use Rattle.std.specs.Prelude.{Bool, Float}
use Rattle.std.specs.Float.Ieee.{neg, lt, le}
use Rattle.number.specs.Constants.{h_tol}
use Rattle.number.specs.Operators.{◌⊖◌}
use Rattle.number.specs.Order.{abs}
use Rattle.number.specs.declared.compare.ComparisonOperator.{ComparisonOperator}
use Rattle.number.specs.declared.compare.ComparisonOperator.TheVariants.{Eq, Ne, Gt, Lt, Ge, Le}

-- a difference against 0, with the tolerance H_TOL
abbrev pub compare_diff : ComparisonOperator → Float → Bool
compare_diff Eq diff = le (abs diff) h_tol
compare_diff Ne diff = lt h_tol (abs diff)
compare_diff Gt diff = lt h_tol diff
compare_diff Lt diff = lt diff (neg h_tol)
compare_diff Ge diff = le (neg h_tol) diff
compare_diff Le diff = le diff h_tol

unfoldable pub compare_f64 : ComparisonOperator → Float → Float → Bool
compare_f64 comparison lhs rhs = compare_diff comparison (lhs ⊖ rhs)
