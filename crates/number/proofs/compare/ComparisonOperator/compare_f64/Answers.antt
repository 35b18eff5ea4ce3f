-- `number::compare_f64` meets its contract. Assumes nothing.
use lib.Ieee.{of_bits}
use Rattle.number.specs.Constants.{decimal}
use Rattle.number.specs.Compare.{compare_f64}
use Rattle.number.proofs.compare.ComparisonOperator.compare_f64.Goals as goal

pub returns-in-Eq : goal.returns-in-Eq
unfolding compare_f64 decimal of_bits
returns-in-Eq c = rw (c.in-Eq.is, c.abs.ensures)

pub returns-in-Ne : goal.returns-in-Ne
unfolding compare_f64 decimal of_bits
returns-in-Ne c = rw (c.in-Ne.is, c.abs-in-Ne.ensures)

pub returns-in-Lt : goal.returns-in-Lt
unfolding compare_f64 decimal of_bits
returns-in-Lt c = rw c.in-Lt.is

pub returns-in-Gt : goal.returns-in-Gt
unfolding compare_f64 decimal of_bits
returns-in-Gt c = rw c.in-Gt.is

pub returns-in-Le : goal.returns-in-Le
unfolding compare_f64 decimal of_bits
returns-in-Le c = rw c.in-Le.is

pub returns-in-Ge : goal.returns-in-Ge
unfolding compare_f64 decimal of_bits
returns-in-Ge c = rw c.in-Ge.is
