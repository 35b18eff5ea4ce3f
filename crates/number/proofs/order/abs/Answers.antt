-- `number::order::abs` meets its contract. Assumes nothing.
use lib.Ieee.{of_bits}
use Rattle.number.proofs.Rounding.{is, is_not}
use Rattle.number.proofs.Signs.{at_zero, below_zero, above_zero}
use Rattle.number.proofs.order.abs.Goals as goal

pub returns-then-x : goal.returns-then-x
unfolding of_bits
returns-then-x c = at_zero c.args.x (is c.well_formed.0.1) (is c.if-x.true)

pub returns-then-x-2 : goal.returns-then-x-2
unfolding of_bits
returns-then-x-2 c = below_zero c.args.x (is c.if-x-2.true)

pub returns-else-x-2 : goal.returns-else-x-2
unfolding of_bits
returns-else-x-2 c = above_zero c.args.x (is_not c.if-x.false) (is_not c.if-x-2.false)
