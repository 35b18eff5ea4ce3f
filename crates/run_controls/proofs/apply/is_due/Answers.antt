-- `run_controls::apply::is_due` meets its contract. Assumes nothing.
use lib.Ieee.{of_bits}
use Rattle.number.specs.Constants.{decimal}
use borrow.Author.Tests.{ne_eqb}
use Rattle.run_controls.specs.Apply.{due_by}
use Rattle.run_controls.proofs.apply.is_due.Goals as goal

pub returns-then-time-ne0 : goal.returns-then-time-ne0
unfolding due_by decimal of_bits
returns-then-time-ne0 c = rw (c.in-1.is, ne_eqb _ _ c.if-time-ne0.true)

pub returns-then-time-ne0-2 : goal.returns-then-time-ne0-2
unfolding due_by decimal of_bits
returns-then-time-ne0-2 c = rw (c.in-2.is, ne_eqb _ _ c.if-time-ne0-2.true)
