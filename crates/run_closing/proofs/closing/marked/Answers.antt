-- `run_closing::closing::marked` meets its contract. Assumes nothing.
use lib.Ieee.{of_bits}
use Rattle.number.specs.Constants.{decimal}
use Rattle.run_closing.specs.Closing.{marked}
use Rattle.run_closing.proofs.closing.marked.Goals as goal

pub returns-then-forward-flow : goal.returns-then-forward-flow
unfolding marked decimal of_bits
returns-then-forward-flow c = rw c.if-forward-flow.true

pub returns : goal.returns
unfolding marked decimal of_bits
returns c = rw c.if-forward-flow.false
