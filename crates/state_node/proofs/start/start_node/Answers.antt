-- `state_node::start::start_node` meets its contract. Assumes nothing.
use lib.Ieee.{of_bits}
use Rattle.number.specs.Constants.{decimal}
use Rattle.state_node.proofs.start.start_node.Goals as goal

pub returns : goal.returns
unfolding decimal of_bits
returns c = rw c.initial_head.ensures
