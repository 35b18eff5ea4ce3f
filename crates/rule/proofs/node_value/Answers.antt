-- `rule::node_value` meets its contract. Assumes nothing.
use lib.Ieee.{of_bits}
use Rattle.number.specs.Constants.{decimal}
use Rattle.rule.proofs.node_value.Goals as goal

pub returns-in-Pressure : goal.returns-in-Pressure
unfolding decimal of_bits
returns-in-Pressure c = rw (c.in-Pressure.is, c.elevation.ensures)
