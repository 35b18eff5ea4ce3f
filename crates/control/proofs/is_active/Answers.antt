-- `control::is_active` meets its contract. Assumes nothing.
use lib.Ieee.{of_bits}
use Rattle.number.specs.Constants.{decimal}
use Rattle.control.proofs.is_active.Goals as goal

pub returns-in-HighPressure : goal.returns-in-HighPressure
unfolding decimal of_bits
returns-in-HighPressure c = rw (c.in-HighPressure.is, c.above.ensures)

pub returns-in-LowPressure : goal.returns-in-LowPressure
unfolding decimal of_bits
returns-in-LowPressure c = rw (c.in-LowPressure.is, c.above-in-LowPressure.ensures)

pub returns-in-HighLevel : goal.returns-in-HighLevel
unfolding decimal of_bits
returns-in-HighLevel c = rw (c.in-HighLevel.is, c.is_tank.ensures, c.above-in-HighLevel.ensures)

pub returns-in-LowLevel : goal.returns-in-LowLevel
unfolding decimal of_bits
returns-in-LowLevel c = rw (c.in-LowLevel.is, c.is_tank-in-LowLevel.ensures, c.above-in-LowLevel.ensures)
