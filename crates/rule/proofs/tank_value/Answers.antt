-- `rule::tank_value` meets its contract. Assumes nothing.
use lib.Ieee.{of_bits}
use Rattle.number.specs.Constants.{decimal}
use Rattle.rule.proofs.tank_value.Goals as goal

pub returns-in-FillTime : goal.returns-in-FillTime
unfolding decimal of_bits
returns-in-FillTime c = rw (c.in-FillTime.is, ← c.time_to_reach_level.ensures, c.u64_to_f64.ensures)

pub returns-in-DrainTime : goal.returns-in-DrainTime
unfolding decimal of_bits
returns-in-DrainTime c = rw (c.in-DrainTime.is, ← c.time_to_reach_level-in-DrainTime.ensures, c.u64_to_f64-in-DrainTime.ensures)
