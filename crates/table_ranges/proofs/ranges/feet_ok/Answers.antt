-- `table_ranges::ranges::feet_ok` meets its contract. Assumes nothing.
use Rattle.table_ranges.specs.Ranges.{feet_ok}
use lib.Ieee.{of_bits}
use Rattle.number.specs.Constants.{decimal}
use Rattle.table_ranges.proofs.ranges.feet_ok.Goals as goal

pub returns : goal.returns
unfolding feet_ok decimal of_bits
returns c = c.within.ensures
