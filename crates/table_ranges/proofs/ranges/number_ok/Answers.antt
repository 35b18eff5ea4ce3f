-- `table_ranges::ranges::number_ok` meets its contract. Assumes nothing.
use Rattle.table_ranges.specs.Ranges.{number_ok}
use lib.Ieee.{of_bits}
use Rattle.number.specs.Constants.{decimal}
use Rattle.table_ranges.proofs.ranges.number_ok.Goals as goal

pub returns : goal.returns
unfolding number_ok decimal of_bits
returns c = c.within.ensures
