-- `table_ranges::ranges::diameter_ok` meets its contract. Assumes nothing.
use Rattle.table_ranges.specs.Ranges.{diameter_ok}
use lib.Ieee.{of_bits}
use Rattle.number.specs.Constants.{decimal}
use Rattle.table_ranges.proofs.ranges.diameter_ok.Goals as goal

pub returns : goal.returns
unfolding diameter_ok decimal of_bits
returns c = c.in_range.ensures
