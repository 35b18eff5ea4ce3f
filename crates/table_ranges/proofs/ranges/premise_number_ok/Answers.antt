-- `table_ranges::ranges::premise_number_ok` meets its contract. Assumes nothing.
use Rattle.table_ranges.specs.Ranges.{premise_number_ok}
use lib.Ieee.{of_bits}
use Rattle.number.specs.Constants.{decimal}
use Rattle.table_ranges.proofs.ranges.premise_number_ok.Goals as goal

pub returns : goal.returns
unfolding premise_number_ok decimal of_bits
returns c = c.within.ensures
