-- `pattern_view::multiplier_by_instant` meets its contract. Assumes nothing.
use Rattle.pattern_view.specs.View.{multiplier_in_force}
use Rattle.pattern_view.proofs.multiplier_by_instant.Goals as goal

pub returns : goal.returns
unfolding multiplier_in_force
returns c = rw (c.multiplier_at.ensures, c.period.ensures)
