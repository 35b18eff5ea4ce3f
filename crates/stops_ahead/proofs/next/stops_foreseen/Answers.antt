-- `stops_ahead::next::stops_foreseen` meets its contract. Assumes nothing.
use Rattle.stops_ahead.specs.Foreseen.{stops_foreseen}
use Rattle.stops_ahead.proofs.next.stops_foreseen.Goals as goal

pub returns : goal.returns
unfolding stops_foreseen
returns c = rw (c.frequent.ensures, c.no_tanks.ensures, c.times_of-o.ensures)
