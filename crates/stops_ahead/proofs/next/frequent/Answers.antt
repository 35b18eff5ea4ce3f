-- `stops_ahead::next::frequent` meets its contract. Assumes nothing.
use mathlib.Core.Path.{refl}
use Rattle.stops_ahead.specs.Foreseen.{frequent}
use Rattle.stops_ahead.proofs.next.frequent.Goals as goal

pub returns : goal.returns
unfolding frequent
returns c = refl
