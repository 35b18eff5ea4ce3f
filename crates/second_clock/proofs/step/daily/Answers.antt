-- `second_clock::step::daily` meets its contract. Assumes nothing.
use mathlib.Core.Path.{refl}
use Rattle.second_clock.specs.SecondClock.{daily}
use Rattle.second_clock.proofs.step.daily.Goals as goal

pub returns : goal.returns
unfolding daily
returns c = refl
