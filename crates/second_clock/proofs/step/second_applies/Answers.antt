-- `second_clock::step::second_applies` meets its contract. Assumes nothing.
use Rattle.second_clock.specs.SecondClock.{second_applies}
use Rattle.second_clock.proofs.step.second_applies.Goals as goal

pub returns : goal.returns
unfolding second_applies
returns c = rw (c.daily.ensures, c.no_tanks.ensures, c.times_of-o.ensures)
