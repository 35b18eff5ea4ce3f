-- `second_clock::step::moved_on` meets its contract. The code's test is the definition's. Assumes nothing.
use borrow.Author.Tests.{eq-eqb, ne_eqb}
use Rattle.second_clock.specs.SecondClock.{moved_on}
use Rattle.second_clock.proofs.step.moved_on.Goals as goal

pub returns-then-seconds-eq0 : goal.returns-then-seconds-eq0
unfolding moved_on
returns-then-seconds-eq0 c = rw (eq-eqb _ _ c.if-seconds-eq0.true)

pub returns : goal.returns
unfolding moved_on
returns c = rw (ne_eqb _ _ c.if-seconds-eq0.false)
