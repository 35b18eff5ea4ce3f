-- `driver_chunk::can_turn` meets its contract. Assumes nothing.
use borrow.Author.Tests.{eq-eqb, ne_eqb}
use Rattle.driver_chunk.proofs.can_turn.Goals as goal

pub returns-then-wants-eq0 : goal.returns-then-wants-eq0
returns-then-wants-eq0 c = rw (c.if-over.false, eq-eqb _ _ c.if-wants-eq0.true)

pub returns : goal.returns
returns c = rw (c.if-over.false, ne_eqb _ _ c.if-wants-eq0.false)
