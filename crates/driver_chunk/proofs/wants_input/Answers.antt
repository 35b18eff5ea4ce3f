-- `driver_chunk::wants_input` meets its contract. Assumes nothing.
use borrow.Author.Tests.{lt-ltb, le-ltb}
use Rattle.driver_chunk.proofs.wants_input.Goals as goal

pub returns-then-whole : goal.returns-then-whole
returns-then-whole c = rw c.if-whole.true

pub returns-then-duration-instant : goal.returns-then-duration-instant
returns-then-duration-instant c = rw (c.if-whole.false, le-ltb _ _ c.if-duration-instant.true)

pub returns-then-left-size : goal.returns-then-left-size
returns-then-left-size c = rw (c.if-whole.false, lt-ltb _ _ c.if-duration-instant.false, lt-ltb _ _ c.if-left-size.true)

pub returns : goal.returns
returns c = rw (c.if-whole.false, lt-ltb _ _ c.if-duration-instant.false, le-ltb _ _ c.if-left-size.false)
