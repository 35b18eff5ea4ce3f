-- `tank_links::chains::Chain::write` meets its contract. The invariant: a front of the chain is written. Assumes nothing.
use Rattle.tank_links.proofs.Putting.{putting_room, putting_next, putting_ended}
use Rattle.tank_links.proofs.chains.Chain.write.Goals as goal

pub bounds-links-place : goal.bounds-links-place
bounds-links-place c = putting_room c.loop-l.invariant c.loop-l-test.true c.requires.room

pub loop-l-preserved : goal.loop-l-preserved
loop-l-preserved c = putting_next c.loop-l.invariant c.loop-l-test.true c.requires.rising

pub returns : goal.returns
returns c = let e = putting_ended c.loop-l.invariant c.loop-l-test.false in record { value = e.0; links_after = e.1 }
