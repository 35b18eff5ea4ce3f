-- `awaited::awaited_by` meets its contract: each turn notes what one control waits for, in both lists. Assumes nothing.
use mathlib.Core.Path.{refl}
use Rattle.model.proofs.Loops.{begun, turned, ended}
use Rattle.awaited.specs.Awaited.{notes}
use Rattle.awaited.proofs.awaited_by.Goals as goal

pub loop-i-init : goal.loop-i-init
loop-i-init c = (begun, begun)

pub loop-i-preserved : goal.loop-i-preserved
loop-i-preserved c =
    let g = c.loop-i.invariant in
    (turned g.0 c.loop-i-test.true (rw c.time_of.ensures), turned g.1 c.loop-i-test.true (rw c.clock_of.ensures))

pub returns : goal.returns
unfolding notes
returns c =
    let g = c.loop-i.invariant in
    rw (ended g.0 c.loop-i-test.false refl, ended g.1 c.loop-i-test.false refl)
