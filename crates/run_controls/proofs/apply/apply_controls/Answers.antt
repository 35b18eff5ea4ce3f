-- `run_controls::apply::apply_controls` meets its contract. The invariant: the turns of the rows passed are taken. Assumes nothing.
use mathlib.Core.Path.{refl}
use Rattle.model.proofs.Loops.{begun, turned, ended}
use Rattle.run_controls.specs.Apply.{links_after}
use Rattle.run_controls.proofs.apply.apply_controls.Goals as goal

pub loop-i-init : goal.loop-i-init
loop-i-init c = begun

pub loop-i-preserved : goal.loop-i-preserved
loop-i-preserved c = turned c.loop-i.invariant c.loop-i-test.true (rw (c.acted-y.ensures, c.is_due.ensures, c.row-r.ensures))

pub returns : goal.returns
unfolding links_after
returns c = ended c.loop-i.invariant c.loop-i-test.false refl
