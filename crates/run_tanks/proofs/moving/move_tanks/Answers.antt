-- `run_tanks::moving::move_tanks` meets its contract. Assumes nothing.
use mathlib.Core.Path.{refl}
use borrow.Author.Rules.{rules}
use Rattle.model.proofs.Loops.{begun, turned, ended}
use Rattle.run_tanks.specs.Moving.{heads_after}
use Rattle.run_tanks.proofs.moving.move_tanks.Goals as goal

pub loop-k-init : goal.loop-k-init
loop-k-init c = begun

pub loop-k-preserved : goal.loop-k-preserved
loop-k-preserved c = turned c.loop-k.invariant (search rules) (rw (c.head_after-after.ensures, c.tank.ensures))

pub returns : goal.returns
unfolding heads_after
returns c = ended c.loop-k.invariant c.loop-k-test.false refl
