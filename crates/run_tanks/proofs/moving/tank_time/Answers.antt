-- `run_tanks::moving::tank_time` meets its contract. Assumes nothing.
use mathlib.Core.Path.{refl}
use borrow.Author.Rules.{rules}
use Rattle.model.proofs.Loops.{begun, turned, ended}
use Rattle.run_tanks.specs.Moving.{tank_time_of}
use Rattle.run_tanks.proofs.moving.tank_time.Goals as goal

pub loop-k-init : goal.loop-k-init
loop-k-init c = begun

pub loop-k-preserved : goal.loop-k-preserved
loop-k-preserved c = turned c.loop-k.invariant (search rules) (rw (c.min-smallest.ensures, c.time_to_fill_or_drain-candidate.ensures, c.tank-tank.ensures))

pub returns : goal.returns
unfolding tank_time_of
returns c = ended c.loop-k.invariant c.loop-k-test.false refl
