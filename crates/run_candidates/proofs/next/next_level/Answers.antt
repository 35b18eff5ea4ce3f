-- `run_candidates::next::next_level` meets its contract. Assumes nothing.
use mathlib.Core.Path.{refl}
use Rattle.model.proofs.Loops.{begun, turned, ended}
use Rattle.run_candidates.specs.Next.{next_level}
use Rattle.run_candidates.proofs.next.next_level.Goals as goal

pub loop-i-init : goal.loop-i-init
loop-i-init c = begun

pub loop-i-preserved : goal.loop-i-preserved
loop-i-preserved c = turned c.loop-i.invariant c.loop-i-test.true (rw (c.smaller_positive-smallest.ensures, c.time_to_reach_level-wait.ensures, c.tank_at-tank.ensures))

pub returns : goal.returns
unfolding next_level
returns c = ended c.loop-i.invariant c.loop-i-test.false refl
