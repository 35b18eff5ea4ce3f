-- `stops_ahead::ahead::awaited_time` meets its contract. Assumes nothing.
use mathlib.Core.Path.{refl}
use Rattle.model.proofs.Loops.{begun, turned, ended}
use Rattle.stops_ahead.specs.Ahead.{awaited_time}
use Rattle.stops_ahead.proofs.ahead.awaited_time.Goals as goal

pub loop-i-init : goal.loop-i-init
loop-i-init c = begun

pub loop-i-preserved : goal.loop-i-preserved
loop-i-preserved c = turned c.loop-i.invariant c.loop-i-test.true (rw (c.smaller_positive-smallest.ensures, c.awaited_candidate.ensures))

pub returns : goal.returns
unfolding awaited_time
returns c = ended c.loop-i.invariant c.loop-i-test.false refl
