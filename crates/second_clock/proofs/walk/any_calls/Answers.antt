-- `second_clock::walk::any_calls` meets its contract. Assumes nothing.
use mathlib.Core.Path.{refl}
use Rattle.model.proofs.Loops.{begun, turned, ended}
use Rattle.second_clock.specs.Walks.{any_calls}
use Rattle.second_clock.proofs.walk.any_calls.Goals as goal

pub loop-i-init : goal.loop-i-init
loop-i-init c = begun

pub loop-i-preserved : goal.loop-i-preserved
loop-i-preserved c = turned c.loop-i.invariant c.loop-i-test.true refl

pub returns : goal.returns
unfolding any_calls
returns c = ended c.loop-i.invariant c.loop-i-test.false refl
