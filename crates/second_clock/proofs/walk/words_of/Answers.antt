-- `second_clock::walk::words_of` meets its contract: each turn writes what one control waits for. Assumes nothing.
use mathlib.Core.Path.{refl}
use Rattle.model.proofs.Loops.{begun, turned, ended}
use Rattle.second_clock.specs.Walks.{words_of}
use Rattle.second_clock.proofs.walk.words_of.Goals as goal

pub loop-i-init : goal.loop-i-init
loop-i-init c = begun

pub loop-i-preserved : goal.loop-i-preserved
loop-i-preserved c = turned c.loop-i.invariant c.loop-i-test.true (rw c.or_never.ensures)

pub returns : goal.returns
unfolding words_of
returns c = ended c.loop-i.invariant c.loop-i-test.false refl
