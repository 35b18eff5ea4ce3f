-- `run_candidates::next::smallest` meets its contract. Assumes nothing.
use mathlib.Core.Path.{refl}
use Rattle.model.proofs.Loops.{begun, turned, ended}
use Rattle.run_candidates.proofs.next.smallest.Goals as goal

pub loop-i-init : goal.loop-i-init
loop-i-init g c = begun

pub loop-i-preserved : goal.loop-i-preserved
loop-i-preserved g c = turned c.loop-i.invariant c.loop-i-test.true (rw (c.smaller_positive-smallest.ensures, c.requires.1.1 _ _ c.candidate.ensures))

pub returns : goal.returns
returns g c = ended c.loop-i.invariant c.loop-i-test.false refl
