-- `run_patterns::filling::fill_heads` meets its contract. Assumes nothing.
use mathlib.Core.Path.{refl}
use Rattle.model.proofs.Loops.{begun, turned, ended}
use Rattle.run_patterns.specs.Filling.{heads_filled}
use Rattle.run_patterns.proofs.filling.fill_heads.Goals as goal

pub loop-r-init : goal.loop-r-init
loop-r-init c = begun

pub loop-r-preserved : goal.loop-r-preserved
loop-r-preserved c = turned c.loop-r.invariant c.loop-r-test.true refl

pub returns : goal.returns
unfolding heads_filled
returns c = ended c.loop-r.invariant c.loop-r-test.false refl
