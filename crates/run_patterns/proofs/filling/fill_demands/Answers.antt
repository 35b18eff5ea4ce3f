-- `run_patterns::filling::fill_demands` meets its contract. Assumes nothing.
use mathlib.Core.Path.{refl}
use Rattle.model.proofs.Loops.{begun, turned, ended}
use Rattle.run_patterns.specs.Filling.{demands_filled}
use Rattle.run_patterns.proofs.filling.fill_demands.Goals as goal

pub loop-i-init : goal.loop-i-init
loop-i-init c = begun

pub loop-i-preserved : goal.loop-i-preserved
loop-i-preserved c = turned c.loop-i.invariant c.loop-i-test.true (rw c.demand_sum.ensures)

pub returns : goal.returns
unfolding demands_filled
returns c = ended c.loop-i.invariant c.loop-i-test.false refl
