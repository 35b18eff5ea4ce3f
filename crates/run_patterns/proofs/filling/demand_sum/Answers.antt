-- `run_patterns::filling::demand_sum` meets its contract. Assumes nothing.
use mathlib.Core.Path.{refl}
use lib.Ieee.{of_bits}
use Rattle.model.proofs.Loops.{begun, turned, ended}
use Rattle.number.specs.Constants.{decimal}
use Rattle.run_patterns.specs.Filling.{demand_sum}
use Rattle.run_patterns.proofs.filling.demand_sum.Goals as goal

pub loop-j-init : goal.loop-j-init
loop-j-init c = begun

pub loop-j-preserved : goal.loop-j-preserved
loop-j-preserved c = turned c.loop-j.invariant c.loop-j-test.true refl

pub returns : goal.returns
unfolding demand_sum decimal of_bits
returns c = ended c.loop-j.invariant c.loop-j-test.false refl
