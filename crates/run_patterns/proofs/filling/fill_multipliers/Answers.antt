-- `run_patterns::filling::fill_multipliers` meets its contract. Assumes nothing.
use mathlib.Core.List.{List}
use mathlib.Core.Path.{refl, ap}
use lib.ListN.{set}
use lib.Ieee.{Float, of_bits}
use Rattle.model.proofs.Loops.{begun, turned, ended}
use Rattle.number.specs.Constants.{decimal}
use Rattle.run_patterns.specs.Filling.{multipliers_filled}
use Rattle.run_patterns.proofs.filling.fill_multipliers.Goals as goal

pub loop-k-init : goal.loop-k-init
loop-k-init c = begun

pub loop-k-preserved : goal.loop-k-preserved
loop-k-preserved c = turned c.loop-k.invariant c.loop-k-test.true (rw c.pattern_multiplier.ensures)

pub returns : goal.returns
unfolding multipliers_filled decimal of_bits
returns c = ap (λ (l : List Float). set l 32 (decimal 1 0)) (ended c.loop-k.invariant c.loop-k-test.false refl)
