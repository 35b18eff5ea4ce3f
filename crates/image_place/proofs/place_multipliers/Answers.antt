-- `image_place::place_multipliers` meets its contract. The loop's invariant is that i multipliers are put in. Assumes nothing.
use mathlib.Core.Path.{refl}
use Rattle.model.proofs.Loops.{begun, turned, ended}
use Rattle.image_place.specs.Placed.{multipliers_placed}
use Rattle.image_place.proofs.place_multipliers.Goals as goal

pub loop-i-init : goal.loop-i-init
loop-i-init c = begun

pub loop-i-preserved : goal.loop-i-preserved
loop-i-preserved c = turned c.loop-i.invariant c.loop-i-test.true (rw c.from_words.ensures)

pub returns : goal.returns
unfolding multipliers_placed
returns c = ended c.loop-i.invariant c.loop-i-test.false refl
