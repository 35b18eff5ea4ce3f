-- `premise::total_demand` meets its contract. Assumes nothing.
use lib.Ieee.{of_bits}
use Rattle.number.specs.Constants.{decimal}
use Prim.Native.Nat.{◌-◌}
use mathlib.Core.Path.{refl}
use native.Mathlib.Omega.{arith}
use Rattle.model.proofs.Loops.{begun, turned, ended}
use Rattle.premise.specs.Premise.{total_demand}
use borrow.Author.Rules.{rules}
use Rattle.premise.proofs.total_demand.Goals as goal

pub loop-i-init : goal.loop-i-init
loop-i-init c = begun

pub offset_bounds-s-i : goal.offset_bounds-s-i
offset_bounds-s-i c = omega (arith, c.requires.few.nodes)

pub bounds-s-i : goal.bounds-s-i
bounds-s-i c = omega (arith, c.requires.few.nodes)

pub loop-i-preserved : goal.loop-i-preserved
loop-i-preserved c = turned c.loop-i.invariant (search rules) refl

pub returns : goal.returns
unfolding total_demand decimal of_bits
returns c = ended c.loop-i.invariant c.loop-i-test.false refl
