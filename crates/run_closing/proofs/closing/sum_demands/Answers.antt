-- `run_closing::closing::sum_demands` meets its contract. Assumes nothing.
use mathlib.Core.Path.{refl, ap}
use native.Mathlib.Omega.{arith}
use borrow.Author.Rules.{rules}
use lib.Ieee.{of_bits, nan}
use lib.ListN.{get_or}
use Rattle.model.proofs.Loops.{begun, turned, ended}
use Rattle.number.specs.Constants.{decimal}
use Rattle.number.specs.Operators.{◌⊕◌, ◌⊖◌}
use Rattle.run_closing.specs.Closing.{added, taken, demands_summed}
use Rattle.run_closing.proofs.Parts.{part_long, part_at, part_inside}
use Rattle.run_closing.proofs.closing.sum_demands.Goals as goal

pub loop-k-init : goal.loop-k-init
loop-k-init c = begun

pub loop-into-init : goal.loop-into-init
loop-into-init c = begun

pub bounds-flows-into : goal.bounds-flows-into
bounds-flows-into c = part_inside (c.requires c.loop-k.k c.loop-k-test.true).into c.loop-into.into-index c.loop-into-test.true

pub loop-into-preserved : goal.loop-into-preserved
loop-into-preserved c =
    let g = c.requires c.loop-k.k c.loop-k-test.true in
    turned c.loop-into.invariant (omega (arith, c.loop-into-test.true, part_long g.into (search rules)))
    (ap (λ l. c.loop-into.sum ⊕ get_or c.args.flows.now l nan) (part_at g.into c.loop-into.into-index c.loop-into-test.true))

pub loop-out-init : goal.loop-out-init
loop-out-init c = begun

pub bounds-flows-out : goal.bounds-flows-out
bounds-flows-out c = part_inside (c.requires c.loop-k.k c.loop-k-test.true).out c.loop-out.out-index c.loop-out-test.true

pub loop-out-preserved : goal.loop-out-preserved
loop-out-preserved c =
    let g = c.requires c.loop-k.k c.loop-k-test.true in
    turned c.loop-out.invariant (omega (arith, c.loop-out-test.true, part_long g.out (search rules)))
    (ap (λ l. c.loop-out.sum ⊖ get_or c.args.flows.now l nan) (part_at g.out c.loop-out.out-index c.loop-out-test.true))

pub loop-k-preserved : goal.loop-k-preserved
unfolding added taken decimal of_bits
loop-k-preserved c =
    let g = c.requires c.loop-k.k c.loop-k-test.true in
    turned c.loop-k.invariant c.loop-k-test.true
    (rw (
      ended c.loop-out.invariant (omega (arith, c.loop-out-test.false, part_long g.out (search rules))) refl,
      ended c.loop-into.invariant (omega (arith, c.loop-into-test.false, part_long g.into (search rules))) refl,
    ) refl)

pub returns : goal.returns
unfolding demands_summed
returns c = ended c.loop-k.invariant c.loop-k-test.false refl
