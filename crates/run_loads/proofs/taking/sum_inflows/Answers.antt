-- `run_loads::taking::sum_inflows` meets its contract. Assumes nothing.
use mathlib.Core.Path.{refl, ◌≡◌, ◌∙◌}
use lib.Ieee.{nan}
use lib.ListN.{get_or}
use Rattle.model.proofs.Loops.{begun, turned, ended}
use Rattle.run_loads.specs.Taking.{inflows_summed, gained_at, lost_at}
use Rattle.run_loads.proofs.Marks.{marked, unmarked}
use Rattle.run_loads.proofs.taking.sum_inflows.Goals as goal
use Rattle.run_loads.proofs.taking.sum_inflows.Goals.{then-tanks-e-ne0, else-tanks-e-ne0, then-tanks-b-ne0, else-tanks-b-ne0}

pub loop-k-init : goal.loop-k-init
loop-k-init c = begun

pub loop-k-preserved : goal.loop-k-preserved
loop-k-preserved c =
    let k = c.loop-k.k in
    let flow = get_or c.args.flows.now k nan in
    let e = get_or c.args.ends.now k 0 in
    let b = get_or c.args.starts.now k 0 in
    let gained : c.if-tanks-e-ne0.demands ≡ gained_at e (get_or c.args.tanks.now e 0) flow c.loop-k.demands =
    elim c.if-tanks-e-ne0.branch [ then-tanks-e-ne0 w ↦ w.demands-is ∙ marked _ e _ _ w.if-tanks-e-ne0.true | else-tanks-e-ne0 w ↦ w.demands-is ∙ unmarked _ e _ _ w.if-tanks-e-ne0.false ] in
    let lost : c.if-tanks-b-ne0.demands ≡ lost_at b (get_or c.args.tanks.now b 0) flow c.if-tanks-e-ne0.demands =
    elim c.if-tanks-b-ne0.branch [ then-tanks-b-ne0 w ↦ w.demands-is ∙ marked _ b _ _ w.if-tanks-b-ne0.true | else-tanks-b-ne0 w ↦ w.demands-is ∙ unmarked _ b _ _ w.if-tanks-b-ne0.false ] in
    turned c.loop-k.invariant c.loop-k-test.true (rw (← gained) lost)

pub returns : goal.returns
unfolding inflows_summed
returns c = ended c.loop-k.invariant c.loop-k-test.false refl
