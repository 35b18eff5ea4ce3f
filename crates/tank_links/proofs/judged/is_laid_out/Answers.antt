-- `tank_links::judged::is_laid_out` meets its contract: its own table has the places and entries that the definition asks for. Assumes nothing.
use mathlib.Core.Path.{refl, sym, ◌∙◌}
use mathlib.Core.Bool.{true≢false}
use Rattle.tank_links.proofs.Judging.{Own, own}
use Rattle.tank_links.proofs.judged.is_laid_out.Goals.{After-lay_out-n, then-starts_with, else-starts_with}
use Rattle.tank_links.proofs.judged.is_laid_out.Goals as goal

laid : (c : After-lay_out-n) → Own c.args.p c.lay_out-n.new.groups.begins c.lay_out-n.new.groups.middles c.lay_out-n.new.groups.links c.lay_out-n.result
laid c =
    let z = c.empty-own.ensures in
    let e = c.lay_out-n.ensures in own c.args.p c.requires z.begins z.middles z.links e.value e.begins_after e.middles_after e.links_after

pub shared_ref_as_front-starts_with-then-starts_with-2 : goal.shared_ref_as_front-starts_with-then-starts_with-2
shared_ref_as_front-starts_with-then-starts_with-2 c = (laid (goal.at.shared_ref_as_front-starts_with-then-starts_with-2 c).After-lay_out-n).fits

pub returns-then-starts_with-2 : goal.returns-then-starts_with-2
returns-then-starts_with-2 c =
    let g = c.args.groups.now in
    let tells = (laid (goal.at.returns-then-starts_with-2 c).After-lay_out-n).tells g.begins g.middles g.links in
    elim c.if-starts_with.branch [
      | then-starts_with w ↦
          rw (← tells, ← c.starts_with.ensures.value, ← w.starts_with-then-starts_with.ensures.value, w.if-starts_with.true, ← w.value-is, c.if-starts_with-2.true)
          c.starts_with-then-starts_with-2.ensures.value
      | else-starts_with w ↦ absurd (true≢false (sym c.if-starts_with-2.true ∙ w.value-is ∙ w.if-starts_with.false))
    ]

pub returns-else-starts_with-2 : goal.returns-else-starts_with-2
returns-else-starts_with-2 c =
    let g = c.args.groups.now in
    let tells = (laid (goal.at.returns-else-starts_with-2 c).After-lay_out-n).tells g.begins g.middles g.links in
    elim c.if-starts_with.branch [
      | then-starts_with w ↦ rw (← tells, ← c.starts_with.ensures.value, ← w.starts_with-then-starts_with.ensures.value, w.if-starts_with.true, ← w.value-is, c.if-starts_with-2.false) refl
      | else-starts_with w ↦ rw (← tells, ← c.starts_with.ensures.value, w.if-starts_with.false) c.if-starts_with-2.false
    ]
