-- `run_kinds::times::seconds_where` meets its contract. The invariant: what the pick found is listed. Assumes nothing.
use mathlib.Core.Path.{sym, ◌∙◌}
use borrow.Author.Rules.{rules}
use native.Mathlib.Omega.{arith}
use Rattle.run_kinds.proofs.Listing.{list_none, list_pass, list_put}
use Rattle.run_kinds.proofs.times.seconds_where.Goals as goal
use Rattle.run_kinds.proofs.times.seconds_where.Goals.{in-Some, in_default}

pub loop-i-init : goal.loop-i-init
loop-i-init g c = list_none (search rules)

pub loop-i-preserved : goal.loop-i-preserved
loop-i-preserved g c =
    let h = c.loop-i.invariant in
    elim c.match-pick.branch [
      | in-Some w ↦ rw (w.seconds-is, w.count-is) (list_put h (omega (arith, c.requires.1.0, c.loop-i-test.true)) (sym w.in-Some.is ∙ c.requires.1.1.1 _ _ c.pick.ensures))
      | in_default w ↦ rw (w.seconds-is, w.count-is) (list_pass h (sym w.in_default.is ∙ c.requires.1.1.1 _ _ c.pick.ensures))
    ]
