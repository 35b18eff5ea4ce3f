-- `run_kinds::levels::level_calls` meets its contract. The invariant: the levels of the controls passed are listed. Assumes nothing.
use mathlib.Core.Path.{sym, ◌∙◌}
use borrow.Author.Rules.{rules}
use native.Mathlib.Omega.{arith}
use Rattle.run_kinds.proofs.Standing.{list_none, list_pass, list_untanked, list_put, numbered}
use Rattle.run_kinds.proofs.levels.level_calls.Goals as goal
use Rattle.run_kinds.proofs.levels.level_calls.Goals.{in-Some+in-Some-tank_number, in-Some+in_default-tank_number, in_default}

pub loop-i-init : goal.loop-i-init
loop-i-init c = list_none (search rules) (search rules)

pub overflow_cast-numbers : goal.overflow_cast-numbers
overflow_cast-numbers c = omega (arith, c.args.tanks.now.inside.most, ((numbered c.tank_number.ensures.most _ c.tank_number.ensures.value).found _ c.in-Some-tank_number.is).0)

pub loop-i-preserved : goal.loop-i-preserved
loop-i-preserved c =
    let h = c.loop-i.invariant in
    elim c.match-level_of.branch [
      | in-Some+in-Some-tank_number w ↦
          rw (w.numbers-is, w.targets-is, w.count-is)
          (list_put h (omega (arith, c.requires, c.loop-i-test.true)) (sym c.level_of.ensures ∙ w.in-Some.is)
          (rw (← w.in-Some-tank_number.is) (numbered w.tank_number.ensures.most _ w.tank_number.ensures.value)))
      | in-Some+in_default-tank_number w ↦
          rw (w.numbers-is, w.targets-is, w.count-is)
          (list_untanked h (sym c.level_of.ensures ∙ w.in-Some.is) (rw (← w.in_default-tank_number.is) (numbered w.tank_number.ensures.most _ w.tank_number.ensures.value)))
      | in_default w ↦ rw (w.numbers-is, w.targets-is, w.count-is) (list_pass h (sym c.level_of.ensures ∙ w.in_default.is))
    ]
