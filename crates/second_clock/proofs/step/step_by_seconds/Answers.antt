-- `second_clock::step::step_by_seconds` meets its contract: each test decides one of the definition's. Assumes nothing.
use mathlib.Core.Path.{sym, ◌∙◌, subst}
use Rattle.tables.proofs.Fits.{tables_fit}
use Rattle.calls_sound.proofs.Theorem.{tables_of}
use Rattle.second_clock.specs.Walks.{TimesFit}
use Rattle.second_clock.specs.SecondClock.{second_length, second}
use Rattle.second_clock.proofs.Walks.{times_fit, walk_of, room}
use Rattle.second_clock.proofs.step.step_by_seconds.Goals as goal

pub returns-then-not-in_order : goal.returns-then-not-in_order
unfolding second
returns-then-not-in_order c = rw (← c.in_order.ensures, c.if-not-in_order.true)

pub second_applies-requires : goal.second_applies-requires
second_applies-requires c =
    let a = c.args in
    tables_fit a.p (tables_of a.p a.s (sym c.in_order.ensures ∙ c.if-not-in_order.false))

pub returns-then-not-second_applies : goal.returns-then-not-second_applies
unfolding second
returns-then-not-second_applies c =
    rw (
      ← c.in_order.ensures,
      c.if-not-in_order.false,
      ← c.second_applies.ensures,
      c.if-not-second_applies.true,
    )

pub times_of-requires : goal.times_of-requires
times_of-requires c =
    let a = c.args in
    tables_fit a.p (tables_of a.p a.s (sym c.in_order.ensures ∙ c.if-not-in_order.false))

pub walk-length-requires : goal.walk-length-requires
walk-length-requires c =
    let a = c.args in
    let t = tables_fit a.p (tables_of a.p a.s (sym c.in_order.ensures ∙ c.if-not-in_order.false)) in
    record { times_fit = subst TimesFit (sym c.times_of.ensures) (times_fit a.p t); count_bound = t.few.controls }

pub moved_on-requires : goal.moved_on-requires
moved_on-requires c =
    let a = c.args in
    room a.p a.s (sym c.in_order.ensures ∙ c.if-not-in_order.false) _
    (walk_of a.p _ a.s.clock.instant _ c.times_of.ensures c.walk-length.ensures)

pub returns : goal.returns
unfolding second second_length
returns c =
    let a = c.args in
    rw (
      ← c.in_order.ensures,
      c.if-not-in_order.false,
      ← c.second_applies.ensures,
      c.if-not-second_applies.false,
      ← walk_of a.p _ a.s.clock.instant _ c.times_of.ensures c.walk-length.ensures,
      c.moved_on.ensures,
    )
