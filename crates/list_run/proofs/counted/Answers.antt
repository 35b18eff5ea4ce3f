-- `list_run::counted` meets its contract. Assumes nothing.
use mathlib.Core.Path.{ap, ◌∙◌}
use mathlib.Core.Bool.{not}
use native.Mathlib.Omega.{arith}
use lib.Dec.{eqb}
use Prim.Native.Nat.{◌+◌}
use Rattle.clock.specs.Machine.{bit}
use Rattle.list_words.specs.Calls.{is_step}
use Rattle.list_words.specs.Lists.{call_of}
use Rattle.list_words.proofs.Codes.{asks_step_lem}
use Rattle.list_call.proofs.FirstCall.{first_call_is}
use Rattle.demand3.specs.declared.Outcome.{Outcome}
use Rattle.list_run.proofs.Counts.{sum_fits, moves_fit, counted_is, byte}
use Rattle.list_run.proofs.counted.Goals as goal

pub overflow_add-result-2 : goal.overflow_add-result-2
overflow_add-result-2 c =
    let a = c.args in
    let o = c.first_call-o.ensures ∙ first_call_is a.p a.words.now a.r.state c.requires.asked_bound.3 in
    omega (arith, ap (λ (o : Outcome). o.length) o, sum_fits a.p (call_of a.words.now) a.r c.requires.state_value c.requires.asked_bound.1)

pub overflow_add-result-3 : goal.overflow_add-result-3
overflow_add-result-3 c =
    let a = c.args in
    let o = c.first_call-o.ensures ∙ first_call_is a.p a.words.now a.r.state c.requires.asked_bound.3 in
    let moved = c.from.ensures ∙ byte _ ∙ ap (λ (o : Outcome). bit (not (eqb o.state.clock.instant a.r.state.clock.instant))) o in
    omega (arith, moved, moves_fit a.p (call_of a.words.now) a.r c.requires.state_value c.requires.asked_bound.2)

pub returns : goal.returns
returns c =
    let a = c.args in
    let o = c.first_call-o.ensures ∙ first_call_is a.p a.words.now a.r.state c.requires.asked_bound.3 in
    counted_is a.p (call_of a.words.now) a.r _ _ _ o
    (c.steps_asked.ensures ∙ ap bit (asks_step_lem a.serves a.words.now c.requires.asked_bound.3) ∙ ap (λ b. bit (is_step b (call_of a.words.now))) c.requires.serves_value)
    (ap (λ k. a.r.moves + k) (c.from.ensures ∙ byte _))
