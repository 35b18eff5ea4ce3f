-- The public calls are a lawful machine on an accepted project's tables: by soundness a state stays in order, and only loads, premises and a second
-- clock that does not serve are refused; no call but a step moves the clock, and a step by either clock moves it by its length. Assumes nothing.
use mathlib.Core.Path.{◌≡◌, refl, sym, ap, ◌∙◌}
use mathlib.Core.Logic.{◌⊎◌, inl, inr}
use mathlib.Core.Bool.{Bool, true, false, cond, true≢false}
use mathlib.Core.List.{List}
use Prim.Native.Nat.{ℕ, ◌+◌}
use native.Mathlib.Omega.{arith}
use lib.Dec.{eqb, ltb}
use borrow.Author.Tests.{lt-ltb}
use Rattle.clock.proofs.Tests.{eqb_ind}
use Rattle.clock.specs.Lawful.{Lawful, Start, Stepping}
use Rattle.clock.specs.Machine.{bit}
use Rattle.clock.specs.Steps.{advanced}
use Rattle.clock.specs.declared.hand.Clock.{Clock}
use Rattle.model.specs.Blank.{blank_state}
use Rattle.model.specs.declared.project.Project.{Project}
use Rattle.model.specs.declared.state.State.{State}
use Rattle.tables.specs.Tables.{tables_ok}
use Rattle.tables.proofs.Fits.{tables_fit}
use Rattle.judge.specs.Judgement.{in_order}
use Rattle.load.specs.Loads.{shape_ok, values_ok, value_count, load_fault}
use Rattle.state.specs.Tanks.{update_tanks}
use Rattle.simulation.specs.Steps.{times_of, triggers_of, length_of, moved_by, next_hydraulic_timestep}
use Rattle.calls.specs.Calls as calls
use Rattle.calls.specs.Calls.{start, premise_number}
use Rattle.std.specs.Prelude.{Result, Ok, Err}
use Rattle.calls.specs.declared.refusal.Refusal.{Refusal}
use Rattle.calls.specs.declared.StepCalled.{StepCalled}
use Rattle.calls_sound.proofs.Step.{step_in_order, step_accepted, step_length_lem, step_within, step_moves}
use Rattle.calls_sound.proofs.Theorem.{tables_of, state_of, start_in_order, patterns_in_order, patterns_accepted, controls_in_order, controls_accepted, tank_links_in_order, tank_links_accepted, pressure_in_order, pressure_accepted, load_in_order, load_number, premise_number_lem}
use Rattle.second_clock.specs.SecondClock as second_clock
use Rattle.second_clock.specs.SecondClock.{second_applies}
use Rattle.second_clock.proofs.Laws.{second_number, second_in_order}
use Rattle.second_clock.proofs.Same.{second_is_step}
use Rattle.list_words.specs.Calls.{Call, patterns, controls, load, tank_links, pressure, premise, step, second, tank_links_by_table, is_step}
use Rattle.demand3.specs.Calls.{asked, outcome}
use Rattle.demand3.specs.Machine.{MayGive, machine}
use Rattle.demand3.proofs.OwnTable.{by_own_table_lem}
use Rattle.demand3.proofs.Quiet.{quiet, start_quiet}

-- ---- the numbers
load_may : (p : Project) (words : List ℕ) → (load_fault p words ≡ 0) ⊎ (load_fault p words ≡ 7) ⊎ (load_fault p words ≡ 8)
unfolding load_fault
load_may p words = go (shape_ok (value_count p) words) (values_ok (value_count p) words)
  where
    fault : Bool → Bool → ℕ
    fault a b = cond a (cond b 0 8) 7

    go : (a b : Bool) → (fault a b ≡ 0) ⊎ (fault a b ≡ 7) ⊎ (fault a b ≡ 8)
    go true true = inl refl
    go true false = inr (inr refl)
    go false b = inr (inl refl)

asked_number : (a : Result Bool Refusal) (s : State) → (asked a s).number ≡ premise_number a
asked_number (Ok b) s = refl
asked_number (Err r) s = refl

asked_state : (a : Result Bool Refusal) (s : State) → (asked a s).state ≡ s
asked_state (Ok b) s = refl
asked_state (Err r) s = refl

zero_or_nine : (n : ℕ) (b : Bool) → n ≡ cond b 0 9 → (n ≡ 0) ⊎ (n ≡ 9)
zero_or_nine n true e = inl e
zero_or_nine n false e = inr e

may_give : (p : Project) (c : Call) (s : State) → in_order p s ≡ true → MayGive p c (outcome p c s).number
unfolding outcome
may_give p patterns s e = patterns_accepted p s e
may_give p controls s e = controls_accepted p s e
may_give p (load words) s e = rw (load_number p s e words) (load_may p words)
may_give p tank_links s e = tank_links_accepted p s e
may_give p pressure s e = pressure_accepted p s e
may_give p (premise i) s e = zero_or_nine _ (ltb i p.counts.premises) (asked_number (calls.premise p i s) s ∙ premise_number_lem p s e i)
may_give p step s e = step_accepted p s e
may_give p second s e = second_number p s e
may_give p tank_links_by_table s e = rw (by_own_table_lem p s) (tank_links_accepted p s e)

-- ---- order
stays : (p : Project) (c : Call) (s : State) → in_order p s ≡ true → in_order p (outcome p c s).state ≡ true
unfolding outcome
stays p patterns s e = patterns_in_order p s e
stays p controls s e = controls_in_order p s e
stays p (load words) s e = load_in_order p s e words
stays p tank_links s e = tank_links_in_order p s e
stays p pressure s e = pressure_in_order p s e
stays p (premise i) s e = ap (in_order p) (asked_state (calls.premise p i s) s) ∙ e
stays p step s e = step_in_order p s e
stays p second s e = second_in_order p s e
stays p tank_links_by_table s e = rw (by_own_table_lem p s) (tank_links_in_order p s e)

-- ---- the step
abbrev hand : Clock → ℕ → Bool → Clock
hand c length b = cond b c (record { instant = c.instant + length; count = c.count + 1 })

hand_moved : (c u : Clock) (length : ℕ) → u ≡ hand c length (eqb length 0) → (u.instant ≡ c.instant + length) × (u.count ≡ c.count + bit (ltb 0 length))
hand_moved c u length =
    eqb_ind (λ b. u ≡ hand c length b → (u.instant ≡ c.instant + length) × (u.count ≡ c.count + bit (ltb 0 length))) length 0
    (λ z e. (ap (λ (k : Clock). k.instant) e ∙ rw z (omega arith), ap (λ (k : Clock). k.count) e ∙ rw z (omega arith)))
    (λ n e. (ap (λ (k : Clock). k.instant) e, ap (λ (k : Clock). k.count) e ∙ rw (lt-ltb 0 length (omega arith))))

step_clock : (p : Project) (s : State) → in_order p s ≡ true → (calls.step p s).state.clock ≡ hand s.clock (length_of p s) (eqb (length_of p s) 0)
unfolding calls.step next_hydraulic_timestep moved_by
step_clock p s e =
    let t = tables_fit p (tables_of p s e) in
    let o = state_of p s e in
    rw e
    (eqb_ind (λ b. (cond b s (record { nodes = (update_tanks p s (length_of p s)).nodes; links = (update_tanks p s (length_of p s)).links; clock = advanced s.clock (length_of p s) })).clock ≡ hand s.clock (length_of p s) b)
    (length_of p s) 0 (λ z. refl) (λ n. step_moves t o (length_of p s) n (step_within t o)))

-- a call that answers and leaves what the step does
stepping : (p : Project) (s : State) → in_order p s ≡ true → (c : StepCalled) → c ≡ calls.step p s
    → (c.length ≡ length_of p s) × (c.state.clock.instant ≡ s.clock.instant + c.length) × (c.state.clock.count ≡ s.clock.count + bit (ltb 0 c.length))
stepping p s e c same =
    let l = step_length_lem p s e in
    let h = hand_moved s.clock (calls.step p s).state.clock (length_of p s) (step_clock p s e) in
    rw (same, l) (refl, h.0, h.1)

steps : (p : Project) (c : Call) (s : State) → in_order p s ≡ true → is_step (second_applies p) c ≡ true → Stepping (machine p) (times_of p) (triggers_of p) c s
unfolding outcome length_of
steps p patterns s e q = absurd (true≢false (sym q))
steps p controls s e q = absurd (true≢false (sym q))
steps p (load words) s e q = absurd (true≢false (sym q))
steps p tank_links s e q = absurd (true≢false (sym q))
steps p pressure s e q = absurd (true≢false (sym q))
steps p (premise i) s e q = absurd (true≢false (sym q))
steps p step s e q =
    let k = stepping p s e (calls.step p s) refl in
    record { length = k.0; instant = k.1; count = k.2 }
steps p second s e q =
    let k = stepping p s e (second_clock.second p s) (second_is_step p q s e) in
    record { length = k.0; instant = k.1; count = k.2 }
steps p tank_links_by_table s e q = absurd (true≢false (sym q))

pub lawful : (p : Project) → Lawful (machine p) (times_of p) (triggers_of p)
lawful p = record {
  sound = λ c s e. stays p c s e;
  number = λ c s e. may_give p c s e;
  quiet = λ c s e q. let k = quiet p c s q in record { instant = ap (λ (c : Clock). c.instant) k; count = ap (λ (c : Clock). c.count) k };
  step = λ c s e q. steps p c s e q;
}

-- ---- the start
start_clock_lem : (p : Project) → tables_ok p ≡ true → (start p).state.clock ≡ blank_state.clock
unfolding start
start_clock_lem p e = rw e (start_quiet p)

pub start_accepted : (p : Project) → tables_ok p ≡ true → (start p).number ≡ 0
unfolding start
start_accepted p e = rw e

pub started : (p : Project) → tables_ok p ≡ true → Start (machine p) (start p).state
unfolding blank_state
started p e = record {
  sound = start_in_order p (start_accepted p e);
  instant = ap (λ (c : Clock). c.instant) (start_clock_lem p e);
  count = ap (λ (c : Clock). c.count) (start_clock_lem p e);
}
