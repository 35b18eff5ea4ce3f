-- No call but a step, by either clock, moves the clock: what each writes is a node's or a link's entry. Assumes nothing.
use mathlib.Core.Path.{◌≡◌, refl, ap, ◌∙◌}
use mathlib.Core.Bool.{Bool, true, false, cond, true≢false}
use mathlib.Core.List.{List}
use Prim.Native.Nat.{ℕ}
use lib.Dec.{eqb}
use Rattle.model.specs.Blank.{blank_state}
use Rattle.model.specs.declared.project.Project.{Project}
use Rattle.model.specs.declared.state.State.{State}
use Rattle.model.proofs.Loops.{kept}
use Rattle.judge.specs.Judgement.{in_order}
use Rattle.state.specs.Start.{start_nodes, start_links, new_with_initial_values}
use Rattle.state.specs.Patterns.{apply_patterns}
use Rattle.state.proofs.Controlled.{controls_keep_clock}
use Rattle.load.specs.Loads.{load_fault, take_load}
use Rattle.load.proofs.Loaded.{load_keeps_clock}
use Rattle.solver.specs.Pressure.{apply_pressure_controls}
use Rattle.solver.specs.declared.pressure.Pressed.{Pressed}
use Rattle.calls.specs.Calls as calls
use Rattle.calls.specs.Calls.{gives}
use Rattle.calls.specs.declared.Called.{Called}
use Rattle.std.specs.Prelude.{Result, Ok, Err}
use Rattle.calls.specs.declared.refusal.Refusal.{Refusal}
use Rattle.calls.specs.declared.PressureCalled.{PressureCalled}
use Rattle.solver.proofs.ByTable.{clock_kept}
use Rattle.second_clock.specs.SecondClock.{second_applies}
use Rattle.second_clock.proofs.Laws.{second_refused}
use Rattle.list_words.specs.Calls.{Call, patterns, controls, load, tank_links, pressure, premise, step, second, tank_links_by_table, is_step}
use Rattle.demand3.specs.Calls.{asked, outcome}
use Rattle.demand3.proofs.OwnTable.{by_own_table_lem}

-- ---- the functions behind the calls
patterns_quiet : (p : Project) (s : State) → (apply_patterns p s).clock ≡ s.clock
unfolding apply_patterns
patterns_quiet p s = kept (λ (u : State). u.clock) _ s (λ i u. refl) p.counts.nodes

pressure_quiet : (p : Project) (s : State) → (apply_pressure_controls p s).state.clock ≡ s.clock
unfolding apply_pressure_controls
pressure_quiet p s = kept (λ (r : Pressed). r.state.clock) _ _ (λ i r. refl) p.counts.controls

pub start_quiet : (p : Project) → (new_with_initial_values p).clock ≡ blank_state.clock
unfolding new_with_initial_values start_links start_nodes
start_quiet p =
    kept (λ (u : State). u.clock) _ _ (λ i u. refl) p.counts.links ∙ kept (λ (u : State). u.clock) _ blank_state (λ i u. refl) p.counts.nodes

-- ---- the public calls, refused or not
judged_quiet : (p : Project) (s : State) (a : Called) → a.state.clock ≡ s.clock → (calls.judged p s a).state.clock ≡ s.clock
unfolding calls.judged
judged_quiet p s a e = go (in_order p s)
  where
    go : (b : Bool) → (cond b a (gives 10 s)).state.clock ≡ s.clock
    go true = e
    go false = refl

asked_quiet : (a : Result Bool Refusal) (s : State) → (asked a s).state.clock ≡ s.clock
asked_quiet (Ok b) s = refl
asked_quiet (Err r) s = refl

loaded_quiet : (p : Project) (words : List ℕ) (s : State) (b : Bool) → (cond b (gives 0 (take_load p words s)) (gives (load_fault p words) s)).state.clock ≡ s.clock
loaded_quiet p words s true = load_keeps_clock p words s
loaded_quiet p words s false = refl

pressed_quiet : (p : Project) (s : State) (b : Bool)
    → (cond {A = PressureCalled} b (record { number = 0; state = (apply_pressure_controls p s).state; changed = (apply_pressure_controls p s).changed }) (record { number = 10; state = s; changed = false })).state.clock
    ≡ s.clock
pressed_quiet p s true = pressure_quiet p s
pressed_quiet p s false = refl

pub quiet : (p : Project) (c : Call) (s : State) → is_step (second_applies p) c ≡ false → (outcome p c s).state.clock ≡ s.clock
unfolding outcome calls.patterns calls.controls calls.load calls.tank_links calls.pressure
quiet p patterns s e = judged_quiet p s _ (patterns_quiet p s)
quiet p controls s e = judged_quiet p s _ (controls_keep_clock p s)
quiet p (load words) s e = judged_quiet p s _ (loaded_quiet p words s (eqb (load_fault p words) 0))
quiet p tank_links s e = judged_quiet p s _ (clock_kept p s)
quiet p pressure s e = pressed_quiet p s (in_order p s)
quiet p (premise i) s e = asked_quiet (calls.premise p i s) s
quiet p step s e = absurd (true≢false e)
quiet p second s e = ap (λ (u : State). u.clock) (second_refused p s e).1
quiet p tank_links_by_table s e = rw (by_own_table_lem p s) (judged_quiet p s _ (clock_kept p s))
