-- A whole turn over the arrays of a run, before the duration: the definition's turn, and the state that the arrays hold after it. Assumes nothing.
use Prim.Native.Nat.{ℕ, ◌*◌, ◌≤◌, ◌<◌}
use Rattle.std.specs.Prelude.{Result, Ok, Err}
use mathlib.Core.Path.{◌≡◌, refl, sym, ap, ◌∙◌, subst}
use mathlib.Core.Bool.{Bool, true, false, cond}
use mathlib.Core.List.{List}
use native.Mathlib.Omega.{arith}
use lib.Dec.{eqb}
use lib.Ieee.{Float, nan}
use lib.ListN.{length, length-set, get_or, take, drop}
use Rattle.number.specs.Constants.{decimal}
use Rattle.clock.specs.Steps.{clock_time}
use Rattle.clock.specs.declared.hand.Clock.{Clock}
use Rattle.listing.specs.Listing.{Line}
use Rattle.model.specs.Loops.{through}
use Rattle.model.specs.Patterns.{period}
use Rattle.model.specs.declared.project.Project.{Project}
use Rattle.model.specs.declared.state.State.{State}
use Rattle.model.proofs.Pointwise.{kept_length}
use Rattle.judge.specs.Judgement.{in_order}
use Rattle.tables.specs.Fit.{TablesFit}
use Rattle.run_state.specs.Lists.{lists_of}
use Rattle.run_state.specs.declared.Links.{Links}
use Rattle.run_state.specs.declared.Lists.{Lists}
use Rattle.run_controls.specs.Apply.{links_after}
use Rattle.run_loads.specs.Faults.{load_fault_number}
use Rattle.run_loads.specs.declared.fault.LoadFault.{LoadFault}
use Rattle.pattern_view.specs.View.{multiplier_in_force}
use Rattle.run_periods.specs.Applying.{Written, Inputs, inputs_of, written_in, filled, emptied, patterns_applied}
use Rattle.run_patterns.specs.Filling.{multiplier_put, multipliers_filled}
use Rattle.state.specs.Controls.{apply_controls}
use Rattle.state.specs.Patterns.{apply_patterns}
use Rattle.state.proofs.InForce.{InForce, in_force_after, controls_force}
use Rattle.state.proofs.Controlled.{controls_keep_clock}
use Rattle.state.proofs.Patterned.{period_of, patterned_clock}
use Rattle.solver.specs.Closing.{update_tank_links}
use Rattle.simulation.specs.Steps.{next_hydraulic_timestep}
use Rattle.calls_sound.proofs.Step.{step_in_order}
use Rattle.driver_load.specs.Left.{LoadedAs, values_by}
use Rattle.driver_load.proofs.Inner.{fit}
use Rattle.driver_tables.specs.Laid.{Laid}
use Rattle.driver_tables.specs.declared.Tables.{Tables}
use Rattle.driver_turn.specs.Turns.{prepared, step_turn, input_turn, turn}
use Rattle.driver_turn.proofs.Inner.{step_state_inner, prepared_inner, prepared_in_order}
use Rattle.driver_turn.proofs.Cases.{turn_goes, closed_in_order, step_turn_is}
use Rattle.driver_turn.proofs.Shape.{Alike, alike, patterns_alike, controls_alike, closing_alike, step_alike}
use Rattle.driver_turn.specs.Steps.{closed, length_by, stepped}
use Rattle.driver_turn.proofs.Arrays.{Went, patterned_lists, controlled_lists, went, went_force}
use Rattle.driver_turn.proofs.Loads.{Looked, looked}

-- the table of multipliers stays as long as it was
filled_long : (t : Inputs) (time : ℕ) (w : Written) → length (filled t time w).table ≡ length w.table
unfolding filled multipliers_filled
filled_long t time w =
    let put : ℕ → List Float → List Float = multiplier_put t.lengths t.multipliers t.start t.timestep time in
    length-set (through 32 put w.table) 32 (decimal 1 0) ∙ kept_length nan 32 put (λ k xs. length-set xs k (multiplier_in_force (take (get_or t.lengths k 0) (drop (k * 168) t.multipliers)) t.start t.timestep time)) w.table

pub table_kept : (t : Inputs) (tanks : List ℕ) (n in-force time : ℕ) (w : Written) → length (patterns_applied t tanks n in-force time w).table ≡ length w.table
unfolding patterns_applied
table_kept t tanks n in-force time w = by (eqb (period t.start t.timestep time) in-force)
  where
    by : (b : Bool) → length (cond b (emptied tanks n w) (filled t time w)).table ≡ length w.table
    by true = refl
    by false = filled_long t time w

-- a state as a turn meets it, held by the arrays
pub record Meets (p : Project) (s : State) (a : Lists) (in-force : ℕ) : Type 0 where
  pub held : a ≡ lists_of s
  pub ordered : in_order p s ≡ true
  pub nodes : length s.nodes ≡ 256
  pub links : length s.links ≡ 384
  pub force : period_of p s ≡ in-force → InForce p (period_of p s) s

-- the turn that was made, and the state that the arrays hold after it
pub record MadeBy (p : Project) (s : State) (bytes : List ℕ) (a : Lists) (in-force : ℕ) (taken : ℕ) (line : Line) (last : Bool) : Type 0 where
  pub next : State
  pub turned : turn p s bytes ≡ record { state = next; taken = taken; line = line; last = last }
  pub met : Meets p next a in-force

module _ {p : Project} {t : Tables} (laid : Laid p t) {multipliers : List Float} (same : multipliers ≡ p.multipliers) (whole : length multipliers ≡ 5376)
    (s : State) (a : Lists) (table : List Float) (long : length table ≡ 33) (in-force : ℕ) (m : Meets p s a in-force) (before : s.clock.instant < p.options.duration)
    {b : Lists} {table' : List Float} {l : Links}
    (patterns : patterns_applied (inputs_of t.patterns multipliers) t.tanks.at.nodes t.tanks.at.count in-force a.clock.instant (written_in table a) ≡ written_in table' b)
    (stay : b.links ≡ a.links) (still : b.clock ≡ a.clock)
    (controls : l ≡ links_after t.controls.words t.controls.numbers t.controls.count b.heads a.clock.instant (clock_time t.times.start_clock a.clock.instant) b.links) (bytes : List ℕ) where
  fits : TablesFit p
  fits = fit p s m.ordered

  abbrev ready : State
  ready = apply_controls p (apply_patterns p s)

  -- the lists after patterns and controls
  abbrev handed : Lists
  handed = record { heads = b.heads; demands = b.demands; demand_flows = b.demand_flows; links = l; clock = b.clock }

  room : p.counts.nodes ≤ length s.nodes
  room = omega (arith, fits.few.nodes, m.nodes)

  ready_held : handed ≡ lists_of ready
  ready_held = controlled_lists laid fits s a b table' m.held (patterned_lists laid fits same whole s a b table table' in-force m.held long room m.force patterns) stay still controls

  ready_is : prepared p s ≡ ready
  ready_is = prepared_inner p s m.ordered

  ready_ordered : in_order p ready ≡ true
  ready_ordered = subst (λ (x : State). in_order p x ≡ true) ready_is (prepared_in_order p s m.ordered)

  ready_alike : Alike ready s
  ready_alike = alike (controls_alike p (apply_patterns p s)) (patterns_alike p s)

  ready_clock : ready.clock ≡ s.clock
  ready_clock = controls_keep_clock p (apply_patterns p s) ∙ patterned_clock p s

  ready_force : InForce p (period_of p s) ready
  ready_force = controls_force (apply_patterns p s) (in_force_after p s room)

  goes : turn p s bytes ≡ input_turn p ready bytes
  goes = turn_goes p s bytes before (sym ready_is)

  module _ {d : Lists} {r : Result ℕ LoadFault} (loaded : LoadedAs bytes (values_by t.load) t.load t.tanks.at handed d r) where
    k : Looked p ready bytes r d
    k = looked laid fits ready ready_ordered bytes handed ready_held (ready_alike.nodes ∙ m.nodes) loaded

    next_force : InForce p (period_of p s) k.next
    next_force = k.force (period_of p s) ready_force

    -- the run ends at a fault
    pub made_refused : (f : LoadFault) → r ≡ Err f → {period : ℕ} → period ≡ period_of p s → MadeBy p s bytes d period 0 (Line.refused (load_fault_number f)) true
    made_refused f z {period} e = record {
      next = k.next;
      turned = goes ∙ k.ends f z;
      met = record {
        held = k.held;
        ordered = k.ordered;
        nodes = k.alike.nodes ∙ ready_alike.nodes ∙ m.nodes;
        links = k.alike.links ∙ ready_alike.links ∙ m.links;
        force = λ q. subst (λ (x : ℕ). InForce p x k.next) (sym (q ∙ e)) next_force;
      };
    }

    module _ (taken : ℕ) (z : r ≡ Ok taken) {seconds : ℕ} (lasts : seconds ≡ length_by t (closed t d)) where
      abbrev u : State
      u = update_tank_links p k.next

      abbrev after : State
      after = (next_hydraulic_timestep p u).state

      links_long : length k.next.links ≡ 384
      links_long = k.alike.links ∙ ready_alike.links ∙ m.links

      clock_is : k.next.clock ≡ s.clock
      clock_is = k.clock ∙ ready_clock

      early : k.next.clock.instant < p.options.duration
      early = omega (arith, before, ap (λ (c : Clock). c.instant) clock_is)

      done : Went laid fits k.next d seconds
      done = went laid fits k.next d k.held links_long early lasts

      instant_is : d.clock ≡ a.clock
      instant_is = ap (λ (x : Lists). x.clock) k.held ∙ clock_is ∙ sym (ap (λ (x : Lists). x.clock) m.held)

      step_is : step_turn p k.next taken ≡ record { state = after; taken = taken; line = Line.step a.clock.instant seconds; last = false }
      step_is =
          step_turn_is p k.next taken k.ordered refl {t = next_hydraulic_timestep p u} refl
          ∙ ap (λ (c : Clock). record { state = after; taken = taken; line = Line.step c.instant (next_hydraulic_timestep p u).length; last = false }) (done.clock ∙ instant_is)
          ∙ ap (λ (n : ℕ). record { state = after; taken = taken; line = Line.step a.clock.instant n; last = false }) done.length

      after_alike : Alike after s
      after_alike = alike (step_alike p u) (alike (closing_alike p k.next) (alike k.alike ready_alike))

      pub made_step : {period : ℕ} → period ≡ period_of p s → MadeBy p s bytes (stepped t seconds d) period taken (Line.step a.clock.instant seconds) false
      made_step {period} e = record {
        next = after;
        turned = goes ∙ k.goes taken z ∙ step_is;
        met = record {
          held = done.held;
          ordered = subst (λ (x : State). in_order p x ≡ true) (step_state_inner p u closed_ordered) (step_in_order p u closed_ordered);
          nodes = after_alike.nodes ∙ m.nodes;
          links = after_alike.links ∙ m.links;
          force = λ q. subst (λ (x : ℕ). InForce p x after) (sym (q ∙ e)) (went_force laid fits k.next d k.held links_long early lasts next_force);
        };
      }
        where
          closed_ordered : in_order p u ≡ true
          closed_ordered = closed_in_order p k.next k.ordered refl
