-- A turn over the arrays of a run: what its passes leave in them is what the definitions make of the state that they hold. Assumes nothing.
use Prim.Native.Nat.{ℕ, ◌≤◌, ◌<◌}
use mathlib.Core.Path.{◌≡◌, refl, sym, ap, ◌∙◌, subst}
use mathlib.Core.List.{List, map}
use native.Mathlib.Omega.{arith}
use borrow.Author.Tests.{ne_eqb}
use lib.Ieee.{Float}
use lib.ListN.{length}
use Rattle.number.specs.Constants.{MAX}
use Rattle.clock.specs.Steps.{clock_time, step_length, advanced}
use Rattle.clock.specs.Triggers.{length_at}
use Rattle.clock.specs.declared.hand.Clock.{Clock}
use Rattle.clock.proofs.Lengths.{length_positive}
use Rattle.model.specs.declared.project.Project.{Project}
use Rattle.model.specs.declared.state.State.{State}
use Rattle.tables.specs.Fit.{TablesFit}
use Rattle.run_state.specs.Lists.{head_of, demand_of, demand_flow_of, heads_of, demands_of, links_of, links_listed, lists_of}
use Rattle.run_state.specs.declared.Links.{Links}
use Rattle.run_state.specs.declared.Lists.{Lists}
use Rattle.run_state.proofs.Apart.{lists_made}
use Rattle.run_controls.specs.Apply.{links_after}
use Rattle.run_candidates.specs.Next.{next_time, next_clock, next_level}
use Rattle.run_periods.specs.Applying.{Written, inputs_of, written_in, patterns_applied}
use Rattle.tank_links.proofs.Judging.{stands}
use Rattle.state.specs.Controls.{apply_controls}
use Rattle.state.specs.Patterns.{apply_patterns}
use Rattle.state.specs.Tanks.{update_tanks}
use Rattle.state.proofs.Controlled.{controls_keep_nodes, controls_keep_clock, apply_controls_is}
use Rattle.state.proofs.InForce.{InForce, apply_patterns_is, moving_force, nodes_force}
use Rattle.state.proofs.Moved.{move_tanks_is, moved_demands, moved_demand_flows, moved_links}
use Rattle.state.proofs.Patterned.{period_of, InputsLaid, Holds, patterned_links, patterned_clock}
use Rattle.solver.specs.Closing.{update_tank_links}
use Rattle.solver.proofs.ByTable.{lists_closed_is}
use Rattle.solver.proofs.InForce.{closing_force}
use Rattle.simulation.specs.Steps.{times_of, triggers_of, moment_of, length_of, moved_by, next_hydraulic_timestep}
use Rattle.simulation.proofs.Accepted.{accepted_times}
use Rattle.simulation.proofs.ControlTime.{control_time_held}
use Rattle.simulation.proofs.TankTime.{tank_time_held}
use Rattle.driver_tables.specs.Laid.{Laid}
use Rattle.driver_tables.specs.declared.Tables.{Tables}
use Rattle.driver_turn.specs.Steps.{closed, length_by, stepped}

-- the start of the clock is the options'
start_is : (p : Project) → (times_of p).start_clock ≡ p.options.start_clock
unfolding times_of
start_is p = refl

duration_is : (p : Project) → (times_of p).duration ≡ p.options.duration
unfolding times_of
duration_is p = refl

module _ {p : Project} {t : Tables} (laid : Laid p t) (fit : TablesFit p) where
  hour_is : (k : Clock) (s : State) → k ≡ s.clock → clock_time t.times.start_clock k.instant ≡ clock_time p.options.start_clock s.clock.instant
  hour_is k s e = rw (laid.times, start_is p, e)

  -- ---- patterns, then controls
  module _ {multipliers : List Float} (same : multipliers ≡ p.multipliers) (whole : length multipliers ≡ 5376) where
    inputs_laid : InputsLaid p (inputs_of t.patterns multipliers)
    inputs_laid = record {
      lengths = laid.patterns.lengths_laid;
      multipliers = same;
      long = ap (λ (ms : List Float). length ms) (sym same) ∙ whole;
      start = laid.patterns.start;
      timestep = laid.patterns.timestep;
      scale = laid.patterns.scale;
      pda = laid.patterns.pda;
      n = laid.patterns.count;
      demands = laid.patterns.demands;
      heads = laid.patterns.heads;
    }

    pub patterned_lists :
        (s : State) (a b : Lists) (table table' : List Float) (in-force : ℕ) → a ≡ lists_of s → length table ≡ 33 → p.counts.nodes ≤ length s.nodes
        → (period_of p s ≡ in-force → InForce p (period_of p s) s)
        → patterns_applied (inputs_of t.patterns multipliers) t.tanks.at.nodes t.tanks.at.count in-force a.clock.instant (written_in table a) ≡ written_in table' b
        → Holds (apply_patterns p s) (written_in table' b)
    patterned_lists s a b table table' in-force e long room force q =
        subst (λ (x : Written). Holds (apply_patterns p s) x) (ap (λ (k : Clock). patterns_applied (inputs_of t.patterns multipliers) t.tanks.at.nodes t.tanks.at.count in-force k.instant (written_in table a)) (sym (ap (λ (x : Lists). x.clock) e)) ∙ q)
        (apply_patterns_is s (written_in table a) inputs_laid laid.tanks
        (record { head = sym (ap (λ (x : Lists). x.heads) e); demand = sym (ap (λ (x : Lists). x.demands) e); demand_flow = sym (ap (λ (x : Lists). x.demand_flows) e) })
        long room in-force force)

  pub controlled_lists :
      (s : State) (a b : Lists) (table' : List Float) {l : Links} → a ≡ lists_of s → Holds (apply_patterns p s) (written_in table' b)
      → b.links ≡ a.links → b.clock ≡ a.clock
      → l ≡ links_after t.controls.words t.controls.numbers t.controls.count b.heads a.clock.instant (clock_time t.times.start_clock a.clock.instant) b.links
      → record { heads = b.heads; demands = b.demands; demand_flows = b.demand_flows; links = l; clock = b.clock } ≡ lists_of (apply_controls p (apply_patterns p s))
  controlled_lists s a b table' {l} e h stay same q =
      lists_made
      (sym h.head ∙ ap (map head_of) (sym nodes))
      (sym h.demand ∙ ap (map demand_of) (sym nodes))
      (sym h.demand_flow ∙ ap (map demand_flow_of) (sym nodes))
      (q ∙ rw (← h.head, hour_is a.clock u clock, clock, stay, links) (apply_controls_is p laid.controls u))
      (same ∙ clock ∙ sym (controls_keep_clock p u))
    where
      u : State
      u = apply_patterns p s

      nodes : (apply_controls p u).nodes ≡ u.nodes
      nodes = controls_keep_nodes p u

      clock : a.clock ≡ u.clock
      clock = ap (λ (x : Lists). x.clock) e ∙ sym (patterned_clock p s)

      links : a.links ≡ links_of u
      links = ap (λ (x : Lists). x.links) e ∙ ap links_listed (sym (patterned_links p s))

  -- ---- closing and the step
  pub record Went (s : State) (a : Lists) (seconds : ℕ) : Type 0 where
    pub length : (next_hydraulic_timestep p (update_tank_links p s)).length ≡ seconds
    pub clock : (update_tank_links p s).clock ≡ a.clock
    pub held : stepped t seconds a ≡ lists_of (next_hydraulic_timestep p (update_tank_links p s)).state

  module _ (s : State) (a : Lists) (e : a ≡ lists_of s) (long : length s.links ≡ 384) (before : s.clock.instant < p.options.duration)
      {seconds : ℕ} (lasts : seconds ≡ length_by t (closed t a)) where
    abbrev u : State
    u = update_tank_links p s

    all : closed t (lists_of s) ≡ lists_of u
    all = lists_closed_is fit laid.tanks (stands p t.groups.begins t.groups.middles t.groups.links laid.groups) s long

    closes : closed t a ≡ lists_of u
    closes = ap (closed t) e ∙ all

    heads_are : a.heads ≡ heads_of u
    heads_are = ap (λ (x : Lists). x.heads) closes

    demands_are : (closed t a).demands ≡ demands_of u
    demands_are = ap (λ (x : Lists). x.demands) closes

    clock_is : a.clock ≡ u.clock
    clock_is = ap (λ (x : Lists). x.clock) closes

    length_is : length_of p u ≡ seconds
    unfolding length_of length_at moment_of
    length_is =
        sym (lasts ∙ rw laid.times
        (ap (λ (x : ℕ). step_length (times_of p) x
        (next_clock t.calls.clocks.seconds t.calls.clocks.count (clock_time (times_of p).start_clock a.clock.instant)
        (next_time t.calls.times.seconds t.calls.times.count a.clock.instant
        (next_level t.calls.levels.tanks t.calls.levels.targets t.calls.levels.count t.tanks.at.nodes t.tanks.numbers t.tanks.overflows a.heads (closed t a).demands MAX)))
        a.clock.instant) (tank_time_held p laid.tanks u heads_are demands_are refl)
        ∙ rw clock_is
        (ap (λ (x : ℕ). step_length (times_of p) (moment_of p u).tank x u.clock.instant)
        (control_time_held fit laid.tanks u laid.time_calls laid.clock_calls laid.levels heads_are demands_are (rw (start_is p)) refl refl refl))))

    positive : 0 < seconds
    unfolding length_of
    positive =
        let m = length_positive (times_of p) (triggers_of p) (moment_of p u) u.clock.instant (accepted_times p fit) (omega (arith, before, duration_is p, ap (λ (x : Lists). x.clock.instant) e, ap (λ (k : Clock). k.instant) clock_is)) in
        omega (arith, m, length_is)

    pub went : Went s a seconds
    unfolding next_hydraulic_timestep moved_by
    went = record {
      length = length_is;
      clock = sym clock_is;
      held = rw (length_is, ne_eqb seconds 0 (λ z. omega (arith, positive, z)))
          (lists_made
          (rw (demands_are, heads_are) (move_tanks_is p laid.tanks u seconds))
          (demands_are ∙ sym (moved_demands p u seconds))
          (ap (λ (x : Lists). x.demand_flows) closes ∙ sym (moved_demand_flows p u seconds))
          (ap (λ (x : Lists). x.links) closes ∙ ap links_listed (sym (moved_links p u seconds)))
          (ap (λ (k : Clock). advanced k seconds) clock_is));
    }

    -- what the patterns of a period set stays so
    pub went_force : {period : ℕ} → InForce p period s → InForce p period (next_hydraulic_timestep p u).state
    unfolding next_hydraulic_timestep moved_by
    went_force {period} q = rw (length_is, ne_eqb seconds 0 (λ z. omega (arith, positive, z))) (nodes_force (update_tanks p u seconds) _ refl (moving_force u seconds (closing_force s q)))
