-- The controls' candidates by kind: `control_time`. Assumes nothing.
use Prim.Native.Nat.{ℕ, ◌<◌}
use mathlib.Core.Path.{◌≡◌, refl, sym, ap, ◌∙◌}
use mathlib.Core.Bool.{false, true≢false}
use mathlib.Core.List.{List, map}
use lib.Ieee.{Float, nan}
use lib.ListN.{get_or, get_or-map}
use Rattle.number.specs.Constants.{MAX}
use Rattle.number.specs.Operators.{◌⊖◌}
use Rattle.clock.specs.Steps.{clock_time, time_candidate, clock_candidate}
use Rattle.clock.specs.Triggers.{control_time}
use Rattle.control.specs.Controls.{level_time}
use Rattle.model.specs.Blank.{node_at, node_state_at, control_at, blank_node_state}
use Rattle.model.specs.Nodes.{is_tank_type}
use Rattle.model.specs.declared.control.ControlCondition.{ControlCondition}
use Rattle.model.specs.declared.control.ControlCondition.TheVariants.{HighPressure, LowPressure, HighLevel, LowLevel, Time, ClockTime}
use Rattle.model.specs.declared.node.NodeType.{NodeType}
use Rattle.model.specs.declared.node.NodeType.TheVariants.{Reservoir, Tank, Junction}
use Rattle.model.specs.declared.project.Project.{Project}
use Rattle.model.specs.declared.state.NodeState.{NodeState}
use Rattle.model.specs.declared.state.State.{State}
use Rattle.tables.specs.Fit.{ConditionFit, TablesFit}
use Rattle.tank.specs.Tanks.{time_to_reach_level}
use Rattle.tank.specs.declared.tank.Tank as tanks
use Rattle.run_state.specs.Lists.{head_of, demand_of, heads_of, demands_of}
use Rattle.run_tables.specs.Held.{TanksLaid}
use Rattle.run_tables.specs.Rows.{tank_at}
use Rattle.run_kinds.specs.Calls.{times_in, clocks_in, Laid}
use Rattle.run_kinds.specs.Levels.{stands_at, levels_of, no_level, LevelsLaid}
use Rattle.run_candidates.specs.Next.{next_time, next_clock, next_level, wait_for}
use Rattle.run_kinds.specs.Triggers.{triggers_in}
use Rattle.run_candidates.proofs.ByKind.{smallest_from, Unreached, by_kind_lem, loop_is, laid_is}
use Rattle.run_kinds.proofs.Standing.{none_stands}
use Rattle.simulation.specs.Steps.{Level, trigger_of, trigger_at, times_of, triggers_of, moment_of}
use Rattle.simulation.proofs.Accepted.{each_listed}

-- a level control's time on the arrays is its time on the state
wait_is : (t : tanks.Tank) (k : NodeType) (x : NodeState) (target head demand : Float) → k ≡ Tank t → head ≡ x.head → demand ≡ x.demand
    → time_to_reach_level t (record { 0 = head ⊖ t.elevation.0 }) (record { 0 = target }) (record { 0 = demand }) ≡ level_time k x target
wait_is t k x target head demand e h d = rw (e, h, d)

never_there : (k : NodeType) (x : NodeState) (target : Float) → is_tank_type k ≡ false → level_time k x target ≡ MAX
never_there (Reservoir r) x target e = refl
never_there (Tank t) x target e = absurd (true≢false e)
never_there (Junction j) x target e = refl

module _ {p : Project} (fit : TablesFit p) {nodes : List ℕ} {numbers : List Float} {overflows : List ℕ} {m : ℕ}
    (laid : TanksLaid p.nodes p.counts.nodes nodes numbers overflows m) (s : State) where
  -- a level of no tank
  unreached : (c : ControlCondition) → ConditionFit p.counts.nodes c
      → Unreached (λ (l : Level). stands_at nodes m l.tank) (λ l. level_time (node_at p l.tank).kind (node_state_at s l.tank) l.target) (trigger_of c)
  unreached (HighPressure i x) h = tt
  unreached (LowPressure i x) h = tt
  unreached (HighLevel i x) h = λ e. never_there (node_at p i).kind (node_state_at s i) x (none_stands laid i h.0 e)
  unreached (LowLevel i x) h = λ e. never_there (node_at p i).kind (node_state_at s i) x (none_stands laid i h.0 e)
  unreached (Time t) h = tt
  unreached (ClockTime t) h = tt

  -- the lists of the kinds, one after the other, give the controls' time
  pub control_time_is : {times clocks tanks : List ℕ} {targets : List Float} {t c l : ℕ}
      → Laid times t (times_in (triggers_in p.controls p.counts.controls)) → Laid clocks c (clocks_in (triggers_in p.controls p.counts.controls))
      → LevelsLaid p.controls p.counts.controls nodes m tanks targets l
      → let time = s.clock.instant in
      next_clock clocks c (clock_time p.options.start_clock time)
      (next_time times t time (next_level tanks targets l nodes numbers overflows (heads_of s) (demands_of s) MAX))
      ≡ control_time (times_of p) (triggers_of p) (moment_of p s) time
  unfolding next_clock next_time next_level moment_of times_of triggers_of
  control_time_is {times} {clocks} {tanks} {targets} {t} {c} {l} ht hc hl =
      laid_is (λ x. clock_candidate x clock_now) hc _
      ∙ ap (smallest_from (map (λ x. clock_candidate x clock_now) (clocks_in (triggers_of p))))
      (laid_is (λ x. time_candidate x time) ht _ ∙ ap (smallest_from (map (λ x. time_candidate x time) (times_in (triggers_of p)))) levels_are)
      ∙ by_kind_lem (times_of p) (moment_of p s) time (λ (v : Level). stands_at nodes m v.tank) (triggers_of p)
      (each_listed (Unreached (λ (v : Level). stands_at nodes m v.tank) (moment_of p s).level) (trigger_at p) p.counts.controls (λ i h. unreached (control_at p i).condition (fit.control i h).condition))
    where
      time : ℕ
      time = s.clock.instant

      clock_now : ℕ
      clock_now = clock_time p.options.start_clock s.clock.instant

      xs : List Level
      xs = levels_of p.controls p.counts.controls nodes m

      wait : ℕ → ℕ → Float → ℕ
      wait k j target = wait_for numbers overflows (heads_of s) (demands_of s) k j target

      each : (i : ℕ) → i < l → wait (get_or tanks i 0) (get_or nodes (get_or tanks i 0) 0) (get_or targets i nan) ≡ (moment_of p s).level (get_or xs i no_level)
      each i h =
          ap (λ (j : ℕ). wait k j (get_or targets i nan)) (hl.tank i h)
          ∙ ap (λ (x : Float). wait k v.tank x) (hl.target i h)
          ∙ wait_is (tank_at numbers overflows k) (node_at p v.tank).kind (node_state_at s v.tank) v.target _ _
          (sym (ap (λ (j : ℕ). (node_at p j).kind) (hl.tank i h)) ∙ laid.tank k (hl.low i h))
          (get_or-map head_of s.nodes v.tank blank_node_state) (get_or-map demand_of s.nodes v.tank blank_node_state)
        where
          k : ℕ
          k = get_or tanks i 0

          v : Level
          v = get_or xs i no_level

      levels_are : next_level tanks targets l nodes numbers overflows (heads_of s) (demands_of s) MAX ≡ smallest_from (map (moment_of p s).level xs) MAX
      levels_are = loop_is (moment_of p s).level (λ i. wait (get_or tanks i 0) (get_or nodes (get_or tanks i 0) 0) (get_or targets i nan)) xs no_level MAX l hl.many each

  -- the same of what a caller has of each
  pub control_time_held : {times clocks tanks : List ℕ} {targets heads demands : List Float} {t c l clock level timed r : ℕ}
      → Laid times t (times_in (triggers_in p.controls p.counts.controls)) → Laid clocks c (clocks_in (triggers_in p.controls p.counts.controls))
      → LevelsLaid p.controls p.counts.controls nodes m tanks targets l
      → heads ≡ heads_of s → demands ≡ demands_of s → clock ≡ clock_time p.options.start_clock s.clock.instant
      → level ≡ next_level tanks targets l nodes numbers overflows heads demands MAX → timed ≡ next_time times t s.clock.instant level
      → r ≡ next_clock clocks c clock timed
      → r ≡ control_time (times_of p) (triggers_of p) (moment_of p s) s.clock.instant
  control_time_held ht hc hl h d k a b e = rw (e, b, a, k, d, h) (control_time_is ht hc hl)
