-- Document 02, R-7, of projects: what a field of 0 is now, and that every other project and every image rewritten for it steps as before. Assumes nothing.
use Prim.Native.Nat.{ℕ, ◌/◌, ◌<◌}
use mathlib.Core.Path.{◌≡◌, sym, ap, ◌∙◌}
use mathlib.Core.Bool.{true}
use native.Mathlib.Omega.{arith}
use borrow.Author.Tests.{eq-eqb, ne_eqb}
use Rattle.clock.specs.Triggers.{length_at}
use Rattle.clock.specs.Demand3.{whole}
use Rattle.clock.specs.declared.length.Times.{Times}
use Rattle.clock.proofs.Tests.{lt_cases}
use Rattle.clock.proofs.Lengths.{length_fast}
use Rattle.clock.proofs.Unbounded.{with_hydraulic, length_unbounded}
use Rattle.model.specs.declared.project.Project.{Project}
use Rattle.model.specs.declared.state.State.{State}
use Rattle.tables.specs.Fit.{TablesFit}
use Rattle.state.specs.Tanks.{update_tanks}
use Rattle.simulation.specs.Steps.{no_tanks, on_fast_path, hydraulic_in_force, times_of, triggers_of, tank_time, moment_of, length_of, moved_by, next_hydraulic_timestep}
use Rattle.simulation.specs.declared.step.Stepped.{Stepped}

-- ---- before the request
-- a step read the field itself, 0 for none
abbrev pub times_before : Project → Times
times_before p = with_hydraulic (times_of p) p.options.hydraulic

abbrev pub length_before : Project → State → ℕ
length_before p s = length_at (times_before p) (triggers_of p) (moment_of p s) s.clock.instant

abbrev pub step_before : Project → State → Stepped
step_before p s = record { length = length_before p s; state = moved_by p s (length_before p s) }

-- the project as it was before it was rewritten: 0 in the field
abbrev pub with_zero : Project → Project
with_zero p =
    let o = p.options in
    record {
      options = record {
        duration = o.duration;
        hydraulic = 0;
        report = o.report;
        pattern = o.pattern;
        pattern_start = o.pattern_start;
        start_clock = o.start_clock;
        skip = o.skip;
        pda = o.pda;
        default_pattern = o.default_pattern;
        demand_multiplier = o.demand_multiplier;
      };
      counts = p.counts;
      lengths = p.lengths;
      multipliers = p.multipliers;
      nodes = p.nodes;
      links = p.links;
      controls = p.controls;
      premises = p.premises;
    }

-- ---- from now on
module _ (p : Project) where
  abbrev field : ℕ
  field = p.options.hydraulic

  -- "From now on 0 is read as 3,600"
  pub zero_is_an_hour : field ≡ 0 → (times_of p).hydraulic ≡ 3600
  unfolding times_of hydraulic_in_force
  zero_is_an_hour e = rw (eq-eqb field 0 e)

  -- "The bound on steps counts whole hours where the field is 0"
  pub whole_hours : field ≡ 0 → whole (times_of p).duration (times_of p).hydraulic ≡ p.options.duration / 3600
  unfolding whole times_of
  whole_hours e = rw (zero_is_an_hour e)

  times_set : 0 < field → times_of p ≡ times_before p
  unfolding times_of hydraulic_in_force
  times_set h = rw (ne_eqb field 0 (λ e. omega (arith, h, e)))

  -- no project has the 0 that is none to the clock
  pub in_force_positive : 0 < (times_of p).hydraulic
  in_force_positive = lt_cases 0 field (λ h. rw (times_set h) h) (λ l. rw (zero_is_an_hour (omega (arith, l))) (omega arith))

  module _ (s : State) where
    of_length : (n : ℕ) → length_of p s ≡ n → next_hydraulic_timestep p s ≡ record { length = n; state = moved_by p s n }
    unfolding next_hydraulic_timestep
    of_length n e = rw e

    -- every project whose field is not 0 steps as before
    pub set_steps_as_before : 0 < field → next_hydraulic_timestep p s ≡ step_before p s
    unfolding length_of
    set_steps_as_before h = of_length (length_before p s) (ap (λ o. length_at o (triggers_of p) (moment_of p s) s.clock.instant) (times_set h))

    -- and so does every one on the fast path, whatever its field
    pub fast_steps_as_before : on_fast_path p ≡ true → next_hydraulic_timestep p s ≡ step_before p s
    unfolding times_of length_of
    fast_steps_as_before f =
        of_length (length_before p s)
        (length_fast (times_of p) (triggers_of p) (moment_of p s) s.clock.instant f ∙ sym (length_fast (times_before p) (triggers_of p) (moment_of p s) s.clock.instant f))

    -- "Makers of images who relied on no bound write 315,360,000": every step of an accepted project is then what it was with the 0
    pub longest_steps_as_zero_before : TablesFit p → field ≡ 315360000 → next_hydraulic_timestep p s ≡ step_before (with_zero p) s
    unfolding no_tanks on_fast_path times_of triggers_of tank_time moment_of moved_by update_tanks
    longest_steps_as_zero_before fit e =
        set_steps_as_before (omega (arith, e))
        ∙ ap (λ n. record { length = n; state = moved_by p s n }) (length_unbounded (times_before p) (triggers_of p) (moment_of p s) s.clock.instant (omega (arith, fit.options.duration, e)))
