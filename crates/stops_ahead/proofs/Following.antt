-- The next stop by what the controls wait for is the definition's: the smallest that they wait for is the controls' candidate of a step without tanks,
-- and where the stops are foreseen such a step ends at the next of them. Assumes nothing.
use Prim.Native.Nat.{ℕ, ◌+◌, ◌<◌}
use mathlib.Core.Path.{◌≡◌, refl, ◌∙◌}
use mathlib.Core.List.{List, [], ◌∷◌}
use Rattle.number.specs.Constants.{MAX}
use Rattle.clock.specs.Lawful.{Each}
use Rattle.clock.specs.Steps.{clock_time, smaller_positive}
use Rattle.clock.specs.Triggers.{Trigger, at_time, at_clock, at_level, untimed, Moment, candidate_of, candidate, control_time, length_at}
use Rattle.clock.specs.declared.length.Times.{Times}
use Rattle.model.specs.declared.control.Control.{Control}
use Rattle.model.proofs.Pointwise.{same_turns}
use Rattle.simulation.specs.Steps.{Level}
use Rattle.simulation.proofs.Smallest.{smallest_through}
use Rattle.stops.specs.Stops.{stops_above}
use Rattle.stops.specs.Tankless.{NoLevelTime, NoTankTime}
use Rattle.stops.proofs.Lists.{above_first}
use Rattle.awaited.specs.Awaited.{time_of, clock_of, trigger_in, triggers_in, notes}
use Rattle.awaited.proofs.Notes.{notes_at}
use Rattle.stops_ahead.specs.Ahead.{awaited_candidate, smaller_awaited, awaited_time, next_after, Timely}

-- ---- a moment without tanks
abbrev still : Moment Level
still = record { tank = MAX; level = λ l. MAX }

no_level_lem : (t : Trigger Level) → NoLevelTime still t
no_level_lem (at_time s) = tt
no_level_lem (at_clock s) = tt
no_level_lem (at_level l) = refl
no_level_lem untimed = tt

no_levels : (ts : List (Trigger Level)) → Each (NoLevelTime still) ts
no_levels [] = tt
no_levels (t ∷ ts) = (no_level_lem t, no_levels ts)

tankless : (ts : List (Trigger Level)) → NoTankTime ts still
tankless ts = record { tank = refl; level = no_levels ts }

-- ---- the controls
waited : (t : Trigger Level) (time clock : ℕ) → awaited_candidate (time_of t) (clock_of t) time clock ≡ candidate_of (λ l. MAX) time clock t
waited (at_time s) time clock = refl
waited (at_clock s) time clock = refl
waited (at_level l) time clock = refl
waited untimed time clock = refl

module _ {o : Times} {controls : List Control} {n : ℕ} (f : Timely o controls n) (time : ℕ) where
  abbrev clock : ℕ
  clock = clock_time o.start_clock time

  one_waited : (i smallest : ℕ) → i < n
      → smaller_awaited (notes time_of controls n) (notes clock_of controls n) time clock i smallest ≡ smaller_positive (candidate o still time (trigger_in controls i)) smallest
  unfolding candidate
  one_waited i smallest l =
      rw (notes_at time_of controls n i f.few l, notes_at clock_of controls n i f.few l, waited (trigger_in controls i) time clock)

  all_waited : awaited_time (notes time_of controls n) (notes clock_of controls n) n time clock ≡ control_time o (triggers_in controls n) still time
  unfolding awaited_time control_time
  all_waited =
      same_turns n _ (λ i smallest. smaller_positive (candidate o still time (trigger_in controls i)) smallest) MAX (λ i smallest l. one_waited i smallest l)
      ∙ smallest_through (candidate o still time) (trigger_in controls) n

  step_ends : next_after o (notes time_of controls n) (notes clock_of controls n) n time ≡ time + length_at o (triggers_in controls n) still time
  unfolding next_after length_at
  step_ends = rw all_waited

  -- the first of the stops above an instant, and those above it
  pub next_is : (next : ℕ) → next ≡ next_after o (notes time_of controls n) (notes clock_of controls n) n time → time < o.duration
      → stops_above o (triggers_in controls n) time ≡ next ∷ stops_above o (triggers_in controls n) next
  next_is next e l =
      rw (e, step_ends)
      (above_first o (triggers_in controls n) f.accepted f.frequent still (tankless (triggers_in controls n)) time (length_at o (triggers_in controls n) still time) refl l)
