-- Needs no belief: the next stop by what the controls wait for (awaited/specs), and what the times and controls have to be. `next-is` (proofs/Following.antt)
-- shows that it is the next of the definition's.
use Rattle.std.specs.Prelude.{ℕ, ◌+◌, ◌≤◌, cond, List, Ok, Err, Option, None, Some, eqb, get_or}
use Rattle.number.specs.Constants.{MAX}
use Rattle.clock.specs.Lawful.{Accepted}
use Rattle.clock.specs.Steps.{clock_time, time_candidate, clock_candidate, smaller_positive, step_length}
use Rattle.clock.specs.declared.length.Times.{Times}
use Rattle.model.specs.Loops.{through}
use Rattle.model.specs.declared.control.Control.{Control}
use Rattle.stops.specs.Tankless.{Frequent}
use Rattle.awaited.specs.Awaited.{triggers_in}
use Rattle.stops_ahead.specs.Foreseen.{StopAnswer, StopsAnswer}

-- the candidate of a control by the instant and the clock time that it waits for
abbrev pub awaited_candidate : Option ℕ → Option ℕ → ℕ → ℕ → ℕ
awaited_candidate (Some at) of_day time clock = time_candidate at time
awaited_candidate None (Some at) time clock = clock_candidate at clock
awaited_candidate None None time clock = MAX

abbrev pub smaller_awaited : List (Option ℕ) → List (Option ℕ) → ℕ → ℕ → ℕ → ℕ → ℕ
smaller_awaited times clocks time clock i smallest = smaller_positive (awaited_candidate (get_or times i None) (get_or clocks i None) time clock) smallest

-- the smallest over the first n controls
unfoldable pub awaited_time : List (Option ℕ) → List (Option ℕ) → ℕ → ℕ → ℕ → ℕ
awaited_time times clocks n time clock = through n (smaller_awaited times clocks time clock) MAX

-- the instant at which a step without tanks ends
unfoldable pub next_after : Times → List (Option ℕ) → List (Option ℕ) → ℕ → ℕ → ℕ
next_after o times clocks n time = time + step_length o MAX (awaited_time times clocks n time (clock_time o.start_clock time)) time

-- the first of the stops, of an answer for a list of one
abbrev pub first_in : StopsAnswer → ℕ → StopAnswer
first_in (Ok n) instant = Ok (cond (eqb n 0) None (Some instant))
first_in (Err e) instant = Err e

-- of the times and controls of tables that fit, where the stops are foreseen
pub record Timely (o : Times) (controls : List Control) (n : ℕ) : Type 0 where
  pub few : n ≤ 64
  pub duration : o.duration ≤ 315360000
  pub accepted : Accepted o (triggers_in controls n)
  pub frequent : Frequent o
