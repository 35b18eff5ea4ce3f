-- Controls as the clock sees them, and what a step takes from the state of its moment.
use Rattle.std.specs.Prelude.{ℕ, List, map}
use Rattle.number.specs.Constants.{MAX}
use Rattle.clock.specs.declared.length.Times.{Times}
use Rattle.clock.specs.Steps.{clock_time, time_candidate, clock_candidate, smallest_positive, step_length}

-- When a control calls for a stop. `L` names the level controls. "Pressure controls, and level controls whose node is no tank, give no
-- candidate": the former are `untimed`, the latter have MAX as their level's time.
pub data Trigger (L : Type 0) : Type 0 where
  at_time : ℕ → Trigger L
  at_clock : ℕ → Trigger L
  at_level : L → Trigger L
  untimed : Trigger L

-- "Tank time is the tanks' candidate, level-control time a level control's, on the state that demand 2's definition gives for the calls before."
pub record Moment (L : Type 0) : Type 0 where
  pub tank : ℕ
  pub level : L → ℕ

-- a control's candidate, from the time to each level, the time of the run and the clock time
abbrev pub candidate_of : {L : Type 0} → (L → ℕ) → ℕ → ℕ → Trigger L → ℕ
candidate_of level time clock (at_time s) = time_candidate s time
candidate_of level time clock (at_clock s) = clock_candidate s clock
candidate_of level time clock (at_level l) = level l
candidate_of level time clock untimed = MAX

module _ {L : Type 0} (o : Times) where
  -- the same at a moment of the run
  unfoldable pub candidate : Moment L → ℕ → Trigger L → ℕ
  candidate m time t = candidate_of m.level time (clock_time o.start_clock time) t

  -- "Candidates of 0 drop out: control by control"
  unfoldable pub control_time : List (Trigger L) → Moment L → ℕ → ℕ
  control_time ts m time = smallest_positive (map (candidate m time) ts)

  -- the length of a step asked at a moment
  unfoldable pub length_at : List (Trigger L) → Moment L → ℕ → ℕ
  length_at ts m time = step_length o m.tank (control_time ts m time) time
