-- A walk and a list of stops short enough to follow by hand, and what becomes of the list without each of its conditions, by computing. Assumes
-- nothing.
use mathlib.Core.Path.{◌≡◌, refl}
use mathlib.Core.Bool.{true, false}
use mathlib.Core.List.{List, [], ◌∷◌, map}
use Rattle.number.specs.Constants.{MAX}
use Rattle.clock.specs.Steps.{clock_candidate, smallest_positive, calculate_time_step, step_length}
use Rattle.clock.specs.Triggers.{Trigger, at_time, at_clock, Moment, candidate, control_time, length_at}
use Rattle.clock.specs.declared.length.Times.{Times}
use Rattle.stops.specs.Stops.{called_at, stops_at, stops, stops_above}
use Rattle.stops.specs.Walk.{stops_after, walked, walk}

-- five seconds before midnight; a control at second 9, and one at 12 seconds past midnight, which is second 17
abbrev trial : Times
trial = record { duration = 19; hydraulic = 4; report = 10; pattern = 6; start_clock = 86395; fast = false }

abbrev controls : List (Trigger (Unit {0}))
controls = at_time 9 ∷ at_clock 12 ∷ []

-- from each stop to the next: hydraulic timestep, pattern, time control, report, pattern, hydraulic timestep, clock control, pattern, duration, none
pub six_causes : map (walk trial controls) (0 ∷ 4 ∷ 6 ∷ 9 ∷ 10 ∷ 12 ∷ 16 ∷ 17 ∷ 18 ∷ 19 ∷ []) ≡ (4 ∷ 2 ∷ 3 ∷ 1 ∷ 2 ∷ 4 ∷ 1 ∷ 1 ∷ 1 ∷ 0 ∷ [])
unfolding walk walked stops_after stops_at called_at
six_causes = refl

-- the same without a hydraulic timestep that is shorter than both others: pattern, time control, report, pattern, clock control, pattern, duration; from
-- the start, from an instant between two of them, and at the end
abbrev longer : Times
longer = record { duration = 19; hydraulic = 6; report = 10; pattern = 6; start_clock = 86395; fast = false }

pub five_causes : map (stops_above longer controls) (0 ∷ 11 ∷ 19 ∷ []) ≡ ((6 ∷ 9 ∷ 10 ∷ 12 ∷ 17 ∷ 18 ∷ 19 ∷ []) ∷ (12 ∷ 17 ∷ 18 ∷ 19 ∷ []) ∷ [] ∷ [])
unfolding stops_above stops stops_at called_at
five_causes = refl

-- "Instants set by two causes count once": 12 is a multiple of the pattern timestep and a time control's instant
pub once : stops_above longer (at_time 12 ∷ controls) 0 ≡ stops_above longer controls 0
unfolding stops_above stops stops_at called_at
once = refl

-- ---- each condition of R-14 is needed: a step from the start that ends at no stop, or passes one
abbrev none : List (Trigger (Unit {0}))
none = []

abbrev still : Moment (Unit {0})
still = record { tank = MAX; level = λ l. MAX }

-- a hydraulic timestep below both ends a step at 4
pub hydraulic_needed : (length_at trial none still 0 ≡ 4) × (stops_at trial none 4 ≡ false)
unfolding length_at control_time step_length calculate_time_step smallest_positive stops_at called_at
hydraulic_needed = (refl, refl)

-- with a day and a second in both, a clock control that is due at the start is passed a day later
abbrev over_day : Times
over_day = record { duration = 100000; hydraulic = 86401; report = 86401; pattern = 86401; start_clock = 12; fast = false }

pub day_needed : (length_at over_day (at_clock 12 ∷ none) still 0 ≡ 86401) × (stops_at over_day (at_clock 12 ∷ none) 86400 ≡ true)
unfolding length_at control_time candidate clock_candidate step_length calculate_time_step smallest_positive stops_at called_at
day_needed = (refl, refl)

-- a tank that is full after 3 s ends a step there
pub no_tank_needed : (length_at longer none (record { tank = 3; level = λ l. MAX }) 0 ≡ 3) × (stops_at longer none 3 ≡ false)
unfolding length_at control_time step_length calculate_time_step smallest_positive stops_at called_at
no_tank_needed = (refl, refl)

-- on the fast path a step is the report timestep, and passes the pattern's
abbrev fast_one : Times
fast_one = record { duration = 19; hydraulic = 6; report = 10; pattern = 6; start_clock = 86395; fast = true }

pub slow_needed : (length_at fast_one none still 0 ≡ 10) × (stops_at fast_one none 6 ≡ true)
unfolding length_at control_time step_length calculate_time_step smallest_positive stops_at called_at
slow_needed = (refl, refl)
