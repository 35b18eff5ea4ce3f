-- The bound of demand 3 is as tight as it is said to be: for each of its terms a small works whose count reaches it, so that a bound without the term
-- would be false. The bare clock runs them, and they hold by computing. Assumes nothing.
use Prim.Native.Nat.{ℕ, zero, suc}
use mathlib.Core.Path.{◌≡◌, refl}
use mathlib.Core.Bool.{Bool, true, false}
use mathlib.Core.List.{List, [], ◌∷◌}
use Rattle.number.specs.Constants.{MAX}
use Rattle.clock.specs.declared.length.Times.{Times}
use Rattle.clock.specs.Steps.{time_candidate, clock_candidate, smallest_positive, calculate_time_step, step_length}
use Rattle.clock.specs.Triggers.{Trigger, at_time, at_clock, at_level, Moment, candidate, control_time, length_at}
use Rattle.clock.specs.Machine.{is_some_level_time, as_long, final, state_steps}
use Rattle.clock.specs.Demand3.{whole, whole_up, count_of, bound}
use Rattle.clock.proofs.Bare.{Call, step, machine, begin}

-- the options of a works, by duration, report, pattern and hydraulic timestep and whether it is on the fast path
abbrev pub works : ℕ → ℕ → ℕ → ℕ → Bool → Times
works duration report pattern hydraulic fast =
    record { duration = duration; hydraulic = hydraulic; report = report; pattern = pattern; start_clock = 0; fast = fast }

-- a moment whose tanks and whose level controls set these times
abbrev pub moment : ℕ → ℕ → Moment (Unit {0})
moment tanks levels = record { tank = tanks; level = λ l. levels }

abbrev pub still : Moment (Unit {0})
still = moment MAX MAX

unfoldable pub steps : ℕ → List Call
steps zero = []
steps (suc n) = step ∷ steps n

-- the count after n steps from the start
abbrev pub count_after : Times → List (Trigger (Unit {0})) → Moment (Unit {0}) → ℕ → ℕ
count_after o ts m n = (final (machine o ts m) (steps n) (begin o ts m)).count

-- after n steps the count is n, and so is the bound on it
abbrev pub Reached : Times → List (Trigger (Unit {0})) → Moment (Unit {0}) → ℕ → Type 0
Reached o ts m n = (count_after o ts m n ≡ n) × (bound o ts (state_steps (machine o ts m) ts (steps n) (begin o ts m)) ≡ n)

-- "the whole report, pattern .. timesteps in the duration .. plus one": stops at 2, 3, 4 and 5. "and hydraulic": at 2, 4 and 5. "plus one per time
-- control": at 5 and 10. "plus for each clock control one more than the whole days": at 5, 50,000, 86,405 and 90,000. "plus the steps as long as that
-- moment's tank or level-control time": at 3, 6, 9 and 10, by a tank and by a level control.
pub bound_reached :
    Reached (works 5 2 3 20 false) [] still 4
    × Reached (works 5 20 20 2 false) [] still 3
    × Reached (works 10 20 20 20 false) (at_time 5 ∷ []) still 2
    × Reached (works 90000 50000 100000 100000 false) (at_clock 5 ∷ []) still 4
    × Reached (works 10 20 20 20 false) [] (moment 3 MAX) 4
    × Reached (works 10 20 20 20 false) (at_level tt ∷ []) (moment MAX 3) 4
unfolding steps final state_steps as_long is_some_level_time length_at step_length calculate_time_step smallest_positive control_time candidate time_candidate clock_candidate bound whole count_of
bound_reached = ((refl, refl), (refl, refl), (refl, refl), (refl, refl), (refl, refl), (refl, refl))

-- "On the fast path it is the smaller of the steps asked and duration over report timestep, rounded up": stops at 2, 4 and 5
pub fast_rounds_up : (count_after (works 5 2 3 20 true) [] still 4 ≡ 3) × (whole_up 5 2 ≡ 3)
unfolding steps final length_at step_length calculate_time_step whole_up
fast_rounds_up = (refl, refl)
