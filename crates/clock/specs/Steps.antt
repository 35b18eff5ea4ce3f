-- Document 01, module 9: the arithmetic of `calculate_time_step` and `next_hydraulic_timestep`. All times are in seconds.
use Rattle.std.specs.Prelude.{ℕ, ◌+◌, ◌-◌, ◌%◌, ◌^◌, min, Bool, cond, not, ◌&&◌, List, [], ◌∷◌, ltb, eqb}
use Rattle.number.specs.Constants.{MAX}
use Rattle.clock.specs.declared.hand.Clock.{Clock}
use Rattle.clock.specs.declared.length.Times.{Times}

abbrev pub DAY : ℕ
DAY = 86400

-- "Clock time is (time + start_clocktime) modulo 86,400."
abbrev pub clock_time : ℕ → ℕ → ℕ
clock_time start_clock time = (time + start_clock) % DAY

-- a time control's candidate; it does not come again
unfoldable pub time_candidate : ℕ → ℕ → ℕ
time_candidate seconds time = cond (ltb seconds time) MAX (seconds - time)

-- a clock control's candidate at a clock time; one that is past comes tomorrow
unfoldable pub clock_candidate : ℕ → ℕ → ℕ
clock_candidate seconds clock = cond (ltb seconds clock) (seconds + DAY - clock) (seconds - clock)

-- "Candidates of 0 drop out": the smallest of those that are not 0, and MAX where there is none
abbrev pub smaller_positive : ℕ → ℕ → ℕ
smaller_positive x y = cond (eqb x 0) y (min x y)

unfoldable pub smallest_positive : List ℕ → ℕ
smallest_positive [] = MAX
smallest_positive (x ∷ xs) = smaller_positive x (smallest_positive xs)

-- to the next multiple of a timestep; a timestep of 0 gives 0, which drops out
abbrev pub to_next : ℕ → ℕ → ℕ
to_next timestep time = timestep - time % timestep

-- `calculate_time_step`. The tanks' candidate is the smallest over all tanks, zeros too: it drops out here, "for tanks only after the
-- smallest over all of them has been taken". The controls' is the smallest that is not 0. The hydraulic timestep is the one in force, 0 for none:
-- "Hydraulic timestep 0 sets no bound", which by document 02, R-7, no project has any more.
unfoldable pub calculate_time_step : Times → ℕ → ℕ → ℕ → ℕ
calculate_time_step o tanks controls time =
    cond o.fast o.report
    (smallest_positive (to_next o.report time ∷ to_next o.pattern time ∷ tanks ∷ controls ∷ o.hydraulic ∷ []))

-- `next_hydraulic_timestep`'s answer: "caps it at the remainder. At or past the duration it gives 0"
unfoldable pub step_length : Times → ℕ → ℕ → ℕ → ℕ
step_length o tanks controls time =
    cond (ltb time o.duration) (min (calculate_time_step o tanks controls time) (o.duration - time)) 0

-- The clock after a step: "one of 0 moves no clock". A step past what 32 bits hold does not move it either; no accepted project has one.
abbrev pub moves : Clock → ℕ → Bool
moves c length = not (eqb length 0) && ltb (c.instant + length) (2 ^ 32) && ltb (c.count + 1) (2 ^ 32)

unfoldable pub advanced : Clock → ℕ → Clock
advanced c length = cond (moves c length) (record { instant = c.instant + length; count = c.count + 1 }) c
