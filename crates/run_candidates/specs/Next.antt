-- Needs no belief: the smallest candidate over each kind's list, as the code finds it. `control-time-is` shows that one after the other they
-- come to `control_time`.
use Rattle.std.specs.Prelude.{ℕ, List, Float, get_or}
use Rattle.std.specs.Float.{nan}
use Rattle.number.specs.Operators.{◌⊖◌}
use Rattle.clock.specs.Steps.{time_candidate, clock_candidate, smaller_positive}
use Rattle.model.specs.Loops.{through}
use Rattle.run_tables.specs.Rows.{tank_at}
use Rattle.tank.specs.Tanks.{time_to_reach_level}

-- a turn over the seconds of one kind
abbrev pub or_smaller : (ℕ → ℕ) → List ℕ → ℕ → ℕ → ℕ
or_smaller of seconds i smallest = smaller_positive (of (get_or seconds i 0)) smallest

-- times
abbrev pub time_turn : List ℕ → ℕ → ℕ → ℕ → ℕ
time_turn seconds time i smallest = smaller_positive (time_candidate (get_or seconds i 0) time) smallest

unfoldable pub next_time : List ℕ → ℕ → ℕ → ℕ → ℕ
next_time seconds n time from = through n (time_turn seconds time) from

-- clock times
abbrev pub clock_turn : List ℕ → ℕ → ℕ → ℕ → ℕ
clock_turn seconds clock i smallest = smaller_positive (clock_candidate (get_or seconds i 0) clock) smallest

unfoldable pub next_clock : List ℕ → ℕ → ℕ → ℕ → ℕ
next_clock seconds n clock from = through n (clock_turn seconds clock) from

-- levels: the time to a target of tank k, which stands at node j
abbrev pub wait_for : List Float → List ℕ → List Float → List Float → ℕ → ℕ → Float → ℕ
wait_for numbers overflows heads demands k j target =
    let t = tank_at numbers overflows k in
    time_to_reach_level t (record { 0 = get_or heads j nan ⊖ t.elevation.0 }) (record { 0 = target }) (record { 0 = get_or demands j nan })

abbrev pub level_turn : List ℕ → List Float → List ℕ → List Float → List ℕ → List Float → List Float → ℕ → ℕ → ℕ
level_turn tanks targets nodes numbers overflows heads demands i smallest =
    let k = get_or tanks i 0 in
    smaller_positive (wait_for numbers overflows heads demands k (get_or nodes k 0) (get_or targets i nan)) smallest

unfoldable pub next_level : List ℕ → List Float → ℕ → List ℕ → List Float → List ℕ → List Float → List Float → ℕ → ℕ
next_level tanks targets n nodes numbers overflows heads demands from =
    through n (level_turn tanks targets nodes numbers overflows heads demands) from
