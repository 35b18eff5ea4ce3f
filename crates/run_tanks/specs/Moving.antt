-- Needs no belief: `update_tanks` and the tanks' candidate by the table of the tanks as the code makes them, over lists of numbers. `move-tanks-is` shows
-- that the one comes to `update_tanks`, `tank-time-is` that the other comes to `tank_time`.
use Rattle.std.specs.Prelude.{ℕ, min, List, Float, get_or, set}
use Rattle.std.specs.Float.{nan}
use Rattle.number.specs.Constants.{MAX}
use Rattle.number.specs.Operators.{◌⊖◌}
use Rattle.model.specs.Loops.{through}
use Rattle.run_tables.specs.Rows.{tank_at}
use Rattle.tank.specs.Tanks.{head_after, time_to_fill_or_drain}

-- tank k's head after some seconds of its demand
abbrev pub tank_moved : List ℕ → List Float → List ℕ → List Float → ℕ → ℕ → List Float → List Float
tank_moved nodes numbers overflows demands seconds k heads =
    let j = get_or nodes k 0 in
    set heads j (head_after (tank_at numbers overflows k) (record { 0 = get_or demands j nan }) seconds (record { 0 = get_or heads j nan })).0

unfoldable pub heads_after : List ℕ → List Float → List ℕ → ℕ → List Float → ℕ → List Float → List Float
heads_after nodes numbers overflows n demands seconds heads = through n (tank_moved nodes numbers overflows demands seconds) heads

-- the smaller of tank k's candidate and the smallest so far
abbrev pub smaller_tank_of : List ℕ → List Float → List ℕ → List Float → List Float → ℕ → ℕ → ℕ
smaller_tank_of nodes numbers overflows heads demands k smallest =
    let j = get_or nodes k 0 in
    let t = tank_at numbers overflows k in
    min (time_to_fill_or_drain t (record { 0 = get_or heads j nan ⊖ t.elevation.0 }) (record { 0 = get_or demands j nan })) smallest

unfoldable pub tank_time_of : List ℕ → List Float → List ℕ → ℕ → List Float → List Float → ℕ
tank_time_of nodes numbers overflows n heads demands = through n (smaller_tank_of nodes numbers overflows heads demands) MAX
