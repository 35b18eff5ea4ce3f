-- Document 01, module 3: `tank.rs`, each rounding in its place.
use Rattle.std.specs.Prelude.{ℕ, min, Bool, ◌&&◌, ◌||◌, cond, Float}
use Rattle.std.specs.Float.Ieee.{lt, eq}
use Rattle.number.specs.Constants.{decimal, PI, MAX}
use Rattle.number.specs.Operators.{◌·◌, ◌÷◌, ◌⊕◌, ◌⊖◌}
use Rattle.number.specs.Order.{abs, clamp}
use Rattle.number.specs.Seconds.{round_to_u64, u64_to_f64}
use Rattle.tank.specs.declared.units.Feet.{Feet}
use Rattle.tank.specs.declared.units.CubicFeet.{CubicFeet}
use Rattle.tank.specs.declared.units.CubicFeetPerSecond.{CubicFeetPerSecond}
use Rattle.tank.specs.declared.tank.Tank.{Tank}

-- "A volume is 0 below level 0, else level × PI × diameter × diameter / 4, in that order of operations."
unfoldable pub volume_at_level : Tank → Feet → CubicFeet
volume_at_level t level =
    let d = t.diameter.0 in
    record { 0 = cond (lt level.0 (decimal 0 0)) (decimal 0 0) (level.0 · PI · d · d ÷ decimal 4 0) }

-- "0 if the volume gap is under 0.5; if gap and flow are both positive or both negative, gap / flow rounded half away from zero, MAX at or above 2^64;
-- otherwise MAX"
unfoldable pub gap_time : CubicFeet → CubicFeetPerSecond → ℕ
gap_time gap flow =
    let v = gap.0 in
    let q = flow.0 in
    let zero = decimal 0 0 in
    cond (lt (abs v) (decimal 5 1)) 0
    (cond ((lt zero v && lt zero q) || (lt v zero && lt q zero)) (round_to_u64 (v ÷ q)) MAX)

-- "`time_to_reach_level`: greatest usize (MAX) if the target is outside least..greatest", else by the gap in volume
unfoldable pub time_to_reach_level : Tank → Feet → Feet → CubicFeetPerSecond → ℕ
time_to_reach_level t current target flow =
    cond (lt t.max_level.0 target.0 || lt target.0 t.min_level.0) MAX
    (gap_time (record { 0 = (volume_at_level t target).0 ⊖ (volume_at_level t current).0 }) flow)

-- "`time_to_fill_or_drain`: MAX at flow 0, else the smaller of the times to greatest and least."
unfoldable pub time_to_fill_or_drain : Tank → Feet → CubicFeetPerSecond → ℕ
time_to_fill_or_drain t current flow =
    cond (eq flow.0 (decimal 0 0)) MAX
    (min (time_to_reach_level t current t.max_level flow) (time_to_reach_level t current t.min_level flow))

-- "`new_head`: level + change / (PI × diameter × diameter / 4), held within least..greatest, plus elevation."
unfoldable pub new_head : Tank → CubicFeet → Feet → Feet
new_head t change head =
    let d = t.diameter.0 in
    let level = (head.0 ⊖ t.elevation.0) ⊕ change.0 ÷ (PI · d · d ÷ decimal 4 0) in
    record { 0 = t.elevation.0 ⊕ clamp level t.min_level.0 t.max_level.0 }

-- `update_tanks`, one tank: its demand over the seconds of a step is the change
unfoldable pub head_after : Tank → CubicFeetPerSecond → ℕ → Feet → Feet
head_after t demand seconds head = new_head t (record { 0 = demand.0 · u64_to_f64 seconds }) head
