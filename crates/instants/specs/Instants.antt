-- Document 01, "Instants, checked on both sides": the starred ones, as one list of answers of the definitions and what each has to be.
use Rattle.std.specs.Prelude.{ℕ, Bool, true, false, List, [], ◌∷◌, Float}
use Rattle.std.specs.Float.Ieee.{neg}
use Rattle.number.specs.Constants.{decimal, MAX}
use Rattle.number.specs.Compare.{compare_f64}
use Rattle.number.specs.declared.compare.ComparisonOperator.TheVariants.{Eq, Ne, Gt, Lt, Ge, Le}
use Rattle.clock.specs.Steps.{clock_time, smallest_positive}
use Rattle.tank.specs.Tanks.{time_to_reach_level, time_to_fill_or_drain, head_after}
use Rattle.tank.specs.declared.tank.Tank.{Tank}
use Rattle.tank.specs.declared.units.Feet.{Feet}
use Rattle.tank.specs.declared.units.CubicFeetPerSecond.{CubicFeetPerSecond}
use Rattle.model.specs.Blank.{blank_node, blank_node_state}
use Rattle.model.specs.Patterns.{period, multiplier_at}
use Rattle.model.specs.declared.control.ControlCondition.{ControlCondition}
use Rattle.model.specs.declared.control.ControlCondition.TheVariants.{Time, ClockTime}
use Rattle.control.specs.Controls.{candidate}

-- an answer: seconds, a number or a truth
pub data Answer : Type 0 where
  seconds : ℕ → Answer
  number : Float → Answer
  truth : Bool → Answer

pub record Instant : Type 0 where
  pub answer : Answer
  pub due : Answer

infix 70 ◌is◌
abbrev pub ◌is◌ : Answer → Answer → Instant
a is b = record { answer = a; due = b }

abbrev pub feet : ℕ → ℕ → Feet
feet n k = record { 0 = decimal n k }

abbrev pub inflow : ℕ → CubicFeetPerSecond
inflow n = record { 0 = decimal n 0 }

abbrev pub outflow : ℕ → CubicFeetPerSecond
outflow n = record { 0 = neg (decimal n 0) }

-- "Tank T: elevation 100, least 0, greatest 12, diameter 20."
abbrev pub T : Tank
T = record {
  elevation = feet 100 0;
  initial_level = feet 10 0;
  min_level = feet 0 0;
  max_level = feet 12 0;
  diameter = feet 20 0;
  overflow = false;
}

-- a control's candidate at a time and a clock time; no node matters to it
abbrev pub due_at : ControlCondition → ℕ → ℕ → ℕ
due_at c time clock = candidate c blank_node blank_node_state time clock

unfoldable pub starred : List Instant
starred =
    -- "T at level 10, flow 1: 628 s. Flow 2: 314 s."
    seconds (time_to_fill_or_drain T (feet 10 0) (inflow 1)) is seconds 628
    ∷ seconds (time_to_fill_or_drain T (feet 10 0) (inflow 2)) is seconds 314
    -- "Level 12, flow -1: time to least 3,770, time to greatest 0, fill-or-drain 0."
    ∷ seconds (time_to_reach_level T (feet 12 0) (feet 0 0) (outflow 1)) is seconds 3770
    ∷ seconds (time_to_reach_level T (feet 12 0) (feet 12 0) (outflow 1)) is seconds 0
    ∷ seconds (time_to_fill_or_drain T (feet 12 0) (outflow 1)) is seconds 0
    -- "Level 11.999: gap below 0.5, so 0. Level 11.998, flow 1: 1; flow 2: 0."
    ∷ seconds (time_to_fill_or_drain T (feet 11999 3) (inflow 1)) is seconds 0
    ∷ seconds (time_to_fill_or_drain T (feet 11998 3) (inflow 1)) is seconds 1
    ∷ seconds (time_to_fill_or_drain T (feet 11998 3) (inflow 2)) is seconds 0
    -- "Head 110, demand 1, 3,600 s: head 112. Demand -1: head 100."
    ∷ number (head_after T (inflow 1) 3600 (feet 110 0)).0 is number (decimal 112 0)
    ∷ number (head_after T (outflow 1) 3600 (feet 110 0)).0 is number (decimal 100 0)
    -- "Clock control 1,800 at clock 1,800: 0, dropped; at 3,600: 84,600."
    ∷ seconds (due_at (ClockTime 1800) 1800 1800) is seconds 0
    ∷ seconds (smallest_positive (due_at (ClockTime 1800) 1800 1800 ∷ [])) is seconds MAX
    ∷ seconds (due_at (ClockTime 1800) 3600 3600) is seconds 84600
    -- "Time control 900 at 900: 0; at 901: MAX."
    ∷ seconds (due_at (Time 900) 900 900) is seconds 0
    ∷ seconds (due_at (Time 900) 901 901) is seconds MAX
    -- "Start clock 82,800, time 7,200: clock 3,600."
    ∷ seconds (clock_time 82800 7200) is seconds 3600
    -- "Gap 0.0005 against 0: Eq, Ge, Le true; Ne, Gt, Lt false."
    ∷ truth (compare_f64 Eq (decimal 5 4) (decimal 0 0)) is truth true
    ∷ truth (compare_f64 Ge (decimal 5 4) (decimal 0 0)) is truth true
    ∷ truth (compare_f64 Le (decimal 5 4) (decimal 0 0)) is truth true
    ∷ truth (compare_f64 Ne (decimal 5 4) (decimal 0 0)) is truth false
    ∷ truth (compare_f64 Gt (decimal 5 4) (decimal 0 0)) is truth false
    ∷ truth (compare_f64 Lt (decimal 5 4) (decimal 0 0)) is truth false
    -- "Pattern start and timestep 3,600, time 7,200, two multipliers: the second."
    ∷ number (multiplier_at (decimal 5 1 ∷ decimal 15 1 ∷ []) (period 3600 3600 7200)) is number (decimal 15 1)
    ∷ []
