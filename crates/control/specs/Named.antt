-- Needs no belief: what a condition names, of whatever kind it is. The tables of a run are laid out by it.
use Rattle.std.specs.Prelude.{ℕ, Float}
use Rattle.number.specs.Constants.{decimal}
use Rattle.model.specs.declared.control.ControlCondition.{ControlCondition}
use Rattle.model.specs.declared.control.ControlCondition.TheVariants.{HighPressure, LowPressure, HighLevel, LowLevel, Time, ClockTime}

-- its target; 0 where it names none
abbrev pub condition_target : ControlCondition → Float
condition_target (HighPressure n x) = x
condition_target (LowPressure n x) = x
condition_target (HighLevel n x) = x
condition_target (LowLevel n x) = x
condition_target (Time s) = decimal 0 0
condition_target (ClockTime s) = decimal 0 0

-- its seconds; 0 where it names none
abbrev pub condition_seconds : ControlCondition → ℕ
condition_seconds (HighPressure n x) = 0
condition_seconds (LowPressure n x) = 0
condition_seconds (HighLevel n x) = 0
condition_seconds (LowLevel n x) = 0
condition_seconds (Time s) = s
condition_seconds (ClockTime s) = s
