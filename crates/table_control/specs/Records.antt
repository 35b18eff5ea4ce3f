-- What a control of the tables (kind 7) has to satisfy: number 5, by the record alone, and number 6, by what is declared.
-- What cannot be written in the tables is judged by the words of an image (image_control/specs).
use Rattle.std.specs.Prelude.{Float, None, Option, Some}
use Rattle.std.specs.Prelude.{ℕ, Bool, true, ◌&&◌, ltb}
use Rattle.model.specs.declared.control.Control.{Control}
use Rattle.model.specs.declared.control.ControlCondition.{ControlCondition}
use Rattle.model.specs.declared.control.ControlCondition.TheVariants as conditions
use Rattle.table_ranges.specs.Ranges.{time_ok, clock_ok, feet_ok, number_ok, status_ok}

unfoldable pub condition_ok : ControlCondition → Bool
condition_ok (conditions.HighPressure n target) = feet_ok target
condition_ok (conditions.LowPressure n target) = feet_ok target
condition_ok (conditions.HighLevel n target) = feet_ok target
condition_ok (conditions.LowLevel n target) = feet_ok target
condition_ok (conditions.Time seconds) = time_ok seconds
condition_ok (conditions.ClockTime seconds) = clock_ok seconds

unfoldable pub status_action_ok : Option ℕ → Bool
status_action_ok None = true
status_action_ok (Some s) = status_ok s

unfoldable pub setting_action_ok : Option Float → Bool
setting_action_ok None = true
setting_action_ok (Some x) = number_ok x

unfoldable pub control_ok : Control → Bool
control_ok c = condition_ok c.condition && status_action_ok c.status && setting_action_ok c.setting

unfoldable pub condition_index_ok : ℕ → ControlCondition → Bool
condition_index_ok nodes (conditions.HighPressure n target) = ltb n nodes
condition_index_ok nodes (conditions.LowPressure n target) = ltb n nodes
condition_index_ok nodes (conditions.HighLevel n target) = ltb n nodes
condition_index_ok nodes (conditions.LowLevel n target) = ltb n nodes
condition_index_ok nodes (conditions.Time seconds) = true
condition_index_ok nodes (conditions.ClockTime seconds) = true

unfoldable pub control_indices_ok : ℕ → ℕ → Control → Bool
control_indices_ok nodes links c = condition_index_ok nodes c.condition && ltb c.link links
