-- Document 01, "The project image": what a control's payload says, and "Numbers by the place of the check": the first of 4, 5 and 6 that it breaks.
-- The tests of what it says are those of the tables (table_control/specs); those that only the words can break stand here.
use Rattle.std.specs.Prelude.{None, Option, Some}
use Rattle.std.specs.Prelude.{ℕ, ◌/◌, ◌%◌, Bool, ◌&&◌, ◌||◌, cond, Result, Ok, List, leb, ltb, eqb, Float}
use Rattle.model.specs.declared.control.Control.{Control}
use Rattle.model.specs.declared.control.ControlCondition.{ControlCondition}
use Rattle.model.specs.declared.control.ControlCondition.TheVariants as conditions
use Rattle.model.specs.declared.project.Counts.{Counts}
use Rattle.table_control.specs.Records.{control_ok, control_indices_ok}
use Rattle.image_entry.specs.Words.{word, number}
use Rattle.image_entry.specs.Entries.{passed}
use Rattle.image_entry.specs.declared.entry.Entry.{Entry}
use Rattle.image_entry.specs.declared.entry.Entry.TheVariants as entries
use Rattle.image_entry.specs.declared.entry.Fault.{Fault}
use Rattle.image_entry.specs.declared.entry.Fault.TheVariants as faults

-- 7 control: "condition 0 to 5 in `ControlCondition` order, node or seconds, target, link, flags (1 status, 2 setting), status, setting"
unfoldable pub condition_of : ℕ → ℕ → Float → ControlCondition
condition_of code n target =
    cond (eqb code 0) (conditions.HighPressure n target)
    (cond (eqb code 1) (conditions.LowPressure n target)
    (cond (eqb code 2) (conditions.HighLevel n target)
    (cond (eqb code 3) (conditions.LowLevel n target) (cond (eqb code 4) (conditions.Time n) (conditions.ClockTime n)))))

unfoldable pub status_action_of : Bool → ℕ → Option ℕ
status_action_of present status = cond present (Some status) None

unfoldable pub setting_action_of : Bool → Float → Option Float
setting_action_of present setting = cond present (Some setting) None

unfoldable pub control_of : List ℕ → Control
control_of p = record {
  condition = condition_of (word p 0) (word p 1) (number p 2);
  link = word p 4;
  status = status_action_of (eqb (word p 5 % 2) 1) (word p 6);
  setting = setting_action_of (eqb (word p 5 / 2 % 2) 1) (number p 7);
}

-- "Unused words are 0: an absent status or setting, a time control's target"
unfoldable pub control_words_ok : List ℕ → Bool
control_words_ok p =
    leb (word p 0) 5 && leb (word p 5) 3
    && (leb (word p 0) 3 || eqb (word p 2) 0 && eqb (word p 3) 0)
    && (eqb (word p 5 % 2) 1 || eqb (word p 6) 0)
    && (eqb (word p 5 / 2 % 2) 1 || eqb (word p 7) 0 && eqb (word p 8) 0)

unfoldable pub control_entry : List ℕ → Counts → Result Entry Fault
control_entry p c =
    passed (ltb c.controls 64) faults.Count
    (passed (control_words_ok p && control_ok (control_of p)) faults.Word
    (passed (control_indices_ok c.nodes c.links (control_of p)) faults.Index (Ok (entries.Control (control_of p)))))
