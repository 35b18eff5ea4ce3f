-- Document 01, "The project image": what a pattern's payload says, and "Numbers by the place of the check": the first of 4 and 5 that it breaks.
-- The tests of what it says are those of the tables (table_ranges/specs); those that only the words can break stand here.
use Rattle.std.specs.Prelude.{ℕ, ◌*◌, ◌/◌, Bool, Result, Ok, List, ltb, length}
use Rattle.model.specs.Loops.{all_below}
use Rattle.model.specs.declared.project.Counts.{Counts}
use Rattle.table_ranges.specs.Ranges.{number_ok}
use Rattle.image_entry.specs.Words.{number}
use Rattle.image_entry.specs.Entries.{passed}
use Rattle.image_entry.specs.declared.entry.Entry.{Entry}
use Rattle.image_entry.specs.declared.entry.Entry.TheVariants as entries
use Rattle.image_entry.specs.declared.entry.Fault.{Fault}
use Rattle.image_entry.specs.declared.entry.Fault.TheVariants as faults

-- 2 pattern: "1 to 168 multipliers"
abbrev pub multiplier_ok : List ℕ → ℕ → Bool
multiplier_ok p i = number_ok (number p (2 * i))

unfoldable pub multipliers_ok : List ℕ → Bool
multipliers_ok p = all_below (length p / 2) (multiplier_ok p)

unfoldable pub pattern_entry : List ℕ → Counts → Result Entry Fault
pattern_entry p c = passed (ltb c.patterns 32) faults.Count (passed (multipliers_ok p) faults.Word (Ok entries.Pattern))
