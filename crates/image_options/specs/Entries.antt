-- Document 01, "The project image": what the options' payload says, and "Numbers by the place of the check": number 5, if it breaks it.
-- The tests of what it says are those of the tables (table_ranges/specs); those that only the words can break stand here.
use Rattle.std.specs.Prelude.{ℕ, ◌/◌, ◌%◌, ◌&&◌, Result, Ok, List, leb, eqb}
use Rattle.model.specs.declared.options.Options.{Options}
use Rattle.table_ranges.specs.Records.{options_ok}
use Rattle.image_entry.specs.Words.{word, number, pattern_index_of}
use Rattle.image_entry.specs.Entries.{passed}
use Rattle.image_entry.specs.declared.entry.Entry.{Entry}
use Rattle.image_entry.specs.declared.entry.Entry.TheVariants as entries
use Rattle.image_entry.specs.declared.entry.Fault.{Fault}
use Rattle.image_entry.specs.declared.entry.Fault.TheVariants as faults

-- 1 options: "duration, hydraulic, report, pattern timestep, pattern start, start clock, flags (1 skip, 2 PDA), default pattern, demand
-- multiplier". The default pattern is judged after the last record.
unfoldable pub options_of : List ℕ → Options
options_of p = record {
  duration = word p 0;
  hydraulic = word p 1;
  report = word p 2;
  pattern = word p 3;
  pattern_start = word p 4;
  start_clock = word p 5;
  skip = eqb (word p 6 % 2) 1;
  pda = eqb (word p 6 / 2 % 2) 1;
  default_pattern = pattern_index_of (word p 7);
  demand_multiplier = number p 8;
}

unfoldable pub options_entry : List ℕ → Result Entry Fault
options_entry p = passed (leb (word p 6) 3 && options_ok (options_of p)) faults.Word (Ok (entries.Options (options_of p)))
