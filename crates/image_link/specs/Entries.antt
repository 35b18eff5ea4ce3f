-- Document 01, "The project image": what a link's payload says, and "Numbers by the place of the check": the first of 4, 5 and 6 that it breaks.
-- The tests of what it says are those of the tables (table_link/specs); those that only the words can break stand here.
use Rattle.std.specs.Prelude.{ℕ, Bool, ◌&&◌, ◌||◌, cond, Result, Ok, List, leb, ltb, eqb, Float}
use Rattle.model.specs.declared.link.Link.{Link}
use Rattle.model.specs.declared.link.LinkType.{LinkType}
use Rattle.model.specs.declared.link.LinkType.TheVariants.{Pipe, Pump, Valve}
use Rattle.model.specs.declared.project.Counts.{Counts}
use Rattle.table_link.specs.Records.{link_ok, link_indices_ok}
use Rattle.image_entry.specs.Words.{word, number}
use Rattle.image_entry.specs.Entries.{passed}
use Rattle.image_entry.specs.declared.entry.Entry.{Entry}
use Rattle.image_entry.specs.declared.entry.Entry.TheVariants as entries
use Rattle.image_entry.specs.declared.entry.Fault.{Fault}
use Rattle.image_entry.specs.declared.entry.Fault.TheVariants as faults

-- 6 link: "start, end, sort (0 pipe, 1 pump, 2 valve), status, diameter or pump's initial flow, setting"
unfoldable pub link_type_of : ℕ → Float → Float → LinkType
link_type_of sort size setting = cond (eqb sort 0) (Pipe size) (cond (eqb sort 1) (Pump size setting) (Valve size setting))

unfoldable pub link_of : List ℕ → Link
link_of p =
    record { start = word p 0; end = word p 1; initial_status = word p 3; kind = link_type_of (word p 2) (number p 4) (number p 6) }

-- "A pipe's setting is +0.0."
unfoldable pub link_words_ok : List ℕ → Bool
link_words_ok p = leb (word p 2) 2 && (leb 1 (word p 2) || eqb (word p 6) 0 && eqb (word p 7) 0)

unfoldable pub link_entry : List ℕ → Counts → Result Entry Fault
link_entry p c =
    passed (ltb c.links 384) faults.Count
    (passed (link_words_ok p && link_ok (link_of p)) faults.Word
    (passed (link_indices_ok c.nodes (link_of p)) faults.Index (Ok (entries.Link (link_of p)))))
