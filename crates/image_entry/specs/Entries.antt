-- Document 01, "Numbers by the place of the check": how a record comes to its first fault, or to what it says.
use Rattle.std.specs.Prelude.{Bool, cond, Result, Err}
use Rattle.image_entry.specs.declared.entry.Entry.{Entry}
use Rattle.image_entry.specs.declared.entry.Fault.{Fault}

-- "then 4, then its words 5, then 6": a chain of tests, each with its fault, of which the first that fails is the answer
unfoldable pub passed : Bool → Fault → Result Entry Fault → Result Entry Fault
passed holds fault e = cond holds e (Err fault)
