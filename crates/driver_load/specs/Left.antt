-- Needs no belief: what becomes of the lists of a run where some bytes of the input are left. driver_turn's laws show that it comes to document 01's load.
use Rattle.std.specs.Prelude.{ℕ, ◌+◌, ◌*◌, ◌≤◌, ◌<◌, ◌≡◌, List, length, Result, Ok, Err}
use Rattle.words.specs.Words.{first_words}
use Rattle.run_loads.specs.Faults.{load_fault_number}
use Rattle.run_loads.specs.Loaded.{lists_loaded}
use Rattle.run_loads.specs.Taking.{fault_of}
use Rattle.run_loads.specs.declared.fault.LoadFault.{LoadFault}
use Rattle.run_loads.specs.declared.fault.LoadFault.TheVariants as faults
use Rattle.run_loads.specs.declared.table.LoadTable.{LoadTable}
use Rattle.run_state.specs.declared.Lists.{Lists}
use Rattle.run_tables.specs.declared.nodes.NodeList.{NodeList}

-- how many numbers a load has, by its table
abbrev pub values_by : LoadTable → ℕ
values_by t = t.links + t.junctions.count

-- a load of so many numbers has so many words
abbrev pub words_for : ℕ → ℕ
words_for count = 1 + 2 * count

-- the words of a load at the front of some bytes
abbrev pub words_left : ℕ → List ℕ → List ℕ
words_left count bytes = first_words (words_for count) bytes

-- no byte is left; a load cut by the end; one with a fault; one that is taken, with its bytes
pub data LoadedAs (bytes : List ℕ) (count : ℕ) (t : LoadTable) (tanks : NodeList) (before : Lists) : Lists → Result ℕ LoadFault → Type 0 where
  none : length bytes ≡ 0 → LoadedAs bytes count t tanks before before (Ok 0)
  cut : (length bytes ≡ 0 → ⊥) → length bytes < words_for count * 4 → LoadedAs bytes count t tanks before before (Err faults.Shape)
  faulty : (length bytes ≡ 0 → ⊥) → words_for count * 4 ≤ length bytes
      → (f : LoadFault) → load_fault_number f ≡ fault_of count (words_left count bytes) → LoadedAs bytes count t tanks before before (Err f)
  whole : (length bytes ≡ 0 → ⊥) → words_for count * 4 ≤ length bytes → 0 ≡ fault_of count (words_left count bytes)
      → (after : Lists) → after ≡ lists_loaded (words_left count bytes) t tanks before → (size : ℕ) → size ≡ words_for count * 4
      → LoadedAs bytes count t tanks before after (Ok size)
