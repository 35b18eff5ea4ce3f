-- A timetable in chunks of 4,096 stops, as the program makes it: no contract can say that `timetable_io` does, but its loop is short enough to read beside
-- `Chunked`. `chunks-are` (proofs/Whole.antt) shows that the texts of the chunks, one after the other, are the timetable.
use Rattle.std.specs.Prelude.{ℕ, ◌+◌, ◌^◌, ◌≡◌, true, false, cond, List, [], ◌∷◌, ◌++◌, ltb, length, take}
use Rattle.listing.specs.Listing.{steps_line, refused_line}
use Rattle.model.specs.declared.project.Project.{Project}
use Rattle.tables.specs.Tables.{tables_ok}
use Rattle.stops_ahead.specs.Foreseen.{stops_foreseen, stops_of}
use Rattle.timetable_chunk.specs.declared.Chunk.{Chunk}
use Rattle.timetable_chunk.specs.Timetable.{lines_text, none_line}

-- the last of some instants, t where there are none
unfoldable pub last_of : ℕ → List ℕ → ℕ
last_of t [] = t
last_of t (u ∷ us) = last_of u us

-- n more; a count past what 32 bits hold stays, and no timetable has one
abbrev pub counted : ℕ → ℕ → ℕ
counted count n = cond (ltb (count + n) (2 ^ 32)) (count + n) count

-- the text of some stops, or after the last of them of their count
abbrev pub given_text : List ℕ → ℕ → List ℕ
given_text [] count = steps_line count
given_text (u ∷ us) count = lines_text (u ∷ us)

-- a chunk with nothing after it
abbrev pub last_chunk : ℕ → ℕ → ℕ → Chunk
last_chunk written instant count = record { written = written; instant = instant; count = count; over = true }

abbrev pub given_chunk : List ℕ → ℕ → ℕ → Chunk
given_chunk [] instant count = last_chunk (length (steps_line count)) instant count
given_chunk (u ∷ us) instant count =
    record { written = length (lines_text (u ∷ us)); instant = last_of u us; count = counted count (length (u ∷ us)); over = false }

-- the stops of a chunk
abbrev pub given : Project → ℕ → List ℕ
given p instant = take 4096 (stops_of p instant)

unfoldable pub chunk_text : Project → ℕ → ℕ → List ℕ
chunk_text p instant count = cond (tables_ok p) (cond (stops_foreseen p) (given_text (given p instant) count) none_line) (refused_line 10)

unfoldable pub chunk_of : Project → ℕ → ℕ → Chunk
chunk_of p instant count =
    cond (tables_ok p) (cond (stops_foreseen p) (given_chunk (given p instant) instant count) (last_chunk (length none_line) instant count)) (last_chunk (length (refused_line 10)) instant count)

-- chunks one after the other, as the program makes them, and the text that they write in all
pub data Chunked (p : Project) : ℕ → ℕ → List ℕ → Type 0 where
  last : {instant count : ℕ} → (chunk_of p instant count).over ≡ true → Chunked p instant count (chunk_text p instant count)
  more : {instant count : ℕ} {text : List ℕ} → (chunk_of p instant count).over ≡ false
      → Chunked p (chunk_of p instant count).instant (chunk_of p instant count).count text → Chunked p instant count (chunk_text p instant count ++ text)
