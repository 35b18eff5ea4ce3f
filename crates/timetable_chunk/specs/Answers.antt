-- Needs no belief: the chunk of an answer for a list of instants, case by case. `answered-text` and `answered-chunk` (proofs/Given.antt) show that it is
-- the definition's.
use Rattle.std.specs.Prelude.{ℕ, Ok, Err, ◌≤◌, List, length, take}
use Rattle.listing.specs.Listing.{refused_line}
use Rattle.stops_ahead.specs.Foreseen.{StopsAnswer}
use Rattle.stops_ahead.specs.declared.next.NoStops.TheVariants.{Unforeseen, Refused}
use Rattle.timetable_chunk.specs.declared.Chunk.{Chunk}
use Rattle.timetable_chunk.specs.Timetable.{none_line}
use Rattle.timetable_chunk.specs.Chunks.{last_chunk, given_text, given_chunk}

abbrev pub answer_text : StopsAnswer → List ℕ → ℕ → List ℕ
answer_text (Ok n) us count = given_text (take n us) count
answer_text (Err Unforeseen) us count = none_line
answer_text (Err (Refused n)) us count = refused_line n

abbrev pub answer_chunk : StopsAnswer → List ℕ → ℕ → ℕ → Chunk
answer_chunk (Ok n) us instant count = given_chunk (take n us) instant count
answer_chunk (Err Unforeseen) us instant count = last_chunk (length none_line) instant count
answer_chunk (Err (Refused n)) us instant count = last_chunk (length (refused_line n)) instant count

-- no more stops than the list has
abbrev pub Within : StopsAnswer → List ℕ → Type 0
Within (Ok n) us = n ≤ length us
Within (Err Unforeseen) us = Unit {0}
Within (Err (Refused n)) us = Unit {0}
