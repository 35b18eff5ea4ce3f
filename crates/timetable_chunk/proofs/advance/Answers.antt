-- `timetable_chunk::advance` meets its contract. Assumes nothing.
use Prim.Native.Nat.{ℕ}
use mathlib.Core.Path.{◌∙◌}
use mathlib.Core.List.{List}
use lib.ListN.{replicate, length-replicate}
use Rattle.timetable_chunk.proofs.Given.{answered_within, answered_text, answered_chunk}
use Rattle.timetable_chunk.proofs.advance.Goals as goal

zeros : List ℕ
zeros = replicate 4096 0

pub put_answer-requires-clause-within : goal.put_answer-requires-clause-within
unfolding zeros
put_answer-requires-clause-within c = let s = c.next_stops-answer.ensures in rw (s.value, s.out_after) (answered_within c.args.p.now c.args.instant zeros)

pub returns : goal.returns
unfolding zeros
returns c =
    let a = c.args in
    let s = c.next_stops-answer.ensures in
    let r = c.put_answer.ensures in
    let full = length-replicate {A = ℕ} 4096 0 in
    record { value = r.value ∙ rw (s.value, s.out_after) (answered_chunk a.p.now a.instant zeros a.count full); out_after = r.out_after ∙ rw (s.value, s.out_after, answered_text a.p.now a.instant zeros a.count full) }
