-- `timetable_chunk::put_instants` meets its contract. Assumes nothing.
use Rattle.timetable_chunk.proofs.Lines.{lines_begun, lines_turned, lines_ended}
use borrow.Author.Rules.{rules}
use Rattle.timetable_chunk.proofs.put_instants.Goals as goal

pub loop-instant-init : goal.loop-instant-init
loop-instant-init c = lines_begun

pub loop-instant-preserved : goal.loop-instant-preserved
loop-instant-preserved c =
    let p = c.put_number_line-at.ensures in
    lines_turned c.loop-instant.invariant c.requires (search rules) p.value p.buf_after

pub returns : goal.returns
returns c = let p = lines_ended c.loop-instant.invariant c.loop-instant-test.false in record { value = p.0; out_after = p.1 }
