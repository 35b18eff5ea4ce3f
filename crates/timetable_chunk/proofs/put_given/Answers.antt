-- `timetable_chunk::put_given` meets its contract. Assumes nothing.
use Rattle.listing.specs.Listing.{Line, steps_line}
use Rattle.listing.proofs.Listing.{line_short}
use Rattle.timetable_chunk.proofs.Given.{line_put, none_given, some_given}
use Rattle.timetable_chunk.proofs.put_given.Goals as goal

pub returns-then-n-eq0 : goal.returns-then-n-eq0
returns-then-n-eq0 c =
    let a = c.args in
    let s = c.put_steps_line.ensures in
    let p = line_put (steps_line a.count) a.out.now (line_short (Line.finished a.count)) c.requires.1 s.value s.buf_after in
    let g = none_given a.instants.now a.instant a.count a.out.now c.if-n-eq0.true c.last.ensures p.0 p.1 in
    record { value = g.0; out_after = g.1 }

pub returns : goal.returns
returns c =
    let a = c.args in
    let s = c.put_instants-written.ensures in
    let g = some_given a.instants.now a.instant a.count a.out.now c.if-n-eq0.false c.counted.ensures s.value s.out_after in
    record { value = g.0; out_after = g.1 }
