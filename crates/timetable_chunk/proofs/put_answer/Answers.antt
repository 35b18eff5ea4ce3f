-- `timetable_chunk::put_answer` meets its contract. Assumes nothing.
use mathlib.Core.Path.{◌∙◌}
use Rattle.listing.specs.Listing.{Line, refused_line}
use Rattle.listing.proofs.Listing.{line_short}
use Rattle.timetable_chunk.proofs.Given.{line_put}
use Rattle.timetable_chunk.proofs.put_answer.Goals as goal

pub returns-in-Refused : goal.returns-in-Refused
returns-in-Refused c =
    let s = c.put_refused_line.ensures in
    let n = c.in-Refused.number in
    let p = line_put (refused_line n) c.args.out.now (line_short (Line.refused n)) c.requires.instants_in_bounds.1 s.value s.buf_after in
    rw (c.in-Err.is, c.in-Refused.is) (record { value = c.last-in-Refused.ensures ∙ rw p.0; out_after = p.1 })
