-- `timetable_io::write_chunks` meets its contract: it ends. Assumes nothing.
use mathlib.Core.Path.{ap}
use native.Mathlib.Omega.{arith}
use Rattle.timetable_chunk.specs.declared.Chunk.{Chunk}
use Rattle.timetable_chunk.proofs.Whole.{chunk_short}
use Rattle.timetable_io.proofs.Ending.{less_left}
use Rattle.timetable_io.proofs.write_chunks.Goals as goal

pub write-requires : goal.write-requires
write-requires g c =
    let l = c.chunks in
    omega (arith, ap (λ (x : Chunk). x.written) c.advance-c.ensures.value, chunk_short c.args.p.now l.instant l.count)

pub chunks-smaller : goal.chunks-smaller
chunks-smaller g c = less_left c.args.p.now c.chunks.instant c.chunks.count _ c.advance-c.ensures.value c.if-c.false
