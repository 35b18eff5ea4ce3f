use Rattle.timetable_chunk.proofs.Lines.{Lines}
use Rattle.timetable_chunk.proofs.put_instants.Given as goal

abbrev pub invariant-loop-instant : goal.invariant-loop-instant
invariant-loop-instant l = Lines l.instants l.initial.out l.out l.at l.instant-index
