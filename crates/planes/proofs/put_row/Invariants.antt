use Rattle.planes.specs.Passes.{RowPut}
use Rattle.planes.proofs.put_row.Given as goal

abbrev pub invariant-loop-byte : goal.invariant-loop-byte
invariant-loop-byte l = RowPut l.w l.n l.from l.row l.byte l.initial.into l.into
