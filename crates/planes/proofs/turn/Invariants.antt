use Rattle.planes.specs.Passes.{RowsPut}
use Rattle.planes.proofs.turn.Given as goal

abbrev pub invariant-loop-row : goal.invariant-loop-row
invariant-loop-row l = RowsPut l.w l.n l.from l.row l.into
