-- `planes::turn` meets its contract: after the last row each byte stands where the definition has it. Assumes nothing.
use Rattle.planes.proofs.Passes.{rows_ended}
use Rattle.planes.proofs.turn.Goals as goal

pub returns : goal.returns
returns c = rows_ended c.loop-row-test.false c.loop-row.invariant
