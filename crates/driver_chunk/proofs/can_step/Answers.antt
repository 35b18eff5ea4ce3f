use Rattle.driver_chunk.proofs.can_step.Goals as goal

pub returns : goal.returns
returns c = rw c.can_turn.ensures
