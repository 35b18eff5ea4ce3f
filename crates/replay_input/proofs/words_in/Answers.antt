-- `replay_input::words_in` meets its contract. Assumes nothing.
use native.Mathlib.Omega.{arith}
use Rattle.replay_input.proofs.Taking.{taken_none, taken_from}
use Rattle.replay_input.proofs.words_in.Goals as goal

pub returns-then-bytes-n : goal.returns-then-bytes-n
returns-then-bytes-n c = taken_none _ _

pub returns : goal.returns
returns c = taken_from c.args.n _ _ _ _ (omega arith) c.words_of.ensures.value c.words_of.ensures.words_after
