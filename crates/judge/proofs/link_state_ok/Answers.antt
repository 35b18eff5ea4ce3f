-- `judge::link_state_ok` meets its contract. Assumes nothing.
use lib.Ieee.{of_bits}
use Rattle.number.specs.Constants.{decimal}
use Rattle.judge.specs.Judgement.{link_state_ok}
use Rattle.judge.proofs.link_state_ok.Goals as goal

pub returns : goal.returns
unfolding link_state_ok decimal of_bits
returns c = rw (c.within.ensures, c.status_ok.ensures, c.within-2.ensures)
