-- `model::link::Link::initial_flow` meets its contract. Assumes nothing.
use mathlib.Core.Logic.{⊎_elim}
use lib.Ieee.{of_bits}
use Rattle.number.specs.Constants.{decimal}
use Rattle.model.specs.Links.{initial_flow}
use Rattle.model.proofs.link.Link.initial_flow.Goals as goal

pub returns-then-self : goal.returns-then-self
unfolding initial_flow decimal of_bits
returns-then-self c = rw c.if-self.true

-- a pipe, or a valve with some setting
pub returns-in-Pipe : goal.returns-in-Pipe
unfolding initial_flow decimal of_bits
returns-in-Pipe c = rw c.if-self.false (⊎_elim (λ e. rw e) (λ p. rw p.1) c.in-Pipe.is)
