-- `solver::closing::close_by` meets its contract: the passes on what is unpacked, packed. Assumes nothing.
use mathlib.Core.Path.{refl, ◌∙◌}
use Rattle.solver.proofs.closing.close_by.Goals as goal

pub returns : goal.returns
returns c = c.state.ensures ∙ rw (c.close_links.ensures, c.sum_demands.ensures, c.of.ensures) refl
