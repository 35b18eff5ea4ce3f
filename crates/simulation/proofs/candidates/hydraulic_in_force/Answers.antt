-- `simulation::candidates::hydraulic_in_force` meets its contract. The code's test is the definition's. Assumes nothing.
use borrow.Author.Tests.{eq-eqb, ne_eqb}
use Rattle.simulation.specs.Steps.{hydraulic_in_force}
use Rattle.simulation.proofs.candidates.hydraulic_in_force.Goals as goal

pub returns-then-hydraulic-eq0 : goal.returns-then-hydraulic-eq0
unfolding hydraulic_in_force
returns-then-hydraulic-eq0 c = rw (eq-eqb _ _ c.if-hydraulic-eq0.true)

pub returns : goal.returns
unfolding hydraulic_in_force
returns c = rw (ne_eqb _ _ c.if-hydraulic-eq0.false)
