use Rattle.model.proofs.Loops.{Held}
use Rattle.simulation.specs.Steps.{no_tank_at}
use Rattle.simulation.proofs.candidates.no_tanks.Given as goal

abbrev pub invariant-loop-i : goal.invariant-loop-i
invariant-loop-i l = Held l.p.counts.nodes (no_tank_at l.p) l.i
