use Rattle.model.proofs.Loops.{Ran}
use Rattle.solver.specs.Pressure.{press_turn}
use Rattle.solver.proofs.pressure.apply_pressure_controls.Given as goal

abbrev pub invariant-loop-i : goal.invariant-loop-i
invariant-loop-i l = Ran l.n (press_turn l.p) (record { state = l.initial.st; changed = l.initial.changed }) l.i (record { state = l.st; changed = l.changed })
