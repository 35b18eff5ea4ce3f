use Rattle.model.proofs.Loops.{Ran}
use Rattle.run_controls.specs.Apply.{row_turn}
use Rattle.run_controls.proofs.apply.apply_controls.Given as goal

abbrev pub invariant-loop-i : goal.invariant-loop-i
invariant-loop-i l = Ran l.t.count (row_turn l.t.words l.t.numbers l.heads l.time l.clock) l.initial.links l.i l.links
