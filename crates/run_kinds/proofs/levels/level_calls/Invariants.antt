use Rattle.run_kinds.proofs.Standing.{Listing}
use Rattle.run_kinds.proofs.levels.level_calls.Given as goal

abbrev pub invariant-loop-i : goal.invariant-loop-i
invariant-loop-i l = Listing l.fn.controls l.fn.tanks.nodes l.fn.tanks.count l.i l.numbers l.targets l.count
