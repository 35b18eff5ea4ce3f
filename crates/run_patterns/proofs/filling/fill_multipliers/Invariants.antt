use Rattle.model.proofs.Loops.{Ran}
use Rattle.run_patterns.specs.Filling.{multiplier_put}
use Rattle.run_patterns.proofs.filling.fill_multipliers.Given as goal

abbrev pub invariant-loop-k : goal.invariant-loop-k
invariant-loop-k l = Ran 32 (multiplier_put l.lengths l.multipliers l.start l.timestep l.time) l.initial.table l.k l.table
