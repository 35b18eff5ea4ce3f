use Rattle.model.proofs.Loops.{Held}
use Rattle.table_entry.specs.Fits.{multiplier_ok}
use Rattle.table_entry.proofs.multipliers_ok.Given as goal

abbrev pub invariant-loop-i : goal.invariant-loop-i
invariant-loop-i l = Held l.n (multiplier_ok l.multipliers l.k) l.i
