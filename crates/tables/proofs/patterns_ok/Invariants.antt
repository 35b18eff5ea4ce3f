use lib.ListN.{get_or}
use Rattle.model.proofs.Loops.{Held}
use Rattle.table_entry.specs.Fits.{pattern_ok}
use Rattle.tables.proofs.patterns_ok.Given as goal

abbrev pub invariant-loop-k : goal.invariant-loop-k
invariant-loop-k l = Held l.n (λ j. pattern_ok l.multipliers j (get_or l.lengths j 0)) l.k
