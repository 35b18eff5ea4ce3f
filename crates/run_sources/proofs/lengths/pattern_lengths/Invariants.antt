use lib.ListN.{get_or}
use Rattle.run_state.proofs.Filled.{Filled}
use Rattle.run_sources.specs.Lengths.{length_word}
use Rattle.run_sources.proofs.lengths.pattern_lengths.Given as goal

abbrev pub invariant-loop-k : goal.invariant-loop-k
invariant-loop-k l = Filled 0 32 (λ j. length_word (get_or l.lengths j 0)) l.k l.words
