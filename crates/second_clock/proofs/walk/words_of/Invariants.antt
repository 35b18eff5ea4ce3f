use Rattle.model.proofs.Loops.{Ran}
use Rattle.second_clock.specs.Walks.{word_put}
use Rattle.second_clock.proofs.walk.words_of.Given as goal

abbrev pub invariant-loop-i : goal.invariant-loop-i
invariant-loop-i l = Ran 64 (word_put l.seconds) l.initial.words l.i l.words
