use borrow.Author.Rules.{rules}
use Rattle.words.proofs.Filling.{filled_more, filled_none}
use Rattle.words.proofs.words_of.Goals as goal

pub loop-i-init : goal.loop-i-init
loop-i-init c = filled_none _ _

pub loop-i-preserved : goal.loop-i-preserved
loop-i-preserved c = rw (c.word.ensures, c.loop-i.invariant) (filled_more _ _ _ (search rules))
