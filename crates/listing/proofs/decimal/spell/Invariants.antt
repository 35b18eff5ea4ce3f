use Rattle.listing.proofs.Digits.{Spelled}
use Rattle.listing.proofs.decimal.spell.Given as goal

abbrev pub invariant-loop-rest : goal.invariant-loop-rest
invariant-loop-rest l = Spelled l.initial.buf l.at l.n l.k l.buf l.i l.rest

abbrev pub decreases-loop-rest : goal.decreases-loop-rest
decreases-loop-rest l = l.rest
