use mathlib.Core.Path.{◌≡◌}
use lib.ListN.{length}
use Rattle.image.specs.Image.{decode, walk}
use Rattle.image.proofs.walk.walked.Given as goal

abbrev pub invariant-loop-header : goal.invariant-loop-header
invariant-loop-header l = decode l.words ≡ walk l.rest 0 l.stage l.p

abbrev pub decreases-loop-header : goal.decreases-loop-header
decreases-loop-header l = length l.rest
