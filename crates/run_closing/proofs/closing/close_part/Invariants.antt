use lib.ListN.{get_or, length}
use Rattle.model.proofs.Loops.{Ran}
use Rattle.run_closing.specs.Closing.{link_marked}
use Rattle.run_closing.proofs.closing.close_part.Given as goal

abbrev pub invariant-loop-link : goal.invariant-loop-link
invariant-loop-link l = Ran (length l.links) (λ i. link_marked l.flows l.forward l.backward (get_or l.links i 0)) l.initial.statuses l.link-index l.statuses
