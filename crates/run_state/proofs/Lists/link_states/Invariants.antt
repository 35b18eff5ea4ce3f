use lib.ListN.{get_or}
use lib.Ieee.{nan}
use Rattle.model.specs.Blank.{blank_link_state}
use Rattle.run_state.proofs.Filled.{Filled}
use Rattle.run_state.proofs.Lists.link_states.Given as goal

abbrev pub invariant-loop-i : goal.invariant-loop-i
invariant-loop-i l = Filled blank_link_state 384 (λ k. record { flow = get_or l.self.links.flows k nan; status = get_or l.self.links.statuses k 0; setting = get_or l.self.links.settings k nan }) l.i l.out
