use lib.ListN.{get_or}
use lib.Ieee.{nan}
use Rattle.model.specs.Blank.{blank_node_state}
use Rattle.run_state.proofs.Filled.{Filled}
use Rattle.run_state.proofs.Lists.node_states.Given as goal

abbrev pub invariant-loop-i : goal.invariant-loop-i
invariant-loop-i l = Filled blank_node_state 256 (λ k. record { head = get_or l.self.heads k nan; demand = get_or l.self.demands k nan; demand_flow = get_or l.self.demand_flows k nan }) l.i l.out
