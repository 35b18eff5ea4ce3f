use Rattle.std.specs.Prelude.{◌≡◌}
use lib.ListN.{get_or}
use Rattle.model.specs.Blank.{blank_node_state}
use Rattle.run_state.specs.Lists.{head_of, demand_of, demand_flow_of}
use Rattle.run_state.proofs.Filled.{Filled}
use Rattle.run_state.proofs.nodes_listed.Given as goal

abbrev pub invariant-loop-i : goal.invariant-loop-i
invariant-loop-i l = record {
  heads : Filled (head_of blank_node_state) 256 (λ k. head_of (get_or l.fn.table k blank_node_state)) l.i l.lists.heads;
  demands : Filled (demand_of blank_node_state) 256 (λ k. demand_of (get_or l.fn.table k blank_node_state)) l.i l.lists.demands;
  demand_flows : Filled (demand_flow_of blank_node_state) 256 (λ k. demand_flow_of (get_or l.fn.table k blank_node_state)) l.i l.lists.demand_flows;
  links : l.lists.links ≡ l.initial.lists.links;
  clock : l.lists.clock ≡ l.initial.lists.clock;
}
