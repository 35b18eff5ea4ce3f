-- Document 01, module 8: `update_tank_links`. Heads and flows do not change in it, so links can be closed first and demands summed then, tank by tank.
use Rattle.std.specs.Prelude.{ℕ, cond, eqb, Float}
use Rattle.number.specs.Constants.{decimal}
use Rattle.number.specs.Operators.{◌⊕◌, ◌⊖◌}
use Rattle.model.specs.Blank.{node_at, link_at, node_state_at, link_state_at, with_node, with_link}
use Rattle.model.specs.Loops.{through}
use Rattle.model.specs.Nodes.{is_tank}
use Rattle.model.specs.declared.project.Project.{Project}
use Rattle.model.specs.declared.state.NodeState.{NodeState}
use Rattle.model.specs.declared.state.State.{State}
use Rattle.state_node.specs.Inflow.{with_demand}
use Rattle.state_link.specs.Closing.{closed}

abbrev pub link_closed : Project → ℕ → State → State
link_closed p i s =
    let e = (link_at p i).end in
    let b = (link_at p i).start in
    with_link s i (closed (link_state_at s i) (node_at p e) (node_state_at s e) (node_at p b) (node_state_at s b))

unfoldable pub close_links : Project → State → State
close_links p s = through p.counts.links (link_closed p) s

-- "A tank's links are taken in link order, those into it first": the demand of the tank at node j
abbrev pub flow_into : Project → State → ℕ → ℕ → Float → Float
flow_into p s j k sum = cond (eqb (link_at p k).end j) (sum ⊕ (link_state_at s k).flow) sum

abbrev pub flow_out_of : Project → State → ℕ → ℕ → Float → Float
flow_out_of p s j k sum = cond (eqb (link_at p k).start j) (sum ⊖ (link_state_at s k).flow) sum

unfoldable pub tank_inflow : Project → State → ℕ → Float
tank_inflow p s j = through p.counts.links (flow_out_of p s j) (through p.counts.links (flow_into p s j) (decimal 0 0))

unfoldable pub summed : Project → State → ℕ → NodeState → NodeState
summed p s i x = cond (is_tank (node_at p i)) (with_demand x (tank_inflow p s i)) x

abbrev pub node_summed : Project → State → ℕ → State → State
node_summed p s i u = with_node u i (summed p s i (node_state_at u i))

unfoldable pub update_tank_links : Project → State → State
update_tank_links p s = let u = close_links p s in through p.counts.nodes (node_summed p u) u
