-- Document 01: "A load (kind 15) has every link's flow, then every junction's head, in order, each within ±10^12."
use Rattle.std.specs.Prelude.{ℕ, zero, suc, ◌+◌, cond, List, eqb, Float}
use Rattle.number.specs.Constants.{decimal}
use Rattle.number.specs.Operators.{◌⊕◌, ◌⊖◌}
use Rattle.model.specs.Blank.{node_at, link_at, node_state_at, link_state_at, with_node, with_link}
use Rattle.model.specs.Loops.{through}
use Rattle.model.specs.Nodes.{is_tank, is_junction}
use Rattle.model.specs.declared.node.Node.{Node}
use Rattle.model.specs.declared.project.Project.{Project}
use Rattle.model.specs.declared.state.NodeState.{NodeState}
use Rattle.model.specs.declared.state.State.{State}
use Rattle.state_node.specs.Inflow.{with_demand}
pub use Rattle.run_loads.specs.Values.{value_at, value_ok}
unfoldable pub use Rattle.run_loads.specs.Values.{shape_ok, values_ok}

-- how many of a load's numbers stand before the head of node i: the links' flows and the heads of the junctions before it
unfoldable pub values_before : Project → ℕ → ℕ
values_before p zero = p.counts.links
values_before p (suc i) = values_before p i + cond (is_junction (node_at p i)) 1 0

unfoldable pub value_count : Project → ℕ
value_count p = values_before p p.counts.nodes

-- the number of a load's fault, and 0 where it has none
unfoldable pub load_fault : Project → List ℕ → ℕ
load_fault p words = cond (shape_ok (value_count p) words) (cond (values_ok (value_count p) words) 0 8) 7

-- ---- taking it
abbrev pub flow_loaded : List ℕ → ℕ → State → State
flow_loaded words i s =
    with_link s i (record { flow = value_at words i; status = (link_state_at s i).status; setting = (link_state_at s i).setting })

unfoldable pub load_flows : Project → List ℕ → State → State
load_flows p words s = through p.counts.links (flow_loaded words) s

unfoldable pub loaded_head : List ℕ → ℕ → Node → NodeState → NodeState
loaded_head words k n s = cond (is_junction n) (record { head = value_at words k; demand = s.demand; demand_flow = s.demand_flow }) s

-- "from +0.0, in link order, the loaded flow of a link into it is added and of one out of it subtracted": the net inflow of the tank at node j
abbrev pub link_flow : Project → State → ℕ → ℕ → Float → Float
link_flow p s j k sum =
    let flow = (link_state_at s k).flow in
    cond (eqb (link_at p k).end j) (sum ⊕ flow) (cond (eqb (link_at p k).start j) (sum ⊖ flow) sum)

unfoldable pub net_inflow : Project → State → ℕ → Float
net_inflow p s j = through p.counts.links (link_flow p s j) (decimal 0 0)

-- "Taking it also sets each tank's demand to its net inflow. Other demands stay."
unfoldable pub loaded_node : Project → List ℕ → State → ℕ → NodeState → NodeState
loaded_node p words s i x =
    cond (is_tank (node_at p i)) (with_demand x (net_inflow p s i)) (loaded_head words (values_before p i) (node_at p i) x)

abbrev pub node_loaded : Project → List ℕ → State → ℕ → State → State
node_loaded p words s i u = with_node u i (loaded_node p words s i (node_state_at u i))

-- the flows first; then, node by node, heads and demands from the flows loaded
unfoldable pub take_load : Project → List ℕ → State → State
take_load p words s = let flowing = load_flows p words s in through p.counts.nodes (node_loaded p words flowing) flowing
