-- A load changes of the nodes only the tanks' demands and the junctions' heads, so it leaves a period's patterns in force. Assumes nothing.
use Prim.Native.Nat.{ℕ}
use mathlib.Core.Path.{◌≡◌, refl}
use mathlib.Core.Bool.{cond}
use mathlib.Core.List.{List}
use lib.Ieee.{Float}
use Rattle.model.specs.Blank.{node_at}
use Rattle.model.specs.Nodes.{is_tank_type, is_junction_type}
use Rattle.model.specs.declared.node.NodeType.{NodeType}
use Rattle.model.specs.declared.node.NodeType.TheVariants.{Reservoir, Tank, Junction}
use Rattle.model.specs.declared.project.Project.{Project}
use Rattle.model.specs.declared.state.NodeState.{NodeState}
use Rattle.model.specs.declared.state.State.{State}
use Rattle.model.proofs.Loops.{kept}
use Rattle.state_node.specs.Inflow.{with_demand}
use Rattle.state.proofs.InForce.{Forced, InForce, nodes_force, pass_force, demand_forced}
use Rattle.load.specs.Loads.{value_at, values_before, flow_loaded, load_flows, loaded_head, net_inflow, loaded_node, take_load}

loaded_forced : {p : Project} {t i : ℕ} (inflow head : Float) (x : NodeState) (k : NodeType) → (node_at p i).kind ≡ k → Forced p t i x
    → Forced p t i (cond (is_tank_type k) (with_demand x inflow) (cond (is_junction_type k) (record { head = head; demand = x.demand; demand_flow = x.demand_flow }) x))
loaded_forced inflow head x (Reservoir r) e q = q
loaded_forced inflow head x (Tank t) e q = demand_forced x inflow (rw e) q
loaded_forced inflow head x (Junction j) e q = record { demand = q.demand; head = rw e; flow = q.flow }

pub load_force : {p : Project} {t : ℕ} (words : List ℕ) (s : State) → InForce p t s → InForce p t (take_load p words s)
unfolding take_load
load_force {p} {t} words s q = pass_force (loaded_node p words u) u turn (nodes_force s u same q)
  where
    u : State
    u = load_flows p words s

    same : u.nodes ≡ s.nodes
    same = unfold load_flows in kept (λ (v : State). v.nodes) (flow_loaded words) s (λ i v. refl) p.counts.links

    turn : (i : ℕ) (x : NodeState) → Forced p t i x → Forced p t i (loaded_node p words u i x)
    turn i x w = unfold loaded_node loaded_head in loaded_forced (net_inflow p u i) (value_at words (values_before p i)) x (node_at p i).kind refl w
