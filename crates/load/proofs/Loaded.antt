-- A load into the arrays of the links, and the heads: `take_load`, for any arrays that hold the junctions. Assumes nothing.
use Prim.Native.Nat.{ℕ, ◌+◌, ◌<◌}
use mathlib.Core.Path.{◌≡◌, refl, sym, ap, ◌∙◌}
use mathlib.Core.Bool.{Bool, true, false, cond}
use mathlib.Core.List.{List, map}
use native.Mathlib.Omega.{arith}
use lib.Ieee.{Float, nan}
use lib.ListN.{get_or, set, length, get_or-map}
use lib.Seq.{set-get_or, map-set_same}
use Rattle.model.specs.Blank.{node_at, node_state_at, blank_node_state, blank_link_state}
use Rattle.model.specs.Loops.{through}
use Rattle.model.specs.Nodes.{is_tank_type, is_junction_type}
use Rattle.model.specs.declared.node.NodeType.{NodeType}
use Rattle.model.specs.declared.node.NodeType.TheVariants.{Reservoir, Tank, Junction}
use Rattle.model.specs.declared.project.Project.{Project}
use Rattle.model.specs.declared.state.NodeState.{NodeState}
use Rattle.model.specs.declared.state.State.{State}
use Rattle.model.proofs.Loops.{kept}
use Rattle.model.proofs.Pointwise.{same_turns, carried, map_set}
use Rattle.run_load_tables.specs.Laid.{junction_in}
use Rattle.run_loads.specs.Taking.{flow_taken, flows_taken, head_taken, heads_taken}
use Rattle.run_state.specs.Lists.{head_of, demand_flow_of, flow_of, status_of, setting_of, heads_of, demand_flows_of, flows_of, statuses_of, settings_of, links_of}
use Rattle.run_tables.specs.Chosen.{chosen}
use Rattle.run_tables.specs.Held.{Pushed}
use Rattle.run_tables.proofs.Along.{chosen_along, held_along}
use Rattle.run_tables.proofs.Listed.{chosen_at}
use Rattle.state_node.specs.Inflow.{with_demand}
use Rattle.load.specs.Loads.{value_at, values_before, flow_loaded, load_flows, loaded_head, loaded_node, node_loaded, take_load}
use Rattle.load.proofs.Values.{junction_nodes, values_before_lem, chosen_rank}

-- ---- flows
module _ (p : Project) (words : List ℕ) (s : State) where
  abbrev flowing : State
  flowing = load_flows p words s

  links_kept : (take_load p words s).links ≡ flowing.links
  unfolding take_load
  links_kept = kept (λ (v : State). v.links) (node_loaded p words flowing) flowing (λ i v. refl) p.counts.nodes

  pub flows_keep_nodes : flowing.nodes ≡ s.nodes
  unfolding load_flows
  flows_keep_nodes = kept (λ (v : State). v.nodes) (flow_loaded words) s (λ i v. refl) p.counts.links

  pub load_keeps_clock : (take_load p words s).clock ≡ s.clock
  unfolding take_load load_flows
  load_keeps_clock =
      kept (λ (v : State). v.clock) (node_loaded p words flowing) flowing (λ i v. refl) p.counts.nodes
      ∙ kept (λ (v : State). v.clock) (flow_loaded words) s (λ i v. refl) p.counts.links

  pub flows_are : flows_taken words p.counts.links (flows_of s) ≡ flows_of flowing
  unfolding flows_taken load_flows
  flows_are = carried flows_of p.counts.links (flow_taken words) (flow_loaded words) s (λ k x l. sym (map_set flow_of x.links k _))

  statuses_stay : statuses_of flowing ≡ statuses_of s
  unfolding load_flows
  statuses_stay = kept statuses_of (flow_loaded words) s (λ i v. map-set_same status_of v.links i _ blank_link_state refl) p.counts.links

  settings_stay : settings_of flowing ≡ settings_of s
  unfolding load_flows
  settings_stay = kept settings_of (flow_loaded words) s (λ i v. map-set_same setting_of v.links i _ blank_link_state refl) p.counts.links

  pub take_flows_is : record { flows = flows_taken words p.counts.links (flows_of s); statuses = statuses_of s; settings = settings_of s } ≡ links_of (take_load p words s)
  take_flows_is = rw (links_kept, flows_are, ← statuses_stay, ← settings_stay)

-- ---- heads and demand flows
-- a node loaded, by its kind
abbrev loaded_kind : NodeType → NodeState → Float → Float → NodeState
loaded_kind k x d v = cond (is_tank_type k) (with_demand x d) (cond (is_junction_type k) (record { head = v; demand = x.demand; demand_flow = x.demand_flow }) x)

loaded_head_lem : (k : NodeType) (x : NodeState) (d v : Float) → (loaded_kind k x d v).head ≡ cond (is_junction_type k) v x.head
loaded_head_lem (Reservoir r) x d v = refl
loaded_head_lem (Tank t) x d v = refl
loaded_head_lem (Junction j) x d v = refl

loaded_flow : (k : NodeType) (x : NodeState) (d v : Float) → (loaded_kind k x d v).demand_flow ≡ x.demand_flow
loaded_flow (Reservoir r) x d v = refl
loaded_flow (Tank t) x d v = refl
loaded_flow (Junction j) x d v = refl

pub load_keeps_demand_flows : (p : Project) (words : List ℕ) (s : State) → demand_flows_of (take_load p words s) ≡ demand_flows_of s
unfolding take_load
load_keeps_demand_flows p words s =
    kept demand_flows_of (node_loaded p words u) u (λ i x. map-set_same demand_flow_of x.nodes i _ blank_node_state (given i (node_state_at x i))) p.counts.nodes
    ∙ ap (map demand_flow_of) (flows_keep_nodes p words s)
  where
    u : State
    u = load_flows p words s

    given : (i : ℕ) (x : NodeState) → (loaded_node p words u i x).demand_flow ≡ x.demand_flow
    given i x = unfold loaded_node loaded_head in loaded_flow (node_at p i).kind x _ _

pub take_heads_is : (p : Project) {junctions : List ℕ} {n : ℕ} → Pushed (junction_in p.nodes) p.counts.nodes junctions n → (words : List ℕ) (s : State)
    → heads_taken words junctions p.counts.links n (heads_of s) ≡ heads_of (take_load p words s)
unfolding heads_taken take_load
take_heads_is p {junctions} {n} laid words s =
    ap (λ (xs : List NodeState). through n (head_taken words junctions L) (map head_of xs)) (sym (flows_keep_nodes p words s))
    ∙ same_turns n (head_taken words junctions L) (λ r. put (get_or junctions r 0)) (heads_of u) one
    ∙ held_along (λ r. get_or junctions r 0) (junction_nodes p p.counts.nodes) put (heads_of u) n laid.many laid.each
    ∙ sym (chosen_along test p.counts.nodes put (heads_of u) idle)
    ∙ carried heads_of p.counts.nodes put (node_loaded p words u) u turn
  where
    L : ℕ
    L = p.counts.links

    u : State
    u = load_flows p words s

    test : ℕ → Bool
    test = junction_in p.nodes

    put : ℕ → List Float → List Float
    put i hs = set hs i (cond (test i) (value_at words (values_before p i)) (get_or hs i nan))

    one : (r : ℕ) (hs : List Float) → r < n → head_taken words junctions L r hs ≡ put (get_or junctions r 0) hs
    one r hs l = ap (set hs j) (ap (value_at words) place ∙ ap (λ (b : Bool). cond b (value_at words (values_before p j)) (get_or hs j nan)) (sym junction))
      where
        j : ℕ
        j = get_or junctions r 0

        inside : r < length (junction_nodes p p.counts.nodes)
        inside = omega (arith, l, laid.many)

        place : L + r ≡ values_before p j
        place = sym (values_before_lem p j ∙ ap (λ (k : ℕ). L + k) (ap (λ (k : ℕ). length (chosen test k)) (laid.each r l) ∙ chosen_rank test p.counts.nodes r inside))

        junction : test j ≡ true
        junction = ap test (laid.each r l) ∙ (chosen_at test p.counts.nodes r inside).holds

    idle : (i : ℕ) (hs : List Float) → i < p.counts.nodes → test i ≡ false → put i hs ≡ hs
    idle i hs l e = ap (λ (b : Bool). set hs i (cond b (value_at words (values_before p i)) (get_or hs i nan))) e ∙ set-get_or hs i nan

    given : (k : ℕ) (x : NodeState) → (loaded_node p words u k x).head ≡ cond (test k) (value_at words (values_before p k)) x.head
    given k x = unfold loaded_node loaded_head in loaded_head_lem (node_at p k).kind x _ (value_at words (values_before p k))

    turn : (k : ℕ) (x : State) → k < p.counts.nodes → put k (heads_of x) ≡ heads_of (node_loaded p words u k x)
    turn k x l =
        ap (set (heads_of x) k)
        (ap (cond (test k) (value_at words (values_before p k))) (get_or-map head_of x.nodes k blank_node_state) ∙ sym (given k (node_state_at x k)))
        ∙ sym (map_set head_of x.nodes k _)
