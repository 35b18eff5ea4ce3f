-- The tanks moved by the table of the tanks: `update_tanks`. Assumes nothing.
use Prim.Native.Nat.{ℕ, ◌<◌}
use mathlib.Core.Path.{◌≡◌, refl, sym, ap, ◌∙◌}
use mathlib.Core.Bool.{false, true≢false}
use mathlib.Core.List.{List}
use lib.Ieee.{Float, nan}
use lib.ListN.{get_or, set, get_or-map}
use lib.Seq.{set-get_or, map-set_same}
use Rattle.model.specs.Blank.{node_at, node_state_at, with_node, blank_node_state}
use Rattle.model.specs.Nodes.{is_tank, is_tank_type}
use Rattle.model.specs.declared.node.NodeType.{NodeType}
use Rattle.model.specs.declared.node.NodeType.TheVariants.{Reservoir, Tank, Junction}
use Rattle.model.specs.declared.project.Project.{Project}
use Rattle.model.specs.declared.state.NodeState.{NodeState}
use Rattle.model.specs.declared.state.State.{State}
use Rattle.model.proofs.Loops.{kept}
use Rattle.model.proofs.Pointwise.{carried_keeping, map_set}
use Rattle.run_state.specs.declared.Lists.{Lists}
use Rattle.run_state.specs.Lists.{head_of, demand_of, demand_flow_of, heads_of, demands_of, demand_flows_of, links_listed, lists_of}
use Rattle.run_state.proofs.Apart.{same_state, lists_made}
use Rattle.run_tables.specs.Held.{TanksLaid}
use Rattle.run_tables.specs.Rows.{tank_at}
use Rattle.run_tables.specs.Tanks.{tank_nodes}
use Rattle.run_tables.proofs.Along.{chosen_along, held_along}
use Rattle.run_tanks.specs.Moving.{tank_moved, heads_after}
use Rattle.state_node.specs.Tanks.{moved}
use Rattle.tank.specs.Tanks.{head_after}
use Rattle.tank.specs.declared.tank.Tank as tanks
use Rattle.state.specs.Tanks.{node_moved, update_tanks}

stays : (k : NodeType) (x : NodeState) (seconds : ℕ) → is_tank_type k ≡ false → moved k x seconds ≡ x
stays (Reservoir r) x seconds e = refl
stays (Tank t) x seconds e = absurd (true≢false e)
stays (Junction j) x seconds e = refl

same_demand : (k : NodeType) (x : NodeState) (seconds : ℕ) → (moved k x seconds).demand ≡ x.demand
same_demand (Reservoir r) x seconds = refl
same_demand (Tank t) x seconds = refl
same_demand (Junction j) x seconds = refl

same_flow : (k : NodeType) (x : NodeState) (seconds : ℕ) → (moved k x seconds).demand_flow ≡ x.demand_flow
same_flow (Reservoir r) x seconds = refl
same_flow (Tank t) x seconds = refl
same_flow (Junction j) x seconds = refl

moved_head : (t : tanks.Tank) (k : NodeType) (x : NodeState) (seconds : ℕ) (head demand : Float) → k ≡ Tank t → head ≡ x.head → demand ≡ x.demand
    → (head_after t (record { 0 = demand }) seconds (record { 0 = head })).0 ≡ (moved k x seconds).head
moved_head t k x seconds head demand e h d = rw (e, h, d)

-- a node that is no tank does not move
move_idle : (p : Project) (seconds i : ℕ) (x : State) → is_tank (node_at p i) ≡ false → node_moved p seconds i x ≡ x
move_idle p seconds i x e =
    ap (with_node x i) (stays (node_at p i).kind (node_state_at x i) seconds e)
    ∙ ap (λ (ns : List NodeState). record { nodes = ns; links = x.links; clock = x.clock }) (set-get_or x.nodes i blank_node_state)

pub move_tanks_is :
    (p : Project) {nodes : List ℕ} {numbers : List Float} {overflows : List ℕ} {n : ℕ} → TanksLaid p.nodes p.counts.nodes nodes numbers overflows n
    → (s : State) (seconds : ℕ) → heads_after nodes numbers overflows n (demands_of s) seconds (heads_of s) ≡ heads_of (update_tanks p s seconds)
unfolding heads_after update_tanks
move_tanks_is p {nodes} {numbers} {overflows} {n} laid s seconds =
    carried_keeping heads_of (λ (x : State). demands_of x ≡ demands_of s) n (tank_moved nodes numbers overflows (demands_of s) seconds) (λ k. node_moved p seconds (get_or nodes k 0)) s refl
    keep turn
    ∙ ap heads_of
    (held_along (λ k. get_or nodes k 0) (tank_nodes p) (node_moved p seconds) s n laid.count laid.node
    ∙ sym (chosen_along (λ i. is_tank (node_at p i)) p.counts.nodes (node_moved p seconds) s (λ i x l e. move_idle p seconds i x e)))
  where
    keep : (k : ℕ) (x : State) → k < n → demands_of x ≡ demands_of s → demands_of (node_moved p seconds (get_or nodes k 0) x) ≡ demands_of s
    keep k x l q = map-set_same demand_of x.nodes (get_or nodes k 0) _ blank_node_state (same_demand (node_at p (get_or nodes k 0)).kind _ seconds) ∙ q

    turn : (k : ℕ) (x : State) → k < n → demands_of x ≡ demands_of s
        → tank_moved nodes numbers overflows (demands_of s) seconds k (heads_of x) ≡ heads_of (node_moved p seconds (get_or nodes k 0) x)
    turn k x l q =
        ap (set (heads_of x) j)
        (moved_head (tank_at numbers overflows k) (node_at p j).kind (node_state_at x j) seconds (get_or (heads_of x) j nan) (get_or (demands_of s) j nan) (laid.tank k l)
        (get_or-map head_of x.nodes j blank_node_state)
        (ap (λ (ds : List Float). get_or ds j nan) (sym q) ∙ get_or-map demand_of x.nodes j blank_node_state))
        ∙ sym (map_set head_of x.nodes j _)
      where
        j : ℕ
        j = get_or nodes k 0

-- ---- nothing else becomes another
module _ (p : Project) (s : State) (seconds : ℕ) where
  pub moved_demands : demands_of (update_tanks p s seconds) ≡ demands_of s
  unfolding update_tanks
  moved_demands =
      kept demands_of (node_moved p seconds) s (λ i v. map-set_same demand_of v.nodes i _ blank_node_state (same_demand (node_at p i).kind (node_state_at v i) seconds)) p.counts.nodes

  pub moved_demand_flows : demand_flows_of (update_tanks p s seconds) ≡ demand_flows_of s
  unfolding update_tanks
  moved_demand_flows =
      kept demand_flows_of (node_moved p seconds) s (λ i v. map-set_same demand_flow_of v.nodes i _ blank_node_state (same_flow (node_at p i).kind (node_state_at v i) seconds)) p.counts.nodes

  pub moved_links : (update_tanks p s seconds).links ≡ s.links
  unfolding update_tanks
  moved_links = kept (λ (v : State). v.links) (node_moved p seconds) s (λ i v. refl) p.counts.nodes

  pub moved_clock : (update_tanks p s seconds).clock ≡ s.clock
  unfolding update_tanks
  moved_clock = kept (λ (v : State). v.clock) (node_moved p seconds) s (λ i v. refl) p.counts.nodes

-- ---- packed again
pub moved_packed :
    (p : Project) {nodes : List ℕ} {numbers : List Float} {overflows : List ℕ} {n : ℕ} → TanksLaid p.nodes p.counts.nodes nodes numbers overflows n
    → (s : State) (seconds : ℕ) (r : State) {ls : Lists} {after : List Float} → ls ≡ lists_of s
    → after ≡ heads_after nodes numbers overflows n ls.demands seconds ls.heads
    → lists_of r ≡ record { heads = after; demands = ls.demands; demand_flows = ls.demand_flows; links = ls.links; clock = ls.clock } → r ≡ update_tanks p s seconds
moved_packed p {nodes} {numbers} {overflows} {n} laid s seconds r {ls} {after} e a h =
    same_state r (update_tanks p s seconds) (h ∙ rw (a, e) (lists_made (move_tanks_is p laid s seconds) (sym (moved_demands p s seconds)) (sym (moved_demand_flows p s seconds)) (ap links_listed (sym (moved_links p s seconds))) (sym (moved_clock p s seconds))))
