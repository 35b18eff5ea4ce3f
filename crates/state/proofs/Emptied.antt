-- The tanks' demands set to 0 by the table of the tanks: `empty_tanks`. Assumes nothing.
use Prim.Native.Nat.{ℕ, ◌<◌}
use mathlib.Core.Path.{◌≡◌, refl, sym, ap, ◌∙◌}
use mathlib.Core.Bool.{Bool, true, false, cond}
use mathlib.Core.List.{List}
use lib.Ieee.{Float}
use lib.ListN.{get_or, set}
use lib.Seq.{map-set_same, set-get_or}
use Rattle.number.specs.Constants.{decimal}
use Rattle.model.specs.Blank.{node_at, node_state_at, blank_node_state}
use Rattle.model.specs.Nodes.{is_tank}
use Rattle.model.specs.declared.node.Node.{Node}
use Rattle.model.specs.declared.project.Project.{Project}
use Rattle.model.specs.declared.state.NodeState.{NodeState}
use Rattle.model.specs.declared.state.State.{State}
use Rattle.model.proofs.Loops.{kept}
use Rattle.model.proofs.Pointwise.{carried, map_set}
use Rattle.run_state.specs.Lists.{demand_of, head_of, demand_flow_of, heads_of, demands_of, demand_flows_of}
use Rattle.run_tables.specs.Held.{TanksLaid}
use Rattle.run_tables.specs.Tanks.{tank_nodes}
use Rattle.run_tables.proofs.Along.{chosen_along, held_along}
use Rattle.run_tanks.specs.Emptying as lists
use Rattle.state_node.specs.Inflow.{with_demand, emptied}
use Rattle.state.specs.Inflow.{tank_emptied, empty_tanks}

empty_idle : (p : Project) (i : ℕ) (x : State) → is_tank (node_at p i) ≡ false → tank_emptied p i x ≡ x
unfolding emptied
empty_idle p i x e = rw e (ap (λ (ns : List NodeState). record { nodes = ns; links = x.links; clock = x.clock }) (set-get_or x.nodes i blank_node_state))

emptied_demand : (n : Node) (x : NodeState) → is_tank n ≡ true → decimal 0 0 ≡ (emptied n x).demand
unfolding emptied
emptied_demand n x e = rw e

emptied_head : (n : Node) (x : NodeState) → (emptied n x).head ≡ x.head
unfolding emptied
emptied_head n x = by (is_tank n)
  where
    by : (b : Bool) → (cond b (with_demand x (decimal 0 0)) x).head ≡ x.head
    by true = refl
    by false = refl

emptied_flow : (n : Node) (x : NodeState) → (emptied n x).demand_flow ≡ x.demand_flow
unfolding emptied
emptied_flow n x = by (is_tank n)
  where
    by : (b : Bool) → (cond b (with_demand x (decimal 0 0)) x).demand_flow ≡ x.demand_flow
    by true = refl
    by false = refl

pub empty_tanks_is : (p : Project) {nodes : List ℕ} {numbers : List Float} {overflows : List ℕ} {n : ℕ} → TanksLaid p.nodes p.counts.nodes nodes numbers overflows n
    → (s : State) → lists.tanks_emptied nodes n (demands_of s) ≡ demands_of (empty_tanks p s)
unfolding lists.tanks_emptied empty_tanks
empty_tanks_is p {nodes} {numbers} {overflows} {n} laid s =
    carried demands_of n (lists.tank_emptied nodes) (λ k. tank_emptied p (get_or nodes k 0)) s turn
    ∙ ap demands_of
    (held_along (λ k. get_or nodes k 0) (tank_nodes p) (tank_emptied p) s n laid.count laid.node
    ∙ sym (chosen_along (λ i. is_tank (node_at p i)) p.counts.nodes (tank_emptied p) s (λ i x l e. empty_idle p i x e)))
  where
    turn : (k : ℕ) (x : State) → k < n → lists.tank_emptied nodes k (demands_of x) ≡ demands_of (tank_emptied p (get_or nodes k 0) x)
    turn k x l =
        ap (set (demands_of x) j) (emptied_demand (node_at p j) (node_state_at x j) (rw (laid.tank k l)))
        ∙ sym (map_set demand_of x.nodes j _)
      where
        j : ℕ
        j = get_or nodes k 0

-- ---- nothing else becomes another
module _ (p : Project) (s : State) where
  pub emptied_heads : heads_of (empty_tanks p s) ≡ heads_of s
  unfolding empty_tanks
  emptied_heads =
      kept heads_of (tank_emptied p) s (λ i v. map-set_same head_of v.nodes i _ blank_node_state (emptied_head (node_at p i) (node_state_at v i))) p.counts.nodes

  pub emptied_flows : demand_flows_of (empty_tanks p s) ≡ demand_flows_of s
  unfolding empty_tanks
  emptied_flows =
      kept demand_flows_of (tank_emptied p) s (λ i v. map-set_same demand_flow_of v.nodes i _ blank_node_state (emptied_flow (node_at p i) (node_state_at v i))) p.counts.nodes

  pub emptied_links : (empty_tanks p s).links ≡ s.links
  unfolding empty_tanks
  emptied_links = kept (λ (v : State). v.links) (tank_emptied p) s (λ i v. refl) p.counts.nodes

  pub emptied_clock : (empty_tanks p s).clock ≡ s.clock
  unfolding empty_tanks
  emptied_clock = kept (λ (v : State). v.clock) (tank_emptied p) s (λ i v. refl) p.counts.nodes
