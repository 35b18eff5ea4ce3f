-- The demands summed up by the table of the tanks' links are those of `update_tank_links`. Assumes nothing.
use Prim.Native.Nat.{ℕ, ◌<◌}
use mathlib.Core.Path.{◌≡◌, refl, sym, ap, ◌∙◌}
use mathlib.Core.Bool.{Bool, true, false, cond, ◌||◌}
use mathlib.Core.List.{List, map}
use lib.Dec.{eqb}
use lib.Ieee.{Float, nan}
use lib.ListN.{get_or, set, get_or-map}
use lib.Seq.{set-get_or, map-set_same}
use Rattle.number.specs.Constants.{decimal}
use Rattle.number.specs.Operators.{◌⊕◌, ◌⊖◌}
use Rattle.model.specs.Blank.{node_at, link_at, node_state_at, link_state_at, blank_node_state, blank_link_state}
use Rattle.model.specs.Links.{TempClosed}
use Rattle.model.specs.Loops.{through}
use Rattle.model.specs.Nodes.{is_tank}
use Rattle.model.specs.declared.node.Node.{Node}
use Rattle.model.specs.declared.node.NodeType.TheVariants.{Tank}
use Rattle.model.specs.declared.project.Project.{Project}
use Rattle.model.specs.declared.state.LinkState.{LinkState}
use Rattle.model.specs.declared.state.NodeState.{NodeState}
use Rattle.model.specs.declared.state.State.{State}
use Rattle.model.proofs.Loops.{kept}
use Rattle.model.proofs.Pointwise.{carried, map_set}
use Rattle.state_link.specs.Closing.{closed, closes_into, closes_out_of}
use Rattle.solver.specs.Closing.{link_closed, close_links, flow_into, tank_inflow, summed, node_summed, update_tank_links}
use Rattle.tank.specs.declared.tank.Tank as tanks
use Rattle.run_state.specs.Lists.{flow_of, demand_of, demands_of}
use Rattle.run_tables.specs.Tanks.{tank_nodes}
use Rattle.run_tables.specs.Held.{TanksLaid}
use Rattle.run_closing.specs.Closing.{added, taken, inflow_of, demands_summed}
use Rattle.tank_links.specs.Groups.{links_into, links_out_of}
use Rattle.tank_links.specs.Laid.{GroupLaid, GroupsLaid}
use Rattle.run_tables.proofs.Along.{along, chosen_along, chosen_cond, same_along, held_along, part_along}

-- ---- closing changes neither flows nor nodes
pub same_flow : (x : LinkState) (e : Node) (es : NodeState) (b : Node) (bs : NodeState) → (closed x e es b bs).flow ≡ x.flow
unfolding closed
same_flow x e es b bs = by (closes_into e.kind es x.flow || closes_out_of b.kind bs x.flow)
  where
    by : (c : Bool) → (cond c (record { flow = x.flow; status = TempClosed; setting = x.setting }) x).flow ≡ x.flow
    by true = refl
    by false = refl

pub flows_kept : (p : Project) (s : State) → map flow_of (close_links p s).links ≡ map flow_of s.links
unfolding close_links
flows_kept p s =
    kept (λ (v : State). map flow_of v.links) (link_closed p) s
    (λ i v. map-set_same flow_of v.links i _ blank_link_state (same_flow (link_state_at v i) _ _ _ _)) p.counts.links

pub nodes_kept : (p : Project) (s : State) → (close_links p s).nodes ≡ s.nodes
unfolding close_links
nodes_kept p s = kept (λ (v : State). v.nodes) (link_closed p) s (λ i v. refl) p.counts.links

-- ---- one tank
module _ (p : Project) (u : State) (flows : List Float) (same : flows ≡ map flow_of u.links) where
  flow_is : (l : ℕ) → get_or flows l nan ≡ (link_state_at u l).flow
  flow_is l = ap (λ (fs : List Float). get_or fs l nan) same ∙ get_or-map flow_of u.links l blank_link_state

  inflow_is : {begins middles links : List ℕ} {k : ℕ} (j : ℕ) → GroupLaid p begins middles links k j → inflow_of begins middles links flows k ≡ tank_inflow p u j
  unfolding added taken tank_inflow
  inflow_is {begins} {middles} {links} {k} j g =
      part_along g.out (λ l x. x ⊖ get_or flows l nan) _
      ∙ ap (along (links_out_of p j) (λ l x. x ⊖ get_or flows l nan)) (part_along g.into (λ l x. x ⊕ get_or flows l nan) (decimal 0 0) ∙ into)
      ∙ same_along (links_out_of p j) (λ l x. x ⊖ get_or flows l nan) (λ l x. x ⊖ (link_state_at u l).flow) _ (λ l x. ap (λ (f : Float). x ⊖ f) (flow_is l))
      ∙ sym (chosen_cond (λ l. eqb (link_at p l).start j) p.counts.links (λ l x. x ⊖ (link_state_at u l).flow) _)
    where
      into : along (links_into p j) (λ l x. x ⊕ get_or flows l nan) (decimal 0 0) ≡ through p.counts.links (flow_into p u j) (decimal 0 0)
      into =
          same_along (links_into p j) (λ l x. x ⊕ get_or flows l nan) (λ l x. x ⊕ (link_state_at u l).flow) _ (λ l x. ap (λ (f : Float). x ⊕ f) (flow_is l))
          ∙ sym (chosen_cond (λ l. eqb (link_at p l).end j) p.counts.links (λ l x. x ⊕ (link_state_at u l).flow) (decimal 0 0))

  -- a node that is no tank keeps its demand
  idle : (i : ℕ) (x : State) → is_tank (node_at p i) ≡ false → node_summed p u i x ≡ x
  unfolding summed
  idle i x e = rw e (ap (λ (ns : List NodeState). record { nodes = ns; links = x.links; clock = x.clock }) (set-get_or x.nodes i blank_node_state))

  summed_demand : (j : ℕ) (x : NodeState) → is_tank (node_at p j) ≡ true → (summed p u j x).demand ≡ tank_inflow p u j
  unfolding summed
  summed_demand j x e = rw e

tank_is : (p : Project) (j : ℕ) {t : tanks.Tank} → (node_at p j).kind ≡ Tank t → is_tank (node_at p j) ≡ true
tank_is p j e = rw e

-- ---- all of them
pub sum_demands_is :
    {p : Project} {nodes begins middles links : List ℕ} {numbers : List Float} {overflows : List ℕ} {n : ℕ}
    → TanksLaid p.nodes p.counts.nodes nodes numbers overflows n → GroupsLaid p nodes begins middles links n → (s : State)
    → demands_summed nodes begins middles links n (map flow_of s.links) (demands_of s) ≡ demands_of (update_tank_links p s)
unfolding demands_summed update_tank_links
sum_demands_is {p} {nodes} {begins} {middles} {links} {numbers} {overflows} {n} laid groups s =
    ap (through n flat) (ap (map demand_of) (sym (nodes_kept p s)))
    ∙ carried demands_of n flat (λ k. node_summed p u (get_or nodes k 0)) u turn
    ∙ ap demands_of
    (held_along (λ k. get_or nodes k 0) (tank_nodes p) (node_summed p u) u n laid.count laid.node
    ∙ sym (chosen_along (λ i. is_tank (node_at p i)) p.counts.nodes (node_summed p u) u (λ i x l e. idle p u flows (sym (flows_kept p s)) i x e)))
  where
    u : State
    u = close_links p s

    flows : List Float
    flows = map flow_of s.links

    flat : ℕ → List Float → List Float
    flat k ds = set ds (get_or nodes k 0) (inflow_of begins middles links flows k)

    turn : (k : ℕ) (x : State) → k < n → flat k (demands_of x) ≡ demands_of (node_summed p u (get_or nodes k 0) x)
    turn k x l =
        ap (set (demands_of x) j) (inflow_is p u flows (sym (flows_kept p s)) j (groups k l) ∙ sym (summed_demand p u flows (sym (flows_kept p s)) j (node_state_at x j) (tank_is p j (laid.tank k l))))
        ∙ sym (map_set demand_of x.nodes j _)
      where
        j : ℕ
        j = get_or nodes k 0
