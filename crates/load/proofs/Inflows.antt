-- The pass over the links, which sums each flow into the tank at its end and out of the one at its start, leaves at each tank its net inflow: the
-- demands of `take_load`, the same bits. Entry by entry, the pass at one node is the definition's sum. Assumes nothing.
use Prim.Native.Nat.{ℕ, ◌≤◌, ◌<◌}
use mathlib.Core.Path.{◌≡◌, refl, sym, ap, ◌∙◌}
use mathlib.Core.Bool.{Bool, true, false, cond}
use mathlib.Core.List.{List}
use native.Mathlib.Omega.{arith}
use lib.Dec.{eqb, ltb}
use lib.Ieee.{Float, nan}
use lib.ListN.{length, get_or, length-set, length-map, get_or-map}
use lib.Seq.{ext_get_or}
use borrow.Author.Tests.{eqb-true, ne_eqb, ltb-false}
use Rattle.number.specs.Constants.{decimal}
use Rattle.number.specs.Operators.{◌⊕◌, ◌⊖◌}
use Rattle.model.specs.Blank.{node_at, link_at, link_state_at, blank_node_state, blank_link_state}
use Rattle.model.specs.Loops.{through}
use Rattle.model.specs.Nodes.{is_tank, is_tank_type, is_junction_type}
use Rattle.model.specs.declared.node.NodeType.{NodeType}
use Rattle.model.specs.declared.node.NodeType.TheVariants.{Reservoir, Tank, Junction}
use Rattle.model.specs.declared.project.Project.{Project}
use Rattle.model.specs.declared.state.NodeState.{NodeState}
use Rattle.model.specs.declared.state.State.{State}
use Rattle.model.proofs.Pointwise.{same_turns, idle, put_at, put_at_lem, kept_length, at_entry, each_at, nodes_only}
use Rattle.run_load_tables.specs.Laid.{EndsLaid, MarksLaid}
use Rattle.run_loads.specs.Taking.{flows_taken, flow_summed, inflows_summed}
use Rattle.run_state.specs.Lists.{demand_of, demands_of, flow_of, flows_of}
use Rattle.run_tables.specs.Held.{TanksLaid}
use Rattle.run_tanks.specs.Emptying.{tanks_emptied}
use Rattle.state_node.specs.Inflow.{with_demand, emptied}
use Rattle.state.specs.Inflow.{tank_emptied, empty_tanks}
use Rattle.state.proofs.Emptied.{empty_tanks_is}
use Rattle.tables.specs.Fit.{TablesFit}
use Rattle.load.specs.Loads.{load_flows, loaded_head, link_flow, net_inflow, loaded_node, node_loaded, take_load}
use Rattle.load.proofs.Loaded.{flows_keep_nodes, flows_are}

-- a turn of the pass, from what the arrays give
flow_turn : (starts ends tanks : List ℕ) (flows : List Float) (k : ℕ) (ds : List Float) (e b : ℕ) (x : Float) (te tb : Bool)
    → get_or ends k 0 ≡ e → get_or starts k 0 ≡ b → get_or flows k nan ≡ x → get_or tanks e 0 ≡ cond te 1 0 → get_or tanks b 0 ≡ cond tb 1 0
    → flow_summed starts ends tanks flows k ds ≡ put_at nan b (λ d. cond tb (d ⊖ x) d) (put_at nan e (λ d. cond te (d ⊕ x) d) ds)
flow_turn starts ends tanks flows k ds e b x true true qe qb qx qte qtb = rw (qe, qb, qx, qte, qtb)
flow_turn starts ends tanks flows k ds e b x true false qe qb qx qte qtb = rw (qe, qb, qx, qte, qtb)
flow_turn starts ends tanks flows k ds e b x false true qe qb qx qte qtb = rw (qe, qb, qx, qte, qtb)
flow_turn starts ends tanks flows k ds e b x false false qe qb qx qte qtb = rw (qe, qb, qx, qte, qtb)

loaded_demand : (k : NodeType) (x : NodeState) (d v : Float)
    → (cond (is_tank_type k) (with_demand x d) (cond (is_junction_type k) (record { head = v; demand = x.demand; demand_flow = x.demand_flow }) x)).demand ≡ cond (is_tank_type k) d x.demand
loaded_demand (Reservoir r) x d v = refl
loaded_demand (Tank t) x d v = refl
loaded_demand (Junction j) x d v = refl

emptied_demand : (b : Bool) (x : NodeState) → (cond b (with_demand x (decimal 0 0)) x).demand ≡ cond b (decimal 0 0) x.demand
emptied_demand true x = refl
emptied_demand false x = refl

chosen_demand : (b : Bool) (x y : NodeState) → (cond b x y).demand ≡ cond b x.demand y.demand
chosen_demand true x y = refl
chosen_demand false x y = refl

module _ {p : Project} (fit : TablesFit p) (words : List ℕ) (s : State) (long : length s.nodes ≡ 256) where
  abbrev N : ℕ
  N = p.counts.nodes

  abbrev L : ℕ
  L = p.counts.links

  abbrev u : State
  u = load_flows p words s

  abbrev flow : ℕ → Float
  flow k = (link_state_at u k).flow

  abbrev end : ℕ → ℕ
  end k = (link_at p k).end

  abbrev start : ℕ → ℕ
  start k = (link_at p k).start

  abbrev tank : ℕ → Bool
  tank i = is_tank (node_at p i)

  abbrev x : ℕ → NodeState
  x j = get_or s.nodes j blank_node_state

  -- the pass, on the demands with the tanks' from 0
  abbrev gain : ℕ → Float → Float
  gain k d = cond (tank (end k)) (d ⊕ flow k) d

  abbrev lose : ℕ → Float → Float
  lose k d = cond (tank (start k)) (d ⊖ flow k) d

  abbrev turn : ℕ → List Float → List Float
  turn k ds = put_at nan (start k) (lose k) (put_at nan (end k) (gain k) ds)

  abbrev empty : List Float
  empty = demands_of (empty_tanks p s)

  both_lengths : (k : ℕ) (ds : List Float) → length (turn k ds) ≡ length ds
  both_lengths k ds = length-set (put_at nan (end k) (gain k) ds) (start k) _ ∙ length-set ds (end k) _

  abbrev empty_all : ℕ → List NodeState → List NodeState
  empty_all i = put_at blank_node_state i (emptied (node_at p i))

  abbrev load_all : ℕ → List NodeState → List NodeState
  load_all i = put_at blank_node_state i (loaded_node p words u i)

  empty_nodes : (empty_tanks p s).nodes ≡ through N empty_all s.nodes
  unfolding empty_tanks
  empty_nodes = ap (λ (v : State). v.nodes) (nodes_only N (tank_emptied p) empty_all s (λ k xs. refl) s.nodes)

  load_nodes : (take_load p words s).nodes ≡ through N load_all s.nodes
  unfolding take_load
  load_nodes =
      ap (λ (v : State). v.nodes) (nodes_only N (node_loaded p words u) load_all u (λ k xs. refl) u.nodes) ∙ ap (through N load_all) (flows_keep_nodes p words s)

  empty_length : length empty ≡ 256
  empty_length = length-map (empty_tanks p s).nodes demand_of ∙ ap length empty_nodes ∙ kept_length blank_node_state N empty_all (λ k xs. length-set xs k _) s.nodes ∙ long

  load_length : length (demands_of (take_load p words s)) ≡ 256
  load_length = length-map (take_load p words s).nodes demand_of ∙ ap length load_nodes ∙ kept_length blank_node_state N load_all (λ k xs. length-set xs k _) s.nodes ∙ long

  -- ---- at node j
  module _ (j : ℕ) where
    empty_at : get_or empty j nan ≡ cond (ltb j N) (cond (tank j) (decimal 0 0) (x j).demand) (x j).demand
    unfolding emptied
    empty_at =
        get_or-map demand_of (empty_tanks p s).nodes j blank_node_state
        ∙ ap (λ (ns : List NodeState). (get_or ns j blank_node_state).demand) empty_nodes
        ∙ ap demand_of (each_at blank_node_state N (λ i. emptied (node_at p i)) s.nodes (omega (arith, fit.few.nodes)) j)
        ∙ chosen_demand (ltb j N) (emptied (node_at p j) (x j)) (x j)
        ∙ ap (λ (d : Float). cond (ltb j N) d (x j).demand) (emptied_demand (tank j) (x j))

    load_at : get_or (demands_of (take_load p words s)) j nan ≡ cond (ltb j N) (cond (tank j) (net_inflow p u j) (x j).demand) (x j).demand
    unfolding loaded_node loaded_head
    load_at =
        get_or-map demand_of (take_load p words s).nodes j blank_node_state
        ∙ ap (λ (ns : List NodeState). (get_or ns j blank_node_state).demand) load_nodes
        ∙ ap demand_of (each_at blank_node_state N (loaded_node p words u) s.nodes (omega (arith, fit.few.nodes)) j)
        ∙ chosen_demand (ltb j N) (loaded_node p words u j (x j)) (x j)
        ∙ ap (λ (d : Float). cond (ltb j N) d (x j).demand) (loaded_demand (node_at p j).kind (x j) (net_inflow p u j) _)

    abbrev into : ℕ → Float → Float
    into k d = cond (eqb (end k) j) (gain k d) d

    abbrev out_of : ℕ → Float → Float
    out_of k d = cond (eqb (start k) j) (lose k d) d

    abbrev both : ℕ → Float → Float
    both k d = out_of k (into k d)

    turn_at : (k : ℕ) (ds : List Float) → k < L → length ds ≡ length empty → get_or (turn k ds) j nan ≡ both k (get_or ds j nan)
    turn_at k ds l e =
        put_at_lem nan (put_at nan (end k) (gain k) ds) (start k) j (lose k) (omega (arith, e, empty_length, fit.few.nodes, (fit.link k l).start, length-set ds (end k) (gain k (get_or ds (end k) nan))))
        ∙ ap (out_of k) (put_at_lem nan ds (end k) j (gain k) (omega (arith, e, empty_length, fit.few.nodes, (fit.link k l).end)))

    sum_at : get_or (through L turn empty) j nan ≡ through L both (get_or empty j nan)
    sum_at = at_entry nan L turn both j both_lengths empty turn_at

    -- at a tank: the two ends of a link are not both at it
    tank_turn : tank j ≡ true → (k : ℕ) (d : Float) → k < L → both k d ≡ link_flow p u j k d
    tank_turn t k d l = go (eqb (end k) j) refl (eqb (start k) j) refl
      where
        go : (a : Bool) → eqb (end k) j ≡ a → (b : Bool) → eqb (start k) j ≡ b
            → cond b (lose k (cond a (gain k d) d)) (cond a (gain k d) d) ≡ cond a (d ⊕ flow k) (cond b (d ⊖ flow k) d)
        go true e true f = absurd ((fit.link k l).apart (eqb-true (start k) j f ∙ sym (eqb-true (end k) j e)))
        go true e false f = ap (λ (c : Bool). cond c (d ⊕ flow k) d) (ap tank (eqb-true (end k) j e) ∙ t)
        go false e true f = ap (λ (c : Bool). cond c (d ⊖ flow k) d) (ap tank (eqb-true (start k) j f) ∙ t)
        go false e false f = refl

    -- at another node nothing is summed
    still : (i : ℕ) (y d : Float) → tank j ≡ false → cond (eqb i j) (cond (tank i) y d) d ≡ d
    still i y d t = go (eqb i j) refl
      where
        go : (a : Bool) → eqb i j ≡ a → cond a (cond (tank i) y d) d ≡ d
        go true e = ap (λ (c : Bool). cond c y d) (ap tank (eqb-true i j e) ∙ t)
        go false e = refl

    other_turn : tank j ≡ false → (d : Float) (k : ℕ) → k < L → both k d ≡ d
    other_turn t d k l = ap (out_of k) (still (end k) (d ⊕ flow k) d t) ∙ still (start k) (d ⊖ flow k) d t

    -- nor past the nodes
    past_turn : N ≤ j → (d : Float) (k : ℕ) → k < L → both k d ≡ d
    past_turn m d k l = rw (ne_eqb (end k) j (λ q. omega (arith, q, m, (fit.link k l).end)), ne_eqb (start k) j (λ q. omega (arith, q, m, (fit.link k l).start)))

    by_tank : (b : Bool) → tank j ≡ b → through L both (cond b (decimal 0 0) (x j).demand) ≡ cond b (net_inflow p u j) (x j).demand
    unfolding net_inflow
    by_tank true t = same_turns L both (link_flow p u j) (decimal 0 0) (λ k d l. tank_turn t k d l)
    by_tank false t = idle L both (x j).demand (other_turn t (x j).demand)

    by_count : (b : Bool) → ltb j N ≡ b
        → through L both (cond b (cond (tank j) (decimal 0 0) (x j).demand) (x j).demand) ≡ cond b (cond (tank j) (net_inflow p u j) (x j).demand) (x j).demand
    by_count true e = by_tank (tank j) refl
    by_count false e = idle L both (x j).demand (past_turn (ltb-false j N e) (x j).demand)

    same_at : get_or (through L turn empty) j nan ≡ get_or (demands_of (take_load p words s)) j nan
    same_at = sum_at ∙ ap (through L both) empty_at ∙ by_count (ltb j N) refl ∙ sym load_at

  sums_are : through L turn empty ≡ demands_of (take_load p words s)
  sums_are =
      ext_get_or nan (through L turn empty) (demands_of (take_load p words s)) (kept_length nan L turn both_lengths empty ∙ empty_length ∙ sym load_length) (λ j l. same_at j)

  -- for any arrays that hold the ends of the links, the tanks and which nodes are tanks
  pub sum_inflows_is : {starts ends tanks nodes : List ℕ} {numbers : List Float} {overflows : List ℕ} {n : ℕ}
      → EndsLaid p.links L starts ends → MarksLaid p.nodes N tanks → TanksLaid p.nodes N nodes numbers overflows n
      → inflows_summed starts ends tanks (flows_taken words L (flows_of s)) L (tanks_emptied nodes n (demands_of s)) ≡ demands_of (take_load p words s)
  unfolding inflows_summed
  sum_inflows_is {starts} {ends} {tanks} {nodes} {numbers} {overflows} {n} laid marks tables =
      ap (λ (fs : List Float). through L (flow_summed starts ends tanks fs) (tanks_emptied nodes n (demands_of s))) (flows_are p words s)
      ∙ ap (through L (flow_summed starts ends tanks (flows_of u))) (empty_tanks_is p tables s)
      ∙ same_turns L (flow_summed starts ends tanks (flows_of u)) turn empty one
      ∙ sums_are
    where
      one : (k : ℕ) (ds : List Float) → k < L → flow_summed starts ends tanks (flows_of u) k ds ≡ turn k ds
      one k ds l =
          flow_turn starts ends tanks (flows_of u) k ds (end k) (start k) (flow k) (tank (end k)) (tank (start k)) (laid.end k l) (laid.start k l)
          (get_or-map flow_of u.links k blank_link_state) (marks.mark (end k) (fit.link k l).end) (marks.mark (start k) (fit.link k l).start)
