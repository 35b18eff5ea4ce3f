-- Closing by the tables of a project's tanks and of their links is `update_tank_links`. Assumes nothing.
use Prim.Native.Nat.{ℕ, suc, ◌+◌, ◌-◌, ◌≤◌, ◌<◌}
use mathlib.Core.Path.{◌≡◌, refl, sym, ap, ◌∙◌, subst}
use mathlib.Core.Bool.{Bool, true, false, cond, ◌||◌}
use mathlib.Core.List.{List, map}
use native.Mathlib.Omega.{arith}
use lib.Ieee.{Float}
use lib.ListN.{get_or, length, replicate}
use lib.Seq.{sets, map-set_same}
use Rattle.model.specs.Links.{TempClosed}
use Rattle.model.specs.Nodes.{is_tank}
use Rattle.model.specs.Blank.{node_at, node_state_at, link_state_at, blank_node_state, blank_link_state}
use Rattle.model.specs.declared.node.Node.{Node}
use Rattle.model.specs.declared.project.Project.{Project}
use Rattle.model.specs.declared.state.LinkState.{LinkState}
use Rattle.model.specs.declared.state.NodeState.{NodeState}
use Rattle.model.specs.declared.state.State.{State}
use Rattle.model.proofs.Loops.{kept}
use Rattle.tables.specs.Fit.{TablesFit}
use Rattle.state_node.specs.Inflow.{with_demand}
use Rattle.state_link.specs.Closing.{closes_into, closes_out_of, closed}
use Rattle.run_tables.specs.Chosen.{chosen}
use Rattle.run_tables.specs.Held.{Part, TanksLaid}
use Rattle.run_tables.proofs.Listed.{chosen_at}
use Rattle.run_tables.proofs.Inside.{laid_pushed}
use Rattle.run_state.specs.Lists.{head_of, demand_flow_of, setting_of, heads_of, demands_of, demand_flows_of, flows_of, statuses_of, settings_of, lists_of, NodesHold, LinksHold}
use Rattle.run_state.proofs.Apart.{same_state, links_made, lists_made}
use Rattle.tank_links.specs.Groups.{ends_at, starts_at, links_into, tank_count, tank_node, begin, joined, listed, is_laid_out}
use Rattle.tank_links.specs.Laid.{group_in, begin_in, middle_in, GroupLaid, GroupsLaid}
use Rattle.tank_links.proofs.Judging.{Stands, groups_stand, groups_fit, next_begin, laid_into_zeros, begins_are, middles_are, entries_are}
use Rattle.run_closing.specs.Closing.{PartInside, GroupInside, GroupsInside, links_closed, demands_summed}
use Rattle.solver.specs.ByTable.{lists_closed}
use Rattle.solver.specs.Closing.{link_closed, close_links, tank_inflow, summed, node_summed, update_tank_links}
use Rattle.solver.proofs.Closed.{close_links_is}
use Rattle.solver.proofs.Summed.{flows_kept, nodes_kept, sum_demands_is}

-- ---- a table that is the one laid out: the links of each tank, all of them inside
module _ {p : Project} (fit : TablesFit p) where
  part_inside : (test : ℕ → Bool) {links : List ℕ} {from n : ℕ} → Part links from n (chosen test p.counts.links) → from + n ≤ 768 → PartInside links from n
  part_inside test {links} h most = record {
    most = most;
    link = λ i l.
        let a = h.each i l in
        let b = (chosen_at test p.counts.links i (omega (arith, h.count))).low in
        omega (arith, a, b, fit.few.links);
  }

  group_inside : {begins middles links : List ℕ} → Stands p begins middles links → (k : ℕ) → k < tank_count p → GroupInside begins middles links k
  group_inside {begins} {middles} {links} there k h = record {
    first = omega (arith, first, second);
    second = omega (arith, second, last, next_begin p k);
    into = part_inside (ends_at p (tank_node p k)) g.into (omega (arith, first, second, next_begin p k, groups_fit p fit (suc k) h));
    out = part_inside (starts_at p (tank_node p k)) g.out (omega (arith, second, last, next_begin p k, groups_fit p fit (suc k) h));
  }
    where
      g : GroupLaid p begins middles links k (tank_node p k)
      g = groups_stand p there k h

      first : get_or begins k 0 ≡ begin p k
      first = there.first k (omega arith)

      second : get_or middles k 0 ≡ begin p k + length (links_into p (tank_node p k))
      second = there.second k h

      last : get_or begins (k + 1) 0 ≡ begin p (suc k)
      last = let z : k + 1 ≡ suc k = omega arith in ap (λ (m : ℕ). get_or begins m 0) z ∙ there.first (suc k) h

  module _ {nodes : List ℕ} {numbers : List Float} {overflows : List ℕ} {n : ℕ} (laid : TanksLaid p.nodes p.counts.nodes nodes numbers overflows n) where
    pub groups_inside : {begins middles links : List ℕ} → Stands p begins middles links → GroupsInside begins middles links n
    groups_inside there k l = group_inside there k (omega (arith, laid.count))

    pub groups_laid : {begins middles links : List ℕ} → Stands p begins middles links → GroupsLaid p nodes begins middles links n
    groups_laid {begins} {middles} {links} there k l =
        subst (GroupLaid p begins middles links k) (sym (laid.node k l)) (groups_stand p there k (omega (arith, laid.count)))

    -- what is laid out for a project's tanks is the table
    pub laid_is : (b m l : List ℕ) {begins middles links : List ℕ} → b ≡ replicate 257 0 → m ≡ replicate 256 0 → l ≡ replicate 768 0
        → begins ≡ sets b 0 (listed (begin_in p.links p.counts.links nodes) (suc n))
        → middles ≡ sets m 0 (listed (middle_in p.links p.counts.links nodes) n)
        → links ≡ sets l 0 (joined (group_in p.links p.counts.links nodes) n)
        → is_laid_out p begins middles links ≡ true
    laid_is b m l eb em el x y z =
        let h = laid_pushed laid in
        laid_into_zeros p fit eb em el (x ∙ ap (sets b 0) (begins_are p h)) (y ∙ ap (sets m 0) (middles_are p h)) (z ∙ ap (sets l 0) (entries_are p h))

-- ---- what closing leaves as it was
same_setting : (x : LinkState) (n : Node) (ns : NodeState) (b : Node) (bs : NodeState) → (closed x n ns b bs).setting ≡ x.setting
unfolding closed
same_setting x n ns b bs = by (closes_into n.kind ns x.flow || closes_out_of b.kind bs x.flow)
  where
    by : (c : Bool) → (cond c (record { flow = x.flow; status = TempClosed; setting = x.setting }) x).setting ≡ x.setting
    by true = refl
    by false = refl

summed_head : (p : Project) (u : State) (i : ℕ) (x : NodeState) → (summed p u i x).head ≡ x.head
unfolding summed
summed_head p u i x = by (is_tank (node_at p i))
  where
    by : (c : Bool) → (cond c (with_demand x (tank_inflow p u i)) x).head ≡ x.head
    by true = refl
    by false = refl

summed_flow : (p : Project) (u : State) (i : ℕ) (x : NodeState) → (summed p u i x).demand_flow ≡ x.demand_flow
unfolding summed
summed_flow p u i x = by (is_tank (node_at p i))
  where
    by : (c : Bool) → (cond c (with_demand x (tank_inflow p u i)) x).demand_flow ≡ x.demand_flow
    by true = refl
    by false = refl

module _ (p : Project) (s : State) where
  abbrev after : State
  after = update_tank_links p s

  settings_kept : settings_of after ≡ settings_of s
  unfolding update_tank_links close_links
  settings_kept =
      kept settings_of (node_summed p (close_links p s)) (close_links p s) (λ i v. refl) p.counts.nodes
      ∙ kept settings_of (link_closed p) s (λ i v. map-set_same setting_of v.links i _ blank_link_state (same_setting (link_state_at v i) _ _ _ _)) p.counts.links

  flows_same : flows_of after ≡ flows_of s
  unfolding update_tank_links
  flows_same = kept flows_of (node_summed p (close_links p s)) (close_links p s) (λ i v. refl) p.counts.nodes ∙ flows_kept p s

  statuses_same : statuses_of after ≡ statuses_of (close_links p s)
  unfolding update_tank_links
  statuses_same = kept statuses_of (node_summed p (close_links p s)) (close_links p s) (λ i v. refl) p.counts.nodes

  heads_kept : heads_of after ≡ heads_of s
  unfolding update_tank_links
  heads_kept =
      kept heads_of (node_summed p (close_links p s)) (close_links p s)
      (λ i v. map-set_same head_of v.nodes i _ blank_node_state (summed_head p (close_links p s) i (node_state_at v i))) p.counts.nodes
      ∙ ap (map head_of) (nodes_kept p s)

  demand_flows_kept : demand_flows_of after ≡ demand_flows_of s
  unfolding update_tank_links
  demand_flows_kept =
      kept demand_flows_of (node_summed p (close_links p s)) (close_links p s)
      (λ i v. map-set_same demand_flow_of v.nodes i _ blank_node_state (summed_flow p (close_links p s) i (node_state_at v i))) p.counts.nodes
      ∙ ap (map demand_flow_of) (nodes_kept p s)

  pub clock_kept : after.clock ≡ s.clock
  unfolding update_tank_links close_links
  clock_kept =
      kept (λ (v : State). v.clock) (node_summed p (close_links p s)) (close_links p s) (λ i v. refl) p.counts.nodes
      ∙ kept (λ (v : State). v.clock) (link_closed p) s (λ i v. refl) p.counts.links

-- ---- closing by the tables
module _ {p : Project} {nodes begins middles links : List ℕ} {numbers : List Float} {overflows : List ℕ} {n : ℕ}
    (fit : TablesFit p) (laid : TanksLaid p.nodes p.counts.nodes nodes numbers overflows n) (there : Stands p begins middles links)
    (s : State) (long : length s.links ≡ 384) where
  pub lists_closed_is : lists_closed nodes numbers overflows begins middles links n s ≡ lists_of (update_tank_links p s)
  lists_closed_is =
      lists_made
      (sym (heads_kept p s))
      (sum_demands_is laid (groups_laid fit laid there) s)
      (sym (demand_flows_kept p s))
      (links_made (sym (flows_same p s)) (close_links_is fit laid (groups_laid fit laid there) s long ∙ sym (statuses_same p s)) (sym (settings_kept p s)))
      (sym (clock_kept p s))

  pub closed_by_is : (r : State) → lists_of r ≡ lists_closed nodes numbers overflows begins middles links n s → r ≡ update_tank_links p s
  closed_by_is r q = same_state r (update_tank_links p s) (q ∙ lists_closed_is)
