-- The start of tables that fit is a state that fits: its entries are written one by one, over fillers that do not. Assumes nothing.
use mathlib.Core.Path.{◌≡◌, refl, sym, ap, ◌∙◌, subst}
use mathlib.Core.Bool.{Bool, true, false}
use mathlib.Core.List.{List}
use Prim.Native.Nat.{ℕ, suc, ◌^◌, ◌≤◌, ◌<◌}
use native.Mathlib.Omega.{arith}
use lib.Dec.{eqb}
use borrow.Author.Tests.{eqb-true, eqb-false}
use lib.ListN.{length, get_or, set, length-set, length-replicate}
use lib.Seq.{get_or-set_same, get_or-set_other}
use Rattle.model.specs.Blank.{blank_state, blank_node_state, blank_link_state, node_at, link_at, node_state_at, link_state_at, with_node, with_link}
use Rattle.model.specs.declared.project.Project.{Project}
use Rattle.model.specs.declared.state.LinkState.{LinkState}
use Rattle.model.specs.declared.state.NodeState.{NodeState}
use Rattle.model.specs.declared.state.State.{State}
use Rattle.model.proofs.Keeps.{keeps}
use Rattle.tables.specs.Fit.{TablesFit}
use Rattle.judge.specs.Fit.{NodeStateFit, LinkStateFit, StateFit}
use Rattle.state.specs.Start.{start_nodes, start_links, new_with_initial_values}
use Rattle.calls_sound.proofs.Numbers.{zero_within, initial_head_within, initial_flow_within, initial_setting_within}

-- entry k written, within the list
written : {A : Type 0} (P : A → Type 0) (l : List A) (k i : ℕ) (v d : A) → k < length l → P v → ((i ≡ k → ⊥) → P (get_or l i d)) → P (get_or (set l k v) i d)
written P l k i v d m new old = go (eqb i k) refl
  where
    go : (b : Bool) → eqb i k ≡ b → P (get_or (set l k v) i d)
    go true e = let q : i ≡ k = eqb-true i k e in subst P (sym (ap (λ (j : ℕ). get_or (set l k v) j d) q ∙ get_or-set_same l k v d m)) new
    go false e = subst P (sym (get_or-set_other l k i v d (eqb-false i k e))) (old (eqb-false i k e))

-- the first n nodes and k links have started
record Started (n k : ℕ) (s : State) : Type 0 where
  nodes : length s.nodes ≡ 256
  links : length s.links ≡ 384
  instant : s.clock.instant ≡ 0
  count : s.clock.count ≡ 0
  node : (j : ℕ) → j < n → NodeStateFit (node_state_at s j)
  link : (j : ℕ) → j < k → LinkStateFit (link_state_at s j)

before : (i j : ℕ) → j < suc i → (j ≡ i → ⊥) → j < i
before i j l d = omega arith

none : (j : ℕ) → j < 0 → ⊥
none j l = omega arith

node_started_lem : {n k : ℕ} {s : State} {x : NodeState} → n < 256 → NodeStateFit x → Started n k s → Started (suc n) k (with_node s n x)
node_started_lem {n} {k} {s} {x} m f o = record {
  nodes = length-set s.nodes n x ∙ o.nodes;
  links = o.links;
  instant = o.instant;
  count = o.count;
  node = λ j l. written NodeStateFit s.nodes n j x blank_node_state (rw o.nodes m) f (λ d. o.node j (before n j l d));
  link = o.link;
}

link_started_lem : {n k : ℕ} {s : State} {x : LinkState} → k < 384 → LinkStateFit x → Started n k s → Started n (suc k) (with_link s k x)
link_started_lem {n} {k} {s} {x} m f o = record {
  nodes = o.nodes;
  links = length-set s.links k x ∙ o.links;
  instant = o.instant;
  count = o.count;
  node = o.node;
  link = λ j l. written LinkStateFit s.links k j x blank_link_state (rw o.links m) f (λ d. o.link j (before k j l d));
}

blank_started : Started 0 0 blank_state
unfolding blank_state
blank_started = record {
  nodes = length-replicate 256 blank_node_state;
  links = length-replicate 384 blank_link_state;
  instant = refl;
  count = refl;
  node = λ j l. absurd (none j l);
  link = λ j l. absurd (none j l);
}

module _ {p : Project} (fit : TablesFit p) where
  all_started : Started p.counts.nodes p.counts.links (new_with_initial_values p)
  unfolding new_with_initial_values start_links start_nodes
  all_started =
      let few = fit.few.nodes in
      let few' = fit.few.links in
      keeps (λ i u. Started p.counts.nodes i u) _ _ p.counts.links
      (keeps (λ i u. Started i 0 u) _ blank_state p.counts.nodes blank_started
      (λ i u l r.
      node_started_lem (omega arith)
      (record { head = initial_head_within _ (node_at p i).kind (fit.node i l); demand = zero_within (10 ^ 20); demand_flow = zero_within (10 ^ 20) }) r))
      (λ i u l r.
      let k = fit.link i l in
      link_started_lem (omega arith) (record { flow = initial_flow_within k; status = k.status; setting = initial_setting_within (link_at p i).kind k.kind }) r)

  pub start_fits : StateFit p (new_with_initial_values p)
  start_fits = let o = all_started in
      record {
        instant = let z = o.instant in omega arith;
        count = let z = o.count in omega arith;
        node = o.node;
        link = o.link;
      }
