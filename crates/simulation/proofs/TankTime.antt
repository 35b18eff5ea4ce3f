-- The tanks' candidate by the table of the tanks: `tank_time`. A node that is no tank has MAX, which changes no smallest. Assumes nothing.
use Prim.Native.Nat.{ℕ, min, ◌≤◌}
use mathlib.Core.Path.{◌≡◌, refl, sym, ap, ◌∙◌}
use mathlib.Core.Bool.{Bool, true, false, cond, true≢false}
use mathlib.Core.List.{List}
use native.Mathlib.Omega.{arith}
use lib.Ieee.{Float}
use lib.ListN.{get_or, get_or-map}
use Rattle.number.specs.Constants.{MAX}
use Rattle.number.specs.Operators.{◌⊖◌}
use Rattle.model.specs.Blank.{node_at, node_state_at, blank_node_state}
use Rattle.model.specs.Loops.{through}
use Rattle.model.specs.Nodes.{is_tank, is_tank_type}
use Rattle.model.specs.declared.node.NodeType.{NodeType}
use Rattle.model.specs.declared.node.NodeType.TheVariants.{Reservoir, Tank, Junction}
use Rattle.model.specs.declared.project.Project.{Project}
use Rattle.model.specs.declared.state.NodeState.{NodeState}
use Rattle.model.specs.declared.state.State.{State}
use Rattle.model.proofs.Pointwise.{same_turns, carried_keeping}
use Rattle.run_state.specs.Lists.{head_of, demand_of, heads_of, demands_of}
use Rattle.run_tables.specs.Held.{TanksLaid}
use Rattle.run_tables.specs.Rows.{tank_at}
use Rattle.run_tables.specs.Tanks.{tank_nodes}
use Rattle.run_tables.proofs.Along.{chosen_cond, held_along}
use Rattle.run_tanks.specs.Moving.{smaller_tank_of, tank_time_of}
use Rattle.state_node.specs.Tanks.{tank_candidate}
use Rattle.tank.specs.Tanks.{time_to_fill_or_drain}
use Rattle.tank.specs.declared.tank.Tank as tanks
use Rattle.simulation.specs.Steps.{smaller_tank, tank_time}

no_candidate : (k : NodeType) (x : NodeState) → is_tank_type k ≡ false → tank_candidate k x ≡ MAX
no_candidate (Reservoir r) x e = refl
no_candidate (Tank t) x e = absurd (true≢false e)
no_candidate (Junction j) x e = refl

candidate_is : (t : tanks.Tank) (k : NodeType) (x : NodeState) (head demand : Float) → k ≡ Tank t → head ≡ x.head → demand ≡ x.demand
    → time_to_fill_or_drain t (record { 0 = head ⊖ t.elevation.0 }) (record { 0 = demand }) ≡ tank_candidate k x
candidate_is t k x head demand e h d = rw (e, h, d)

-- only tanks need be visited
tanks_only : (p : Project) (s : State) → tank_time p s ≡ through p.counts.nodes (λ i smallest. cond (is_tank (node_at p i)) (smaller_tank p s i smallest) smallest) MAX
unfolding tank_time
tanks_only p s =
    carried_keeping (λ (x : ℕ). x) (λ (x : ℕ). x ≤ MAX) p.counts.nodes (smaller_tank p s) visited MAX (omega arith)
    (λ i x l m. keep (is_tank (node_at p i)) (tank_candidate (node_at p i).kind (node_state_at s i)) x m)
    (λ i x l m. turn (is_tank (node_at p i)) (tank_candidate (node_at p i).kind (node_state_at s i)) x m (λ e. no_candidate (node_at p i).kind (node_state_at s i) e))
  where
    visited : ℕ → ℕ → ℕ
    visited i smallest = cond (is_tank (node_at p i)) (smaller_tank p s i smallest) smallest

    keep : (b : Bool) (c x : ℕ) → x ≤ MAX → cond b (min c x) x ≤ MAX
    keep true c x m = omega arith
    keep false c x m = m

    turn : (b : Bool) (c x : ℕ) → x ≤ MAX → (b ≡ false → c ≡ MAX) → min c x ≡ cond b (min c x) x
    turn true c x m e = refl
    turn false c x m e = let q : c ≡ MAX = e refl in omega arith

pub tank_time_is :
    (p : Project) {nodes : List ℕ} {numbers : List Float} {overflows : List ℕ} {n : ℕ} → TanksLaid p.nodes p.counts.nodes nodes numbers overflows n
    → (s : State) → tank_time_of nodes numbers overflows n (heads_of s) (demands_of s) ≡ tank_time p s
unfolding tank_time_of
tank_time_is p {nodes} {numbers} {overflows} {n} laid s =
    same_turns n (smaller_tank_of nodes numbers overflows (heads_of s) (demands_of s)) (λ k. smaller_tank p s (get_or nodes k 0)) MAX
    (λ k x l.
    ap (λ (c : ℕ). min c x)
    (candidate_is (tank_at numbers overflows k) (node_at p (get_or nodes k 0)).kind (node_state_at s (get_or nodes k 0)) _ _ (laid.tank k l)
    (get_or-map head_of s.nodes (get_or nodes k 0) blank_node_state) (get_or-map demand_of s.nodes (get_or nodes k 0) blank_node_state)))
    ∙ held_along (λ k. get_or nodes k 0) (tank_nodes p) (smaller_tank p s) MAX n laid.count laid.node
    ∙ sym (tanks_only p s ∙ chosen_cond (λ i. is_tank (node_at p i)) p.counts.nodes (smaller_tank p s) MAX)

-- the same of what a caller has of each
pub tank_time_held :
    (p : Project) {nodes : List ℕ} {numbers : List Float} {overflows : List ℕ} {n : ℕ} → TanksLaid p.nodes p.counts.nodes nodes numbers overflows n
    → (s : State) {heads demands : List Float} {r : ℕ} → heads ≡ heads_of s → demands ≡ demands_of s → r ≡ tank_time_of nodes numbers overflows n heads demands
    → r ≡ tank_time p s
tank_time_held p laid s h d e = rw (e, d, h) (tank_time_is p laid s)
