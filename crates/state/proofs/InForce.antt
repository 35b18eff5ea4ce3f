-- At the period whose patterns are in force, applying patterns only empties the tanks' demands; applying them puts its period's in force, and what a turn does
-- beside the patterns leaves them so. Assumes nothing.
use Rattle.std.specs.Prelude.{None, Option, Some}
use Prim.Native.Nat.{ℕ, zero, suc, ◌+◌, ◌/◌, ◌≤◌, ◌<◌}
use mathlib.Core.Path.{◌≡◌, refl, sym, ap, ◌∙◌, subst}
use mathlib.Core.Bool.{Bool, true, false, cond, true≢false}
use mathlib.Core.List.{List}
use native.Mathlib.Nat.{div-zero, div-mul-le_self}
use native.Mathlib.Omega.{arith}
use lib.Dec.{eqb}
use lib.Ieee.{Float}
use lib.ListN.{get_or, length}
use borrow.Author.Tests.{eqb-true}
use Rattle.number.specs.Constants.{decimal}
use Rattle.model.specs.Blank.{node_at, node_state_at, with_node, blank_node_state}
use Rattle.model.specs.Loops.{through}
use Rattle.model.specs.Nodes.{is_tank, is_tank_type}
use Rattle.model.specs.Patterns.{period}
use Rattle.model.specs.declared.node.NodeType.{NodeType}
use Rattle.model.specs.declared.node.NodeType.TheVariants.{Reservoir, Tank, Junction}
use Rattle.model.specs.declared.options.Options.{Options}
use Rattle.model.specs.declared.project.Project.{Project}
use Rattle.model.specs.declared.state.NodeState.{NodeState}
use Rattle.model.specs.declared.state.State.{State}
use Rattle.model.proofs.Each.{changed, below}
use Rattle.model.proofs.Keeps.{keeps, set_keeps}
use Rattle.model.proofs.Pointwise.{carried, carried_keeping}
use Rattle.run_periods.specs.Applying.{Written, Inputs, filled, emptied, patterns_applied}
use Rattle.run_state.specs.Lists.{heads_of, demands_of, demand_flows_of}
use Rattle.run_tables.specs.Held.{TanksLaid}
use Rattle.run_tanks.specs.Emptying.{tanks_emptied}
use Rattle.state_node.specs.Inflow as inflow
use Rattle.state_node.specs.Tanks.{moved}
use Rattle.state_patterns.specs.Patterns.{reservoir_head, pattern_head, pattern_demand, patterned}
use Rattle.state.specs.Controls.{apply_controls}
use Rattle.state.specs.Inflow.{tank_emptied, empty_tanks}
use Rattle.state.specs.Patterns.{multiplier_of, node_patterned, apply_patterns}
use Rattle.state.specs.Tanks.{update_tanks}
use Rattle.state.proofs.Emptied.{empty_tanks_is, emptied_heads, emptied_flows}
use Rattle.state.proofs.Controlled.{controls_keep_nodes}
use Rattle.state.proofs.Patterned.{period_of, InputsLaid, Holds, filled_is}

-- the demand of a node that is no tank, the head of a reservoir with a pattern, and under PDA the demand flow of every node, are those of a period
pub record Forced (p : Project) (t i : ℕ) (x : NodeState) : Type 0 where
  pub demand : is_tank (node_at p i) ≡ false → x.demand ≡ pattern_demand (multiplier_of p t) p.options.default_pattern p.options.demand_multiplier (node_at p i).kind
  pub head : pattern_head (multiplier_of p t) (node_at p i).kind x.head ≡ x.head
  pub flow : p.options.pda ≡ true → x.demand_flow ≡ pattern_demand (multiplier_of p t) p.options.default_pattern p.options.demand_multiplier (node_at p i).kind

-- at every node of a state
pub record InForce (p : Project) (t : ℕ) (s : State) : Type 0 where
  pub node : (i : ℕ) → i < p.counts.nodes → Forced p t i (node_state_at s i)

-- ---- what keeps it
-- another entry at one node
pub node_force : {p : Project} {t : ℕ} (s : State) (k : ℕ) (x : NodeState) → InForce p t s → (k < p.counts.nodes → Forced p t k x) → InForce p t (with_node s k x)
node_force {p} {t} s k x q new = record {
  node = λ i l. set_keeps (Forced p t i) s.nodes k i x blank_node_state (λ e. subst (λ (j : ℕ). Forced p t j x) (sym e) (new (omega (arith, l, e)))) (q.node i l);
}

-- the same nodes
pub nodes_force : {p : Project} {t : ℕ} (s u : State) → u.nodes ≡ s.nodes → InForce p t s → InForce p t u
nodes_force {p} {t} s u e q = record { node = λ i l. subst (λ (xs : List NodeState). Forced p t i (get_or xs i blank_node_state)) (sym e) (q.node i l) }

-- a pass over the nodes, each turn at its own
pub pass_force : {p : Project} {t : ℕ} (f : ℕ → NodeState → NodeState) (s : State) → ((i : ℕ) (x : NodeState) → Forced p t i x → Forced p t i (f i x)) → InForce p t s
    → InForce p t (through p.counts.nodes (λ i u. with_node u i (f i (node_state_at u i))) s)
pass_force {p} {t} f s h q =
    keeps (λ i u. InForce p t u) (λ i u. with_node u i (f i (node_state_at u i))) s p.counts.nodes q
    (λ i u l w. node_force u i _ w (λ k. h i (node_state_at u i) (w.node i k)))

-- another demand at a tank
pub demand_forced : {p : Project} {t i : ℕ} (x : NodeState) (d : Float) → is_tank (node_at p i) ≡ true → Forced p t i x → Forced p t i (inflow.with_demand x d)
demand_forced x d e q = record { demand = λ w. absurd (true≢false (sym e ∙ w)); head = q.head; flow = q.flow }

pub tank_forced : {p : Project} {t i : ℕ} (x : NodeState) (d : Float) → Forced p t i x → Forced p t i (cond (is_tank (node_at p i)) (inflow.with_demand x d) x)
tank_forced {p} {t} {i} x d q = by (is_tank (node_at p i)) refl
  where
    by : (b : Bool) → is_tank (node_at p i) ≡ b → Forced p t i (cond b (inflow.with_demand x d) x)
    by true e = demand_forced x d e q
    by false e = q

-- controls touch no node
pub controls_force : {p : Project} {t : ℕ} (s : State) → InForce p t s → InForce p t (apply_controls p s)
controls_force {p} s q = nodes_force s (apply_controls p s) (controls_keep_nodes p s) q

-- moving only the tanks' heads
moved_forced : {p : Project} {t i : ℕ} (seconds : ℕ) (x : NodeState) (k : NodeType) → (node_at p i).kind ≡ k → Forced p t i x → Forced p t i (moved k x seconds)
moved_forced seconds x (Reservoir r) e q = q
moved_forced seconds x (Tank t) e q = record { demand = q.demand; head = rw e; flow = q.flow }
moved_forced seconds x (Junction j) e q = q

pub moving_force : {p : Project} {t : ℕ} (s : State) (seconds : ℕ) → InForce p t s → InForce p t (update_tanks p s seconds)
unfolding update_tanks
moving_force {p} {t} s seconds q = pass_force (λ i x. moved (node_at p i).kind x seconds) s (λ i x w. moved_forced seconds x (node_at p i).kind refl w) q

-- ---- again at the same period
same_node : (x : NodeState) {h d f : Float} → h ≡ x.head → d ≡ x.demand → f ≡ x.demand_flow → record { head = h; demand = d; demand_flow = f } ≡ x
same_node x a b c = rw (a, b, c)

flow_stays : (pda : Bool) (demand flow : Float) → (pda ≡ true → flow ≡ demand) → cond pda demand flow ≡ flow
flow_stays true demand flow h = sym (h refl)
flow_stays false demand flow h = refl

again : (m : Option ℕ → Float) (o : Options) (k : NodeType) (x : NodeState)
    → (is_tank_type k ≡ false → x.demand ≡ pattern_demand m o.default_pattern o.demand_multiplier k)
    → pattern_head m k x.head ≡ x.head
    → (o.pda ≡ true → x.demand_flow ≡ pattern_demand m o.default_pattern o.demand_multiplier k)
    → patterned m o (record { kind = k }) x ≡ inflow.emptied (record { kind = k }) x
unfolding patterned inflow.emptied
again m o (Reservoir r) x d h f = same_node x h (sym (d refl)) (flow_stays o.pda _ _ f)
again m o (Tank t) x d h f = same_node (inflow.with_demand x (decimal 0 0)) h refl (flow_stays o.pda _ _ f)
again m o (Junction j) x d h f = same_node x h (sym (d refl)) (flow_stays o.pda _ _ f)

empty_forced : {p : Project} {t i : ℕ} (x : NodeState) → Forced p t i x → Forced p t i (inflow.emptied (node_at p i) x)
unfolding inflow.emptied
empty_forced x q = tank_forced x (decimal 0 0) q

pub apply_patterns_again : {p : Project} (s : State) → InForce p (period_of p s) s → apply_patterns p s ≡ empty_tanks p s
unfolding apply_patterns empty_tanks
apply_patterns_again {p} s force =
    carried_keeping (λ (x : State). x) (InForce p (period_of p s)) p.counts.nodes (node_patterned p (multiplier_of p (period_of p s))) (tank_emptied p) s force
    (λ k x l q. node_force x k _ q (λ w. empty_forced (node_state_at x k) (q.node k l)))
    (λ k x l q. let w = q.node k l in ap (with_node x k) (again (multiplier_of p (period_of p s)) p.options (node_at p k).kind (node_state_at x k) w.demand w.head w.flow))

-- ---- in force after it
reservoir_twice : (m : Option ℕ → Float) (q : Option ℕ) (e h : Float) → reservoir_head m q e (reservoir_head m q e h) ≡ reservoir_head m q e h
reservoir_twice m None e h = refl
reservoir_twice m (Some k) e h = refl

head_twice : (m : Option ℕ → Float) (k : NodeType) (h : Float) → pattern_head m k (pattern_head m k h) ≡ pattern_head m k h
head_twice m (Reservoir r) h = reservoir_twice m r.head_pattern r.elevation h
head_twice m (Tank t) h = refl
head_twice m (Junction j) h = refl

patterned_forced : (p : Project) (t i : ℕ) (x : NodeState) → Forced p t i (patterned (multiplier_of p t) p.options (node_at p i) x)
unfolding patterned
patterned_forced p t i x = record { demand = λ e. refl; head = head_twice (multiplier_of p t) (node_at p i).kind x.head; flow = λ e. rw e }

pub in_force_after : (p : Project) (s : State) → p.counts.nodes ≤ length s.nodes → InForce p (period_of p s) (apply_patterns p s)
unfolding apply_patterns
in_force_after p s room = record { node = λ i l. subst (Forced p t i) (sym (at i l)) (patterned_forced p t i (node_state_at s i)) }
  where
    t : ℕ
    t = period_of p s

    put : ℕ → NodeState → NodeState
    put k = patterned (multiplier_of p t) p.options (node_at p k)

    at : (i : ℕ) → i < p.counts.nodes → node_state_at (through p.counts.nodes (node_patterned p (multiplier_of p t)) s) i ≡ put i (node_state_at s i)
    at i l =
        ap (λ (xs : List NodeState). get_or xs i blank_node_state)
        (sym (carried (λ (v : State). v.nodes) p.counts.nodes (changed put blank_node_state) (node_patterned p (multiplier_of p t)) s (λ k x h. refl)))
        ∙ below put blank_node_state s.nodes p.counts.nodes i l room

-- a run begins with the greatest u64 in force, which is no period
period_most : (a k : ℕ) → a / k ≤ a
period_most a zero = omega (arith, div-zero a)
period_most a (suc k) = omega (arith, div-mul-le_self a (suc k))

pub none_in_force : (p : Project) (s : State) → p.options.pattern_start + s.clock.instant < 18446744073709551615 → period_of p s ≡ 18446744073709551615 → ⊥
none_in_force p s h e = omega (arith, h, e, period_most (p.options.pattern_start + s.clock.instant) p.options.pattern)

-- ---- all of it: anew, or at the period in force the tanks alone
pub apply_patterns_is :
    {p : Project} {t : Inputs} {tanks : List ℕ} {numbers : List Float} {overflows : List ℕ} {tank-count : ℕ} (s : State) (w : Written)
    → InputsLaid p t → TanksLaid p.nodes p.counts.nodes tanks numbers overflows tank-count → Holds s w → length w.table ≡ 33 → p.counts.nodes ≤ length s.nodes
    → (in-force : ℕ) → (period_of p s ≡ in-force → InForce p (period_of p s) s)
    → Holds (apply_patterns p s) (patterns_applied t tanks tank-count in-force s.clock.instant w)
unfolding patterns_applied
apply_patterns_is {p} {t} {tanks} {numbers} {overflows} {tank-count} s w laid there h long room in-force force = by (eqb now in-force) refl
  where
    now : ℕ
    now = period t.start t.timestep s.clock.instant

    same : period_of p s ≡ now
    same =
        ap (λ (k : ℕ). period p.options.pattern_start k s.clock.instant) (sym laid.timestep)
        ∙ ap (λ (k : ℕ). period k t.timestep s.clock.instant) (sym laid.start)

    done : InForce p (period_of p s) s → Holds (apply_patterns p s) (emptied tanks tank-count w)
    done q =
        let e = apply_patterns_again s q in
        record {
          head = ap heads_of e ∙ emptied_heads p s ∙ h.head;
          demand = ap demands_of e ∙ sym (empty_tanks_is p there s) ∙ ap (tanks_emptied tanks tank-count) h.demand;
          demand_flow = ap demand_flows_of e ∙ emptied_flows p s ∙ h.demand_flow;
        }

    by : (b : Bool) → eqb now in-force ≡ b → Holds (apply_patterns p s) (cond b (emptied tanks tank-count w) (filled t s.clock.instant w))
    by true e = done (force (same ∙ eqb-true now in-force e))
    by false e = filled_is s w laid h long room
