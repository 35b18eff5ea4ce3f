-- The test of a state passes exactly where its facts hold, both ways: record by record, and then of the whole state. Assumes nothing.
use mathlib.Core.Path.{◌≡◌, refl}
use mathlib.Core.Bool.{Bool, true, false, ◌&&◌}
use mathlib.Core.List.{List, [], ◌∷◌}
use Prim.Native.Nat.{ℕ, ◌^◌, ◌≤◌}
use lib.Dec.{T, lit≤, leb}
use lib.Ieee.{Float}
use lib.Ieee.Exact.{HasValue}
use borrow.Author.Tests.{leb-true, le-leb}
use Rattle.number.specs.Bounds.{Within}
use Rattle.number.specs.Constants.{decimal}
use Rattle.number.specs.Order.{within}
use Rattle.number.proofs.Bounds.{exact_whole, exact_20}
use Rattle.number.proofs.Range.{within_of_test, test_of_within}
use Rattle.model.specs.Blank.{node_state_at, link_state_at}
use Rattle.model.specs.declared.project.Project.{Project}
use Rattle.model.specs.declared.state.LinkState.{LinkState}
use Rattle.model.specs.declared.state.NodeState.{NodeState}
use Rattle.model.specs.declared.state.State.{State}
use Rattle.model.proofs.Loops.{held_at, all_below_lem}
use Rattle.table_ranges.specs.Ranges.{status_ok}
use Rattle.table_entry.proofs.Tests.{each}
use Rattle.judge.specs.Fit.{NodeStateFit, LinkStateFit, StateFit}
use Rattle.judge.specs.Judgement.{node_state_ok, link_state_ok, state_clock_ok, node_state_ok_at, node_states_ok, link_state_ok_at, link_states_ok, state_ok}

-- ---- the limits, as numbers
flow_limit : HasValue (decimal 1000000000000 0) false (10 ^ 12) 1
unfolding decimal
flow_limit = exact_whole (10 ^ 12) (lit≤ tt)

demand_limit : HasValue (decimal 100000000000000000000 0) false (10 ^ 20) 1
unfolding decimal
demand_limit = exact_20

setting_limit : HasValue (decimal 1000000 0) false (10 ^ 6) 1
unfolding decimal
setting_limit = exact_whole (10 ^ 6) (lit≤ tt)

-- ---- a test and its bound
is_true : {b : Bool} → b ≡ true → T b
is_true e = rw e tt

holds : (b : Bool) → T b → b ≡ true
holds true t = refl
holds false t = absurd t

bound : {n : ℕ} (limit x : Float) → HasValue limit false n 1 → within limit x ≡ true → Within x n
bound {n} limit x v e = within_of_test x limit n v (is_true e)

test : {n : ℕ} (limit x : Float) → HasValue limit false n 1 → Within x n → within limit x ≡ true
test {n} limit x v w = holds (within limit x) (test_of_within x limit n v w)

-- ---- a node's record
pub node_state_fit : (x : NodeState) → node_state_ok x ≡ true → NodeStateFit x
unfolding node_state_ok
node_state_fit x e =
    let h = each (within (decimal 1000000000000 0) x.head) (_ ∷ _ ∷ []) e in
    record {
      head = bound (decimal 1000000000000 0) x.head flow_limit (h 0);
      demand = bound (decimal 100000000000000000000 0) x.demand demand_limit (h 1);
      demand_flow = bound (decimal 100000000000000000000 0) x.demand_flow demand_limit (h 2);
    }

pub node_state_ok_lem : (x : NodeState) → NodeStateFit x → node_state_ok x ≡ true
unfolding node_state_ok
node_state_ok_lem x f =
    rw (test (decimal 1000000000000 0) x.head flow_limit f.head, test (decimal 100000000000000000000 0) x.demand demand_limit f.demand, test (decimal 100000000000000000000 0) x.demand_flow demand_limit f.demand_flow)

-- ---- a link's record
pub link_state_fit : (x : LinkState) → link_state_ok x ≡ true → LinkStateFit x
unfolding link_state_ok status_ok
link_state_fit x e =
    let h = each (within (decimal 1000000000000 0) x.flow) (_ ∷ _ ∷ []) e in
    record {
      flow = bound (decimal 1000000000000 0) x.flow flow_limit (h 0);
      status = leb-true x.status 9 (h 1);
      setting = bound (decimal 1000000 0) x.setting setting_limit (h 2);
    }

pub link_state_ok_lem : (x : LinkState) → LinkStateFit x → link_state_ok x ≡ true
unfolding link_state_ok status_ok
link_state_ok_lem x f =
    rw (test (decimal 1000000000000 0) x.flow flow_limit f.flow, le-leb x.status 9 f.status, test (decimal 1000000 0) x.setting setting_limit f.setting)

-- ---- the state
pub state_fit : (p : Project) (s : State) → state_ok p s ≡ true → StateFit p s
unfolding state_ok state_clock_ok node_states_ok link_states_ok
state_fit p s e =
    let h = each (leb s.clock.instant p.options.duration && leb s.clock.count s.clock.instant) (_ ∷ _ ∷ []) e in
    let c = each (leb s.clock.instant p.options.duration) (_ ∷ []) (h 0) in
    record {
      instant = leb-true s.clock.instant p.options.duration (c 0);
      count = leb-true s.clock.count s.clock.instant (c 1);
      node = λ i l. node_state_fit (node_state_at s i) (held_at p.counts.nodes (node_state_ok_at s) (h 1) i l);
      link = λ i l. link_state_fit (link_state_at s i) (held_at p.counts.links (link_state_ok_at s) (h 2) i l);
    }

pub state_ok_lem : (p : Project) (s : State) → StateFit p s → state_ok p s ≡ true
unfolding state_ok state_clock_ok node_states_ok link_states_ok
state_ok_lem p s f =
    rw (
      le-leb _ _ f.instant,
      le-leb _ _ f.count,
      all_below_lem p.counts.nodes (node_state_ok_at s) (λ i l. node_state_ok_lem (node_state_at s i) (f.node i l)),
      all_below_lem p.counts.links (link_state_ok_at s) (λ i l. link_state_ok_lem (link_state_at s i) (f.link i l)),
    )
