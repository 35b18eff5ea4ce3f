-- The sizes of what the calls work out from tables that fit. Assumes nothing.
use Rattle.std.specs.Prelude.{None, Option, Some}
use mathlib.Core.Path.{◌≡◌, refl, sym, ap, ◌∙◌, subst}
use mathlib.Core.Bool.{Bool, true, false, ◌||◌, cond}
use mathlib.Core.List.{List}
use Prim.Native.Nat.{ℕ, ◌+◌, ◌*◌, ◌%◌, ◌^◌, ◌≤◌, ◌<◌, min, zero-le}
use native.Mathlib.Nat.{mod-lt, zero-mul}
use native.Mathlib.Omega.{arith}
use lib.Dec.{eqb, ltb, lit≤}
use borrow.Author.Tests.{eqb-true, eqb-false}
use lib.ListN.{length, get_or, take, drop, length-take}
use lib.Seq.{get_or-take, get_or-drop}
use lib.Ieee.{Float, nan, binary64, add, sub, mul, round}
use Rattle.number.specs.Bounds.{Within}
use Rattle.number.specs.Constants.{decimal, q_zero, PI}
use Rattle.number.specs.Operators.{◌·◌, ◌⊕◌, ◌⊖◌}
use Rattle.number.proofs.Bounds.{Exact, exact_whole, exact_scaled, within_mono, within_add, within_mul, within_cond}
use Rattle.model.specs.Links.{open_flow, initial_flow, initial_setting_of}
use Rattle.model.specs.Nodes.{initial_head_of}
use Rattle.model.specs.Patterns.{multiplier_at, pattern_at}
use Rattle.model.specs.declared.link.Link.{Link}
use Rattle.model.specs.declared.link.LinkType.{LinkType}
use Rattle.model.specs.declared.link.LinkType.TheVariants.{Pipe, Pump, Valve}
use Rattle.model.specs.declared.node.Demand.{Demand}
use Rattle.model.specs.declared.node.Demands.{Demands}
use Rattle.model.specs.declared.node.Demands.TheVariants.{NoDemand, One, Two, Three, Four}
use Rattle.model.specs.declared.node.NodeType.{NodeType}
use Rattle.model.specs.declared.node.NodeType.TheVariants.{Reservoir, Tank, Junction}
use Rattle.model.specs.declared.project.Project.{Project}
use Rattle.tables.specs.Fit.{PatternIndexFit, DemandFit, DemandsFit, NodeFit, LinkTypeFit, LinkFit, TablesFit}
use Rattle.state.specs.Patterns.{multiplier_of}
use Rattle.state_patterns.specs.Patterns.{or_default, demand_of, sum_of, junction_demand, reservoir_head, pattern_head, pattern_demand}

pub zero_within : (n : ℕ) → Within (decimal 0 0) n
unfolding decimal
zero_within n = record { is_finite = tt; size = subst (λ (z : ℕ). z ≤ n * 1) (sym (zero-mul 1)) zero-le }

one_within : Within (decimal 1 0) (10 ^ 6)
unfolding decimal
one_within = record { is_finite = tt; size = lit≤ tt }

no_flow_within : Within q_zero (10 ^ 12)
unfolding decimal
no_flow_within = record { is_finite = tt; size = lit≤ tt }

quarter_within : Within (decimal 25 2 · PI) 1
unfolding decimal mul
quarter_within = record { is_finite = tt; size = lit≤ tt }

exact_12 : Exact (10 ^ 12) 1
exact_12 = exact_whole (10 ^ 12) (lit≤ tt)

-- ---- where nodes and links start
pub initial_head_within : (patterns : ℕ) (k : NodeType) → NodeFit patterns k → Within (initial_head_of k) (10 ^ 12)
initial_head_within patterns (Reservoir r) o = within_mono (lit≤ tt) o.0
initial_head_within patterns (Tank t) o = within_add exact_12 (lit≤ tt) o.elevation o.initial
initial_head_within patterns (Junction j) o = zero_within (10 ^ 12)

area_within : {d : Float} → Within d 10000 → Within (decimal 25 2 · PI · (d · d)) (10 ^ 12)
area_within w = within_mul exact_12 (lit≤ tt) quarter_within (within_mul exact_12 (lit≤ tt) w w)

open_flow_within : (k : LinkType) → LinkTypeFit k → Within (open_flow k) (10 ^ 12)
open_flow_within (Pipe d) o = area_within o.0
open_flow_within (Pump flow speed) o = within_mono (lit≤ tt) o.0
open_flow_within (Valve d setting) o = area_within o.0

pub initial_flow_within : {nodes : ℕ} {l : Link} → LinkFit nodes l → Within (initial_flow l) (10 ^ 12)
unfolding initial_flow
initial_flow_within {nodes} {l} o =
    within_cond (eqb l.initial_status 9 || eqb l.initial_status 2) no_flow_within (open_flow_within l.kind o.kind)

pub initial_setting_within : (k : LinkType) → LinkTypeFit k → Within (initial_setting_of k) (10 ^ 6)
initial_setting_within (Pipe d) o = zero_within (10 ^ 6)
initial_setting_within (Pump flow speed) o = o.1
initial_setting_within (Valve d setting) o = o.2

-- ---- patterns
multiplier_at_within : (xs : List Float) (a n t : ℕ) → ((i : ℕ) → i < n → Within (get_or xs (a + i) nan) (10 ^ 6)) → Within (multiplier_at (take n (drop a xs)) t) (10 ^ 6)
unfolding multiplier_at
multiplier_at_within xs a n t each = go (eqb (length (take n (drop a xs))) 0) refl
  where
    ms : List Float
    ms = take n (drop a xs)

    go : (b : Bool) → eqb (length ms) 0 ≡ b → Within (cond b (decimal 1 0) (get_or ms (t % length ms) nan)) (10 ^ 6)
    go true e = one_within
    go false e =
        let some : length ms ≡ 0 → ⊥ = eqb-false (length ms) 0 e in
        let i = t % length ms in
        let l : i < length ms = mod-lt t (omega arith) in
        let m : length ms ≤ n = rw (length-take n (drop a xs)) (omega arith) in
        subst (λ (x : Float). Within x (10 ^ 6)) (sym (get_or-take n (drop a xs) i nan (omega arith) ∙ get_or-drop a xs i nan)) (each i (omega arith))

pub multiplier_within : {p : Project} → TablesFit p → (t : ℕ) (q : Option ℕ) → PatternIndexFit p.counts.patterns q → Within (multiplier_of p t q) (10 ^ 6)
unfolding multiplier_of pattern_at
multiplier_within fit t None o = one_within
multiplier_within {p} fit t (Some k) o =
    within_cond (ltb k 32) (multiplier_at_within p.multipliers (k * 168) (get_or p.lengths k 0) t (fit.pattern k o).each) one_within

-- up to 4 times 10 ^ 18 is a value of the format
exact_18 : (k : ℕ) → k ≤ 4 → Exact (k * 10 ^ 18) 1
exact_18 k h =
    let few : k * 5 ^ 18 < 2 ^ 53 = omega arith in
    let same : k * 5 ^ 18 * 2 ^ 18 ≡ k * 10 ^ 18 = omega arith in
    subst (λ (n : ℕ). Exact n 1) same (exact_scaled (k * 5 ^ 18) 18 few (lit≤ tt))

or_default_fit : (patterns : ℕ) (default q : Option ℕ) → PatternIndexFit patterns default → PatternIndexFit patterns q → PatternIndexFit patterns (or_default default q)
or_default_fit patterns default None d o = d
or_default_fit patterns default (Some k) d o = o

module _ {patterns : ℕ} {m : Option ℕ → Float} {scale : Float} (default : Option ℕ) (fit : PatternIndexFit patterns default)
    (known : (q : Option ℕ) → PatternIndexFit patterns q → Within (m q) (10 ^ 6)) (scaled : Within scale (10 ^ 6)) where
  demand_within : (d : Demand) → DemandFit patterns d → Within (demand_of m default scale d) (10 ^ 18)
  unfolding demand_of
  demand_within d o =
      within_mul (exact_18 1 (lit≤ tt)) (lit≤ tt)
      (within_mul exact_12 (lit≤ tt) o.base (known (or_default default d.pattern) (or_default_fit patterns default d.pattern fit o.pattern))) scaled

  next : (k : ℕ) {sum : Float} (d : Demand) → k < 4 → Within sum (k * 10 ^ 18) → DemandFit patterns d → Within (sum ⊕ demand_of m default scale d) ((k + 1) * 10 ^ 18)
  next k d l w o = within_add (exact_18 (k + 1) (omega arith)) (omega arith) w (demand_within d o)

  sum_within : (ds : Demands) → DemandsFit patterns ds → Within (sum_of (demand_of m default scale) ds) (10 ^ 20)
  unfolding sum_of
  sum_within NoDemand o = zero_within (10 ^ 20)
  sum_within (One a) o = within_mono (lit≤ tt) (next 0 a (lit≤ tt) (zero_within 0) o)
  sum_within (Two a b) o = within_mono (lit≤ tt) (next 1 b (lit≤ tt) (next 0 a (lit≤ tt) (zero_within 0) o.0) o.1)
  sum_within (Three a b c) o =
      within_mono (lit≤ tt) (next 2 c (lit≤ tt) (next 1 b (lit≤ tt) (next 0 a (lit≤ tt) (zero_within 0) o.0) o.1) o.2)
  sum_within (Four a b c d) o =
      within_mono (lit≤ tt)
      (next 3 d (lit≤ tt) (next 2 c (lit≤ tt) (next 1 b (lit≤ tt) (next 0 a (lit≤ tt) (zero_within 0) o.0) o.1) o.2) o.3)

  pub pattern_demand_within : (k : NodeType) → NodeFit patterns k → Within (pattern_demand m default scale k) (10 ^ 20)
  unfolding junction_demand
  pattern_demand_within (Reservoir r) o = zero_within (10 ^ 20)
  pattern_demand_within (Tank t) o = zero_within (10 ^ 20)
  pattern_demand_within (Junction j) o = within_cond j.disabled (zero_within (10 ^ 20)) (sum_within j.demands o.1)

  reservoir_head_within : (q : Option ℕ) {elevation head : Float} → PatternIndexFit patterns q → Within elevation 100000 → Within head (10 ^ 12) → Within (reservoir_head m q elevation head) (10 ^ 12)
  reservoir_head_within None o e h = h
  reservoir_head_within (Some k) o e h = within_mul exact_12 (lit≤ tt) e (known (Some k) o)

  pub pattern_head_within : (k : NodeType) {head : Float} → NodeFit patterns k → Within head (10 ^ 12) → Within (pattern_head m k head) (10 ^ 12)
  pattern_head_within (Reservoir r) o h = reservoir_head_within r.head_pattern o.1 o.0 h
  pattern_head_within (Tank t) o h = h
  pattern_head_within (Junction j) o h = h
