-- Where a test passes, what it tests is so: record by record, and then of the whole tables. Assumes nothing.
use Rattle.std.specs.Prelude.{None, Option, Some}
use mathlib.Core.Path.{◌≡◌}
use mathlib.Core.Bool.{Bool, true, false, not}
use mathlib.Core.List.{List, [], ◌∷◌}
use Prim.Native.Nat.{ℕ, ◌^◌, ◌≤◌, ◌<◌}
use native.Mathlib.Omega.{arith}
use lib.Dec.{T, lit≤, leb, ltb, eqb}
use lib.Ieee.{Float, le}
use lib.Ieee.Exact.{HasValue}
use lib.Ieee.Positive.{positive, positive-finite, own_value, values_of_le, between}
use borrow.Author.Tests.{ltb-true, leb-true, eqb-false, le-leb, not-true}
use Rattle.number.specs.Bounds.{Within, Beyond}
use Rattle.number.specs.Constants.{decimal}
use Rattle.number.specs.Order.{in_range, within}
use Rattle.number.proofs.Bounds.{exact_whole}
use Rattle.number.proofs.Range.{within_of_test, beyond_of_le}
use Rattle.tank.specs.Ranges.{TankRange}
use Rattle.tank.specs.declared.tank.Tank as tanks
use Rattle.model.specs.Blank.{node_at, link_at, control_at, premise_at}
use Rattle.model.specs.declared.control.Control.{Control}
use Rattle.model.specs.declared.control.ControlCondition.{ControlCondition}
use Rattle.model.specs.declared.control.ControlCondition.TheVariants as conditions
use Rattle.model.specs.declared.link.Link.{Link}
use Rattle.model.specs.declared.link.LinkType.{LinkType}
use Rattle.model.specs.declared.link.LinkType.TheVariants.{Pipe, Pump, Valve}
use Rattle.model.specs.declared.node.Demand.{Demand}
use Rattle.model.specs.declared.node.Demands.{Demands}
use Rattle.model.specs.declared.node.Demands.TheVariants.{NoDemand, One, Two, Three, Four}
use Rattle.model.specs.declared.node.Node.{Node}
use Rattle.model.specs.declared.node.NodeType.{NodeType}
use Rattle.model.specs.declared.node.NodeType.TheVariants.{Reservoir, Tank, Junction}
use Rattle.model.specs.declared.options.Options.{Options}
use Rattle.model.specs.declared.project.Counts.{Counts}
use Rattle.model.specs.declared.project.Project.{Project}
use Rattle.model.specs.declared.rule.ConditionValue.{ConditionValue}
use Rattle.model.specs.declared.rule.ConditionValue.TheVariants as values
use Rattle.model.specs.declared.rule.Premise.{Premise}
use Rattle.model.specs.declared.rule.RuleConditionTarget.{RuleConditionTarget}
use Rattle.model.specs.declared.rule.RuleConditionTarget.TheVariants as targets
use Rattle.model.proofs.Loops.{held_at, both_left, both_right}
use Rattle.table_ranges.specs.Ranges.{time_ok, timestep_ok, clock_ok, feet_ok, diameter_ok, number_ok, premise_number_ok, status_ok, pattern_index_ok}
use Rattle.table_ranges.specs.Records.{options_ok}
use Rattle.table_node.specs.Records.{tank_ok, demand_ok, demands_ok, node_ok, demand_index_ok, demands_indices_ok, node_indices_ok}
use Rattle.table_link.specs.Records.{link_type_ok, link_ok, link_indices_ok}
use Rattle.table_control.specs.Records.{condition_ok, status_action_ok, setting_action_ok, control_ok, condition_index_ok, control_indices_ok}
use Rattle.table_premise.specs.Records.{value_ok, premise_ok, premise_indices_ok}
use Rattle.table_entry.specs.Fits.{counts_ok, multiplier_ok, multipliers_ok, pattern_ok, node_fits, link_fits, control_fits, premise_fits}
use Rattle.tables.specs.Tables.{Few, pattern_ok_at, patterns_ok, node_fits_at, nodes_ok, link_fits_at, links_ok, control_fits_at, controls_ok, premise_fits_at, premises_ok, tables_ok}
use Rattle.tables.specs.Fit.{OptionsFit, PatternIndexFit, PatternFit, DemandFit, DemandsFit, NodeFit, LinkTypeFit, LinkFit, ConditionFit, StatusActionFit, SettingActionFit, ControlFit, TargetFit, ValueFit, PremiseFit, TablesFit}
use Rattle.table_entry.proofs.Tests.{each}

-- ---- counts
pub few_of_counts : (c : Counts) → counts_ok c ≡ true → Few c
unfolding counts_ok
few_of_counts c e =
    let h = each (leb c.patterns 32) (_ ∷ _ ∷ _ ∷ _ ∷ []) e in
    record {
      patterns = leb-true _ _ (h 0);
      nodes = leb-true _ _ (h 1);
      links = leb-true _ _ (h 2);
      controls = leb-true _ _ (h 3);
      premises = leb-true _ _ (h 4);
    }

pub counts_of_few : (c : Counts) → Few c → counts_ok c ≡ true
unfolding counts_ok
counts_of_few c f =
    rw (le-leb _ _ f.patterns, le-leb _ _ f.nodes, le-leb _ _ f.links, le-leb _ _ f.controls, le-leb _ _ f.premises)

-- ---- ranges
is_true : {b : Bool} → b ≡ true → T b
is_true e = rw e tt

within_fit : (n : ℕ) (x : Float) → n ≤ 2 ^ 53 → within (decimal n 0) x ≡ true → Within x n
unfolding decimal
within_fit n x h e = within_of_test x (decimal n 0) n (exact_whole n h) (is_true e)

pub feet_fit : (x : Float) → feet_ok x ≡ true → Within x 100000
unfolding feet_ok
feet_fit x e = within_fit 100000 x (lit≤ tt) e

pub number_fit : (x : Float) → number_ok x ≡ true → Within x (10 ^ 6)
unfolding number_ok
number_fit x e = within_fit (10 ^ 6) x (lit≤ tt) e

pub premise_number_fit : (x : Float) → premise_number_ok x ≡ true → Within x (10 ^ 12)
unfolding premise_number_ok
premise_number_fit x e = within_fit (10 ^ 12) x (lit≤ tt) e

-- 0.001 is above 0, and more than 1 / 1024
thin_positive : T (positive (decimal 1 3))
unfolding decimal
thin_positive = tt

thin_beyond : Beyond (decimal 1 3) 1024
unfolding decimal
thin_beyond = record { is_finite = tt; size = lit≤ tt }

wide_positive : T (positive (decimal 10000 0))
unfolding decimal
wide_positive = tt

wide_is : HasValue (decimal 10000 0) false 10000 1
unfolding decimal
wide_is = exact_whole 10000 (lit≤ tt)

pub diameter_fit : (x : Float) → diameter_ok x ≡ true → Within x 10000 × Beyond x 1024
unfolding diameter_ok in_range
diameter_fit x e =
    let least = decimal 1 3 in
    let greatest = decimal 10000 0 in
    let above : T (le least x) = is_true (both_left (le least x) (le x greatest) e) in
    let below : T (le x greatest) = is_true (both_right (le least x) (le x greatest) e) in
    let p : T (positive x) = between least x greatest thin_positive wide_positive above below in
    let f = positive-finite x p in
    let s = values_of_le x greatest _ _ 10000 1 p wide_positive (own_value x p) wide_is below in
    (record { is_finite = f; size = omega arith }, beyond_of_le least x 1024 thin_positive thin_beyond f above)

pub clock_fit : (s : ℕ) → clock_ok s ≡ true → s < 86400
unfolding clock_ok
clock_fit s e = omega (arith, leb-true s 86399 e)

pub timestep_fit : (s : ℕ) → timestep_ok s ≡ true → (0 < s) × (s ≤ 315360000)
unfolding timestep_ok time_ok
timestep_fit s e = let h = each (leb 1 s) (_ ∷ []) e in (leb-true _ _ (h 0), leb-true _ _ (h 1))

pub pattern_index_fit : (patterns : ℕ) (i : Option ℕ) → pattern_index_ok patterns i ≡ true → PatternIndexFit patterns i
unfolding pattern_index_ok
pattern_index_fit patterns None e = tt
pattern_index_fit patterns (Some i) e = ltb-true i patterns e

-- ---- the records
pub options_fit : (o : Options) → options_ok o ≡ true → OptionsFit o
unfolding options_ok time_ok
options_fit o e =
    let h = each (time_ok o.duration) (_ ∷ _ ∷ _ ∷ _ ∷ _ ∷ _ ∷ []) e in
    let report = timestep_fit o.report (h 2) in
    let pattern = timestep_fit o.pattern (h 3) in
    record {
      duration = leb-true _ _ (h 0);
      hydraulic = leb-true _ _ (h 1);
      report = report.0;
      report_most = report.1;
      pattern = pattern.0;
      pattern_most = pattern.1;
      start = leb-true _ _ (h 4);
      clock = clock_fit _ (h 5);
      scale = number_fit _ (h 6);
    }

pub pattern_fit : (ms : List Float) (k n : ℕ) → pattern_ok ms k n ≡ true → PatternFit ms k n
unfolding pattern_ok multipliers_ok
pattern_fit ms k n e =
    let h = each (leb 1 n) (_ ∷ _ ∷ []) e in
    record {
      some = leb-true _ _ (h 0);
      most = leb-true _ _ (h 1);
      each = λ i l. number_fit _ (held_at n (multiplier_ok ms k) (h 2) i l);
    }

pub tank_fit : (t : tanks.Tank) → tank_ok t ≡ true → TankRange t
unfolding tank_ok
tank_fit t e =
    let h = each (feet_ok t.elevation.0) (_ ∷ _ ∷ _ ∷ _ ∷ _ ∷ []) e in
    let diameter = diameter_fit t.diameter.0 (h 5) in
    record {
      elevation = feet_fit _ (h 0);
      initial = feet_fit _ (h 1);
      least = feet_fit _ (h 2);
      greatest = feet_fit _ (h 3);
      ordered = is_true (h 4);
      wide = diameter.0;
      narrow = diameter.1;
    }

demand_fit : (patterns : ℕ) (d : Demand) → demand_ok d ≡ true → demand_index_ok patterns d ≡ true → DemandFit patterns d
unfolding demand_ok demand_index_ok
demand_fit patterns d e f = record { base = number_fit d.base e; pattern = pattern_index_fit patterns d.pattern f }

demands_fit : (patterns : ℕ) (d : Demands) → demands_ok d ≡ true → demands_indices_ok patterns d ≡ true → DemandsFit patterns d
unfolding demands_ok demands_indices_ok
demands_fit patterns NoDemand e f = tt
demands_fit patterns (One a) e f = demand_fit patterns a e f
demands_fit patterns (Two a b) e f =
    let h = each (demand_ok a) (_ ∷ []) e in
    let g = each (demand_index_ok patterns a) (_ ∷ []) f in
    (demand_fit patterns a (h 0) (g 0), demand_fit patterns b (h 1) (g 1))
demands_fit patterns (Three a b c) e f =
    let h = each (demand_ok a) (_ ∷ _ ∷ []) e in
    let g = each (demand_index_ok patterns a) (_ ∷ _ ∷ []) f in
    (demand_fit patterns a (h 0) (g 0), demand_fit patterns b (h 1) (g 1), demand_fit patterns c (h 2) (g 2))
demands_fit patterns (Four a b c d) e f =
    let h = each (demand_ok a) (_ ∷ _ ∷ _ ∷ []) e in
    let g = each (demand_index_ok patterns a) (_ ∷ _ ∷ _ ∷ []) f in
    (demand_fit patterns a (h 0) (g 0), demand_fit patterns b (h 1) (g 1), demand_fit patterns c (h 2) (g 2), demand_fit patterns d (h 3) (g 3))

node_kind_fit : (patterns : ℕ) (k : NodeType) → node_ok k ≡ true → node_indices_ok patterns k ≡ true → NodeFit patterns k
unfolding node_ok node_indices_ok
node_kind_fit patterns (Reservoir r) e f = (feet_fit r.elevation e, pattern_index_fit patterns r.head_pattern f)
node_kind_fit patterns (Tank t) e f = tank_fit t e
node_kind_fit patterns (Junction j) e f =
    let h = each (feet_ok j.elevation) (_ ∷ []) e in
    (feet_fit j.elevation (h 0), demands_fit patterns j.demands (h 1) f)

pub node_fit : (patterns : ℕ) (n : Node) → node_fits patterns n ≡ true → NodeFit patterns n.kind
unfolding node_fits
node_fit patterns n e =
    let h = each (node_ok n.kind) (_ ∷ []) e in
    node_kind_fit patterns n.kind (h 0) (h 1)

link_type_fit : (k : LinkType) → link_type_ok k ≡ true → LinkTypeFit k
unfolding link_type_ok
link_type_fit (Pipe diameter) e = diameter_fit diameter e
link_type_fit (Pump flow speed) e =
    let h = each (number_ok flow) (_ ∷ []) e in
    (number_fit flow (h 0), number_fit speed (h 1))
link_type_fit (Valve diameter setting) e =
    let h = each (diameter_ok diameter) (_ ∷ []) e in
    let d = diameter_fit diameter (h 0) in
    (d.0, d.1, number_fit setting (h 1))

pub link_fit : (nodes : ℕ) (l : Link) → link_fits nodes l ≡ true → LinkFit nodes l
unfolding link_fits link_ok link_indices_ok status_ok
link_fit nodes l e =
    let h = each (link_ok l) (_ ∷ []) e in
    let own = each (not (eqb l.start l.end)) (_ ∷ _ ∷ []) (h 0) in
    let indices = each (ltb l.start nodes) (_ ∷ []) (h 1) in
    record {
      start = ltb-true _ _ (indices 0);
      end = ltb-true _ _ (indices 1);
      apart = eqb-false _ _ (not-true _ (own 0));
      status = leb-true _ _ (own 1);
      kind = link_type_fit l.kind (own 2);
    }

condition_fit : (nodes : ℕ) (c : ControlCondition) → condition_ok c ≡ true → condition_index_ok nodes c ≡ true → ConditionFit nodes c
unfolding condition_ok condition_index_ok time_ok
condition_fit nodes (conditions.HighPressure n target) e f = (ltb-true n nodes f, feet_fit target e)
condition_fit nodes (conditions.LowPressure n target) e f = (ltb-true n nodes f, feet_fit target e)
condition_fit nodes (conditions.HighLevel n target) e f = (ltb-true n nodes f, feet_fit target e)
condition_fit nodes (conditions.LowLevel n target) e f = (ltb-true n nodes f, feet_fit target e)
condition_fit nodes (conditions.Time seconds) e f = leb-true _ _ e
condition_fit nodes (conditions.ClockTime seconds) e f = clock_fit seconds e

status_action_fit : (s : Option ℕ) → status_action_ok s ≡ true → StatusActionFit s
unfolding status_action_ok status_ok
status_action_fit None e = tt
status_action_fit (Some s) e = leb-true _ _ e

setting_action_fit : (s : Option Float) → setting_action_ok s ≡ true → SettingActionFit s
unfolding setting_action_ok
setting_action_fit None e = tt
setting_action_fit (Some x) e = number_fit x e

pub control_fit : (nodes links : ℕ) (c : Control) → control_fits nodes links c ≡ true → ControlFit nodes links c
unfolding control_fits control_ok control_indices_ok
control_fit nodes links c e =
    let h = each (control_ok c) (_ ∷ []) e in
    let own = each (condition_ok c.condition) (_ ∷ _ ∷ []) (h 0) in
    let indices = each (condition_index_ok nodes c.condition) (_ ∷ []) (h 1) in
    record {
      condition = condition_fit nodes c.condition (own 0) (indices 0);
      link = ltb-true _ _ (indices 1);
      status = status_action_fit c.status (own 1);
      setting = setting_action_fit c.setting (own 2);
    }

target_fit : (nodes links : ℕ) (t : RuleConditionTarget) → premise_indices_ok nodes links t ≡ true → TargetFit nodes links t
unfolding premise_indices_ok
target_fit nodes links (targets.Node i a) e = ltb-true i nodes e
target_fit nodes links (targets.Tank i a) e = ltb-true i nodes e
target_fit nodes links (targets.Link i a) e = ltb-true i links e
target_fit nodes links (targets.System a) e = tt

value_fit : (v : ConditionValue) → value_ok v ≡ true → ValueFit v
unfolding value_ok status_ok time_ok
value_fit (values.Number x) e = premise_number_fit x e
value_fit (values.Status s) e = leb-true _ _ e
value_fit (values.Time t) e = leb-true _ _ e

pub premise_fit : (nodes links : ℕ) (q : Premise) → premise_fits nodes links q ≡ true → PremiseFit nodes links q
unfolding premise_fits premise_ok
premise_fit nodes links q e =
    let h = each (value_ok q.value) (_ ∷ []) e in
    record { target = target_fit nodes links q.target (h 1); value = value_fit q.value (h 0) }

-- ---- the tables
pub tables_fit : (p : Project) → tables_ok p ≡ true → TablesFit p
unfolding tables_ok patterns_ok nodes_ok links_ok controls_ok premises_ok
tables_fit p e =
    let h = each (counts_ok p.counts) (_ ∷ _ ∷ _ ∷ _ ∷ _ ∷ _ ∷ _ ∷ []) e in
    record {
      few = few_of_counts p.counts (h 0);
      options = options_fit p.options (h 1);
      default = pattern_index_fit _ _ (h 2);
      pattern = λ k l. pattern_fit _ k _ (held_at _ (pattern_ok_at p) (h 3) k l);
      node = λ i l. node_fit _ (node_at p i) (held_at _ (node_fits_at p) (h 4) i l);
      link = λ i l. link_fit _ (link_at p i) (held_at _ (link_fits_at p) (h 5) i l);
      control = λ i l. control_fit _ _ (control_at p i) (held_at _ (control_fits_at p) (h 6) i l);
      premise = λ i l. premise_fit _ _ (premise_at p i) (held_at _ (premise_fits_at p) (h 7) i l);
    }
