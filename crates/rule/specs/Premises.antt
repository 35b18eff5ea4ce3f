-- Document 01, module 6: premise truth, `RuleCondition::is_active` and `compare_status` of rule.rs.
use Rattle.std.specs.Prelude.{ℕ, Bool, false, not, eqb, Float}
use Rattle.number.specs.Compare.{compare_f64}
use Rattle.number.specs.Constants.{decimal, psi_per_ft}
use Rattle.number.specs.Operators.{◌·◌, ◌÷◌, ◌⊖◌}
use Rattle.number.specs.Order.{abs}
use Rattle.number.specs.Seconds.{u64_to_f64}
use Rattle.number.specs.declared.compare.ComparisonOperator.{ComparisonOperator}
use Rattle.number.specs.declared.compare.ComparisonOperator.TheVariants.{Eq, Ne, Gt, Lt, Ge, Le}
use Rattle.tank.specs.Tanks.{time_to_reach_level}
use Rattle.tank.specs.declared.tank.Tank as tanks
use Rattle.tank.specs.declared.units.Feet.{Feet}
use Rattle.model.specs.Nodes.{elevation}
use Rattle.model.specs.declared.node.Node.{Node}
use Rattle.model.specs.declared.node.NodeType.{NodeType}
use Rattle.model.specs.declared.node.NodeType.TheVariants.{Reservoir, Tank, Junction}
use Rattle.model.specs.declared.rule.ConditionValue.{ConditionValue}
use Rattle.model.specs.declared.rule.ConditionValue.TheVariants.{Number, Status, Time}
use Rattle.model.specs.declared.rule.LinkAttribute as links
use Rattle.model.specs.declared.rule.NodeAttribute as nodes
use Rattle.model.specs.declared.rule.Premise.{Premise}
use Rattle.model.specs.declared.rule.RuleConditionTarget.{RuleConditionTarget}
use Rattle.model.specs.declared.rule.RuleConditionTarget.TheVariants as targets
use Rattle.model.specs.declared.rule.SystemAttribute as systems
use Rattle.model.specs.declared.rule.TankAttribute as tank_attributes
use Rattle.model.specs.declared.state.LinkState.{LinkState}
use Rattle.model.specs.declared.state.NodeState.{NodeState}
use Rattle.rule.specs.declared.System.{System}

-- "A number goes through `compare_f64`. A value of the wrong sort is false"
abbrev pub number_truth : ComparisonOperator → Float → ConditionValue → Bool
number_truth c x (Number y) = compare_f64 c x y
number_truth c x (Status y) = false
number_truth c x (Time t) = false

-- "Time fits system attributes only."
abbrev pub time_truth : ComparisonOperator → Float → ConditionValue → Bool
time_truth c x (Number y) = compare_f64 c x y
time_truth c x (Status y) = false
time_truth c x (Time t) = compare_f64 c x (u64_to_f64 t)

-- "Statuses know only Eq and Ne."
abbrev pub compare_status : ComparisonOperator → ℕ → ℕ → Bool
compare_status Eq x y = eqb x y
compare_status Ne x y = not (eqb x y)
compare_status Gt x y = false
compare_status Lt x y = false
compare_status Ge x y = false
compare_status Le x y = false

abbrev pub status_truth : ComparisonOperator → ℕ → ConditionValue → Bool
status_truth c x (Number y) = false
status_truth c x (Status y) = compare_status c x y
status_truth c x (Time t) = false

-- "Attributes 0 to 11: node, tank, link, system, each in its enum's order."
abbrev pub node_value : nodes.NodeAttribute → Node → NodeState → Float
node_value nodes.TheVariants.Demand n s = s.demand
node_value nodes.TheVariants.Head n s = s.head
node_value nodes.TheVariants.Pressure n s = (s.head ⊖ elevation n) · psi_per_ft

-- "Fill and drain times are in hours; MAX turns into 2^64 before the division."
abbrev pub hours_to : tanks.Tank → NodeState → Feet → Float
hours_to t s target =
    u64_to_f64 (time_to_reach_level t (record { 0 = s.head ⊖ t.elevation.0 }) target (record { 0 = s.demand })) ÷ decimal 3600 0

abbrev pub tank_value : tank_attributes.TankAttribute → tanks.Tank → NodeState → Float
tank_value tank_attributes.TheVariants.Level t s = s.head ⊖ t.elevation.0
tank_value tank_attributes.TheVariants.FillTime t s = hours_to t s t.max_level
tank_value tank_attributes.TheVariants.DrainTime t s = hours_to t s t.min_level

-- "a tank attribute of no tank, is false"
abbrev pub tank_truth : tank_attributes.TankAttribute → NodeType → NodeState → ComparisonOperator → ConditionValue → Bool
tank_truth a (Reservoir r) s c v = false
tank_truth a (Tank t) s c v = number_truth c (tank_value a t s) v
tank_truth a (Junction j) s c v = false

-- a flow is compared without its sign
abbrev pub link_truth : links.LinkAttribute → LinkState → ComparisonOperator → ConditionValue → Bool
link_truth links.TheVariants.Flow s c v = number_truth c (abs s.flow) v
link_truth links.TheVariants.Status s c v = status_truth c s.status v
link_truth links.TheVariants.Setting s c v = number_truth c s.setting v

abbrev pub system_value : systems.SystemAttribute → System → Float
system_value systems.TheVariants.Demand y = y.demand
system_value systems.TheVariants.Time y = u64_to_f64 y.time
system_value systems.TheVariants.ClockTime y = u64_to_f64 y.clock

abbrev pub target_truth : RuleConditionTarget → ComparisonOperator → ConditionValue → Node → NodeState → LinkState → System → Bool
target_truth (targets.Node i a) c v n s l y = number_truth c (node_value a n s) v
target_truth (targets.Tank i a) c v n s l y = tank_truth a n.kind s c v
target_truth (targets.Link i a) c v n s l y = link_truth a l c v
target_truth (targets.System a) c v n s l y = time_truth c (system_value a y) v

-- a premise's truth, from the node and the link that it may look at
abbrev pub premise_truth : Premise → Node → NodeState → LinkState → System → Bool
premise_truth q n s l y = target_truth q.target q.comparison q.value n s l y
