-- The filler: "entries past the counts hold a fixed filler". It is also what the logic gives for a reading past the end of a table, so that
-- one value stands for every entry that is not there. Its numbers are NaN, which passes no range test.
use Rattle.std.specs.Prelude.{None}
use Rattle.std.specs.Prelude.{ℕ, false, get_or, set, replicate}
use Rattle.std.specs.Float.{nan}
use Rattle.number.specs.declared.compare.ComparisonOperator.TheVariants.{Eq}
use Rattle.model.specs.declared.control.Control.{Control}
use Rattle.model.specs.declared.control.ControlCondition.TheVariants.{HighPressure}
use Rattle.model.specs.declared.link.Link.{Link}
use Rattle.model.specs.declared.link.LinkType.TheVariants.{Pipe}
use Rattle.model.specs.declared.node.Node.{Node}
use Rattle.model.specs.declared.node.NodeType.TheVariants.{Reservoir}
use Rattle.model.specs.declared.options.Options.{Options}
use Rattle.model.specs.declared.project.Counts.{Counts}
use Rattle.model.specs.declared.project.Project.{Project}
use Rattle.model.specs.declared.rule.ConditionValue.TheVariants.{Number}
use Rattle.model.specs.declared.rule.NodeAttribute.TheVariants.{Demand}
use Rattle.model.specs.declared.rule.Premise.{Premise}
use Rattle.model.specs.declared.rule.RuleConditionOperator.TheVariants.{Or}
use Rattle.model.specs.declared.rule.RuleConditionTarget.TheVariants as targets
use Rattle.model.specs.declared.state.LinkState.{LinkState}
use Rattle.model.specs.declared.state.NodeState.{NodeState}
use Rattle.model.specs.declared.state.State.{State}

abbrev pub blank_node : Node
blank_node = record { kind = Reservoir (record { elevation = nan; head_pattern = None }) }

abbrev pub blank_link : Link
blank_link = record { start = 0; end = 0; initial_status = 0; kind = Pipe nan }

abbrev pub blank_control : Control
blank_control = record { condition = HighPressure 0 nan; link = 0; status = None; setting = None }

abbrev pub blank_premise : Premise
blank_premise = record { operator = Or; target = targets.Node 0 Demand; comparison = Eq; value = Number nan }

abbrev pub blank_node_state : NodeState
blank_node_state = record { head = nan; demand = nan; demand_flow = nan }

abbrev pub blank_link_state : LinkState
blank_link_state = record { flow = nan; status = 0; setting = nan }

abbrev pub blank_options : Options
blank_options = record {
  duration = 0;
  hydraulic = 0;
  report = 0;
  pattern = 0;
  pattern_start = 0;
  start_clock = 0;
  skip = false;
  pda = false;
  default_pattern = None;
  demand_multiplier = nan;
}

abbrev pub no_counts : Counts
no_counts = record { patterns = 0; nodes = 0; links = 0; controls = 0; premises = 0 }

-- "tables with nothing in them"
unfoldable pub empty_project : Project
empty_project = record {
  options = blank_options;
  counts = no_counts;
  lengths = replicate 32 0;
  multipliers = replicate 5376 nan;
  nodes = replicate 256 blank_node;
  links = replicate 384 blank_link;
  controls = replicate 64 blank_control;
  premises = replicate 128 blank_premise;
}

unfoldable pub blank_state : State
blank_state = record {
  nodes = replicate 256 blank_node_state;
  links = replicate 384 blank_link_state;
  clock = record { instant = 0; count = 0 };
}

-- the entry of each table at an index
abbrev pub node_at : Project → ℕ → Node
node_at p i = get_or p.nodes i blank_node

abbrev pub link_at : Project → ℕ → Link
link_at p i = get_or p.links i blank_link

abbrev pub control_at : Project → ℕ → Control
control_at p i = get_or p.controls i blank_control

abbrev pub premise_at : Project → ℕ → Premise
premise_at p i = get_or p.premises i blank_premise

abbrev pub node_state_at : State → ℕ → NodeState
node_state_at s i = get_or s.nodes i blank_node_state

abbrev pub link_state_at : State → ℕ → LinkState
link_state_at s i = get_or s.links i blank_link_state

-- the state with another entry for node i, and for link i
abbrev pub with_node : State → ℕ → NodeState → State
with_node s i x = record { nodes = set s.nodes i x; links = s.links; clock = s.clock }

abbrev pub with_link : State → ℕ → LinkState → State
with_link s i x = record { nodes = s.nodes; links = set s.links i x; clock = s.clock }
