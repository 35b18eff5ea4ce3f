-- Document 01, module 6, on the project's tables and the state.
use Rattle.std.specs.Prelude.{ℕ, Bool, Float}
use Rattle.number.specs.Constants.{decimal}
use Rattle.number.specs.Operators.{◌⊕◌}
use Rattle.clock.specs.Steps.{clock_time}
use Rattle.model.specs.Blank.{node_at, premise_at, node_state_at, link_state_at}
use Rattle.model.specs.Loops.{through}
use Rattle.model.specs.declared.project.Project.{Project}
use Rattle.model.specs.declared.rule.RuleConditionTarget.{RuleConditionTarget}
use Rattle.model.specs.declared.rule.RuleConditionTarget.TheVariants as targets
use Rattle.model.specs.declared.state.State.{State}
use Rattle.rule.specs.Premises.{premise_truth}
use Rattle.rule.specs.declared.System.{System}

-- the node and the link that a premise looks at; 0 where it looks at none
abbrev pub looked_node : RuleConditionTarget → ℕ
looked_node (targets.Node i a) = i
looked_node (targets.Tank i a) = i
looked_node (targets.Link i a) = 0
looked_node (targets.System a) = 0

abbrev pub looked_link : RuleConditionTarget → ℕ
looked_link (targets.Node i a) = 0
looked_link (targets.Tank i a) = 0
looked_link (targets.Link i a) = i
looked_link (targets.System a) = 0

-- the system's demand: every node's, in order
abbrev pub demand_added : State → ℕ → Float → Float
demand_added s i total = total ⊕ (node_state_at s i).demand

unfoldable pub total_demand : Project → State → Float
total_demand p s = through p.counts.nodes (demand_added s) (decimal 0 0)

abbrev pub system_of : Project → State → System
system_of p s = record {
  demand = total_demand p s;
  time = s.clock.instant;
  clock = clock_time p.options.start_clock s.clock.instant;
}

unfoldable pub premise_truth_at : Project → State → ℕ → Bool
premise_truth_at p s i =
    let q = premise_at p i in
    let n = looked_node q.target in
    premise_truth q (node_at p n) (node_state_at s n) (link_state_at s (looked_link q.target)) (system_of p s)
