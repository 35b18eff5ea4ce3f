-- The node and the link that a premise looks at are within the tables. Assumes nothing.
use Prim.Native.Nat.{ℕ, ◌≤◌, ◌<◌}
use native.Mathlib.Omega.{arith}
use Rattle.model.specs.Blank.{premise_at}
use Rattle.model.specs.declared.project.Project.{Project}
use Rattle.model.specs.declared.rule.RuleConditionTarget.{RuleConditionTarget}
use Rattle.model.specs.declared.rule.RuleConditionTarget.TheVariants as targets
use Rattle.tables.specs.Fit.{TablesFit, TargetFit}
use Rattle.premise.specs.Premise.{looked_node, looked_link}

node_below : (nodes links : ℕ) (t : RuleConditionTarget) → nodes ≤ 256 → TargetFit nodes links t → looked_node t < 256
node_below nodes links (targets.Node i a) l h = omega arith
node_below nodes links (targets.Tank i a) l h = omega arith
node_below nodes links (targets.Link i a) l h = omega arith
node_below nodes links (targets.System a) l h = omega arith

link_below : (nodes links : ℕ) (t : RuleConditionTarget) → links ≤ 384 → TargetFit nodes links t → looked_link t < 384
link_below nodes links (targets.Node i a) l h = omega arith
link_below nodes links (targets.Tank i a) l h = omega arith
link_below nodes links (targets.Link i a) l h = omega arith
link_below nodes links (targets.System a) l h = omega arith

module _ {p : Project} (t : TablesFit p) (i : ℕ) (l : i < p.counts.premises) where
  pub node_inside : looked_node (premise_at p i).target < 256
  node_inside = node_below p.counts.nodes p.counts.links (premise_at p i).target t.few.nodes (t.premise i l).target

  pub link_inside : looked_link (premise_at p i).target < 384
  link_inside = link_below p.counts.nodes p.counts.links (premise_at p i).target t.few.links (t.premise i l).target
