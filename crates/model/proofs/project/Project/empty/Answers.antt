-- `model::project::Project::empty` meets its contract. NaN is what 0.0 / 0.0 gives. Assumes nothing.
use lib.Ieee.{div, of_bits}
use Rattle.model.specs.Blank.{empty_project}
use Rattle.model.proofs.project.Project.empty.Goals as goal

pub returns : goal.returns
unfolding empty_project div of_bits
returns c = rw (
  c.blank_options.ensures,
  c.no_counts.ensures,
  c.blank_node.ensures,
  c.blank_link.ensures,
  c.blank_control.ensures,
  c.blank_premise.ensures,
)
