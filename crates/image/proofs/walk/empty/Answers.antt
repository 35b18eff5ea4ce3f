-- `image::walk::empty` meets its contract. NaN is what 0.0 / 0.0 gives. Assumes nothing.
use lib.Ieee.{div, of_bits}
use Rattle.model.specs.Blank.{empty_project}
use Rattle.image.proofs.walk.empty.Goals as goal

pub returns : goal.returns
unfolding empty_project div of_bits
returns c = rw (
  c.blank_options-p.ensures,
  c.no_counts-p.ensures,
  c.blank_node-p.ensures,
  c.blank_link-p.ensures,
  c.blank_control-p.ensures,
  c.blank_premise-p.ensures,
)
