use lib.Ieee.{nan}
use Rattle.run_state.proofs.Filled.{Filled}
use Rattle.model.specs.declared.node.Node.{Node}
use Rattle.run_sources.specs.Sources.{head_pattern_of, is_pattern}
use Rattle.run_sources.proofs.Laying.{elevation_of, head_place_of}
use Rattle.run_sources.proofs.heads.head_table.Given as goal

abbrev pub ghost-nodes_where : goal.ghost-nodes_where
ghost-nodes_where a = λ (x : Node). is_pattern (head_pattern_of x.kind)

abbrev pub invariant-loop-r : goal.invariant-loop-r
invariant-loop-r l = record {
  elevations : Filled nan 256 (elevation_of l.fn.nodes l.at.nodes) l.r l.elevations;
  places : Filled 0 256 (head_place_of l.fn.nodes l.at.nodes) l.r l.patterns;
}
