-- Document 01, module 7: `update_tanks`.
use Rattle.std.specs.Prelude.{ℕ}
use Rattle.model.specs.Blank.{node_at, node_state_at, with_node}
use Rattle.model.specs.Loops.{through}
use Rattle.model.specs.declared.project.Project.{Project}
use Rattle.model.specs.declared.state.State.{State}
use Rattle.state_node.specs.Tanks.{moved}

abbrev pub node_moved : Project → ℕ → ℕ → State → State
node_moved p seconds i s = with_node s i (moved (node_at p i).kind (node_state_at s i) seconds)

unfoldable pub update_tanks : Project → State → ℕ → State
update_tanks p s seconds = through p.counts.nodes (node_moved p seconds) s
