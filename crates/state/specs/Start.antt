-- Document 01, module 7: `new_with_initial_values`.
use Rattle.std.specs.Prelude.{ℕ}
use Rattle.model.specs.Blank.{blank_state, node_at, link_at, with_node, with_link}
use Rattle.model.specs.Loops.{through}
use Rattle.model.specs.declared.project.Project.{Project}
use Rattle.model.specs.declared.state.State.{State}
use Rattle.state_node.specs.Start.{start_node}
use Rattle.state_link.specs.Start.{start_link}

abbrev pub node_started : Project → ℕ → State → State
node_started p i s = with_node s i (start_node (node_at p i))

unfoldable pub start_nodes : Project → State → State
start_nodes p s = through p.counts.nodes (node_started p) s

abbrev pub link_started : Project → ℕ → State → State
link_started p i s = with_link s i (start_link (link_at p i))

unfoldable pub start_links : Project → State → State
start_links p s = through p.counts.links (link_started p) s

-- "instant and count 0"; entries past the counts hold the filler
unfoldable pub new_with_initial_values : Project → State
new_with_initial_values p = start_links p (start_nodes p blank_state)
