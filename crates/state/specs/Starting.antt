-- Needs no belief: the start by the tables of nodes and links alone. `new_with_initial_values` comes to it by its definition.
use Rattle.std.specs.Prelude.{ℕ, List, get_or}
use Rattle.model.specs.Blank.{blank_state, blank_node, blank_link, with_node, with_link}
use Rattle.model.specs.Loops.{through}
use Rattle.model.specs.declared.link.Link.{Link}
use Rattle.model.specs.declared.node.Node.{Node}
use Rattle.model.specs.declared.state.State.{State}
use Rattle.state_node.specs.Start.{start_node}
use Rattle.state_link.specs.Start.{start_link}

abbrev pub node_started_in : List Node → ℕ → State → State
node_started_in table i s = with_node s i (start_node (get_or table i blank_node))

unfoldable pub nodes_started : List Node → ℕ → State → State
nodes_started table n s = through n (node_started_in table) s

abbrev pub link_started_in : List Link → ℕ → State → State
link_started_in table i s = with_link s i (start_link (get_or table i blank_link))

unfoldable pub links_started : List Link → ℕ → State → State
links_started table n s = through n (link_started_in table) s

abbrev pub start_from : List Node → ℕ → List Link → ℕ → State
start_from nodes n links m = links_started links m (nodes_started nodes n blank_state)
