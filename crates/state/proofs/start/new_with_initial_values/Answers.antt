-- `state::start::new_with_initial_values` meets its contract: by its definition. Assumes nothing.
use Rattle.state.specs.Start.{new_with_initial_values, start_nodes, start_links}
use Rattle.state.specs.Starting.{nodes_started, links_started}
use Rattle.state.proofs.start.new_with_initial_values.Goals as goal

pub returns : goal.returns
unfolding new_with_initial_values start_nodes start_links nodes_started links_started
returns c = c.start_from.ensures
