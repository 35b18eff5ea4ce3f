-- `run_state::Lists::state` meets its contract. Assumes nothing.
use Rattle.run_state.proofs.Apart.{packed}
use Rattle.run_state.proofs.Lists.state.Goals as goal

pub returns : goal.returns
returns c = packed _ c.node_states.ensures c.link_states.ensures
