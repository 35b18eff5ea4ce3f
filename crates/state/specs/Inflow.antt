-- Needs no belief: a pass of the code that load and closing share, behind their definitions tank by tank.
use Rattle.std.specs.Prelude.{ℕ}
use Rattle.model.specs.Blank.{node_at, node_state_at, with_node}
use Rattle.model.specs.Loops.{through}
use Rattle.model.specs.declared.project.Project.{Project}
use Rattle.model.specs.declared.state.State.{State}
use Rattle.state_node.specs.Inflow.{emptied}

abbrev pub tank_emptied : Project → ℕ → State → State
tank_emptied p i s = with_node s i (emptied (node_at p i) (node_state_at s i))

unfoldable pub empty_tanks : Project → State → State
empty_tanks p s = through p.counts.nodes (tank_emptied p) s
