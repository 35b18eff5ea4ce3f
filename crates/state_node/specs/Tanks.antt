-- Document 01, modules 7 and 9: one tank in `update_tanks` and in `calculate_time_step`.
use Rattle.std.specs.Prelude.{ℕ}
use Rattle.number.specs.Constants.{MAX}
use Rattle.number.specs.Operators.{◌⊖◌}
use Rattle.tank.specs.Tanks.{head_after, time_to_fill_or_drain}
use Rattle.model.specs.declared.node.NodeType.{NodeType}
use Rattle.model.specs.declared.node.NodeType.TheVariants.{Reservoir, Tank, Junction}
use Rattle.model.specs.declared.state.NodeState.{NodeState}

-- a tank's head after some seconds of its demand; other nodes stay
abbrev pub moved : NodeType → NodeState → ℕ → NodeState
moved (Reservoir r) s seconds = s
moved (Tank t) s seconds = record {
  head = (head_after t (record { 0 = s.demand }) seconds (record { 0 = s.head })).0;
  demand = s.demand;
  demand_flow = s.demand_flow;
}
moved (Junction j) s seconds = s

-- a tank's candidate; other nodes have none
abbrev pub tank_candidate : NodeType → NodeState → ℕ
tank_candidate (Reservoir r) s = MAX
tank_candidate (Tank t) s = time_to_fill_or_drain t (record { 0 = s.head ⊖ t.elevation.0 }) (record { 0 = s.demand })
tank_candidate (Junction j) s = MAX
