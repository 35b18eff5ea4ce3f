-- What a node of the tables (3 reservoir, 4 tank, 5 junction) has to satisfy: number 5, by the record alone, and number 6, by what is declared.
-- What cannot be written in the tables is judged by the words of an image (image_node/specs).
use Rattle.std.specs.Prelude.{ℕ, Bool, true, ◌&&◌}
use Rattle.std.specs.Float.Ieee.{le}
use Rattle.tank.specs.declared.tank.Tank as tanks
use Rattle.model.specs.declared.node.Demand.{Demand}
use Rattle.model.specs.declared.node.Demands.{Demands}
use Rattle.model.specs.declared.node.Demands.TheVariants.{NoDemand, One, Two, Three, Four}
use Rattle.model.specs.declared.node.NodeType.{NodeType}
use Rattle.model.specs.declared.node.NodeType.TheVariants.{Reservoir, Tank, Junction}
use Rattle.table_ranges.specs.Ranges.{feet_ok, diameter_ok, number_ok, pattern_index_ok}

-- "least not above greatest"
unfoldable pub tank_ok : tanks.Tank → Bool
tank_ok t =
    feet_ok t.elevation.0 && feet_ok t.initial_level.0 && feet_ok t.min_level.0 && feet_ok t.max_level.0
    && le t.min_level.0 t.max_level.0 && diameter_ok t.diameter.0

unfoldable pub demand_ok : Demand → Bool
demand_ok d = number_ok d.base

unfoldable pub demands_ok : Demands → Bool
demands_ok NoDemand = true
demands_ok (One a) = demand_ok a
demands_ok (Two a b) = demand_ok a && demand_ok b
demands_ok (Three a b c) = demand_ok a && demand_ok b && demand_ok c
demands_ok (Four a b c d) = demand_ok a && demand_ok b && demand_ok c && demand_ok d

unfoldable pub node_ok : NodeType → Bool
node_ok (Reservoir r) = feet_ok r.elevation
node_ok (Tank t) = tank_ok t
node_ok (Junction j) = feet_ok j.elevation && demands_ok j.demands

unfoldable pub demand_index_ok : ℕ → Demand → Bool
demand_index_ok patterns d = pattern_index_ok patterns d.pattern

unfoldable pub demands_indices_ok : ℕ → Demands → Bool
demands_indices_ok patterns NoDemand = true
demands_indices_ok patterns (One a) = demand_index_ok patterns a
demands_indices_ok patterns (Two a b) = demand_index_ok patterns a && demand_index_ok patterns b
demands_indices_ok patterns (Three a b c) = demand_index_ok patterns a && demand_index_ok patterns b && demand_index_ok patterns c
demands_indices_ok patterns (Four a b c d) =
    demand_index_ok patterns a && demand_index_ok patterns b && demand_index_ok patterns c && demand_index_ok patterns d

unfoldable pub node_indices_ok : ℕ → NodeType → Bool
node_indices_ok patterns (Reservoir r) = pattern_index_ok patterns r.head_pattern
node_indices_ok patterns (Tank t) = true
node_indices_ok patterns (Junction j) = demands_indices_ok patterns j.demands
