-- The nodes that are tanks.
use Rattle.std.specs.Prelude.{ℕ, Bool, List, get_or}
use Rattle.model.specs.Blank.{blank_node}
use Rattle.model.specs.Nodes.{is_tank}
use Rattle.model.specs.declared.node.Node.{Node}
use Rattle.model.specs.declared.project.Project.{Project}
use Rattle.run_tables.specs.Chosen.{chosen}

-- whether node i of a table is a tank
abbrev pub tank_in : List Node → ℕ → Bool
tank_in table i = is_tank (get_or table i blank_node)

-- those of its first n nodes that are tanks, in order
abbrev pub tank_nodes_in : List Node → ℕ → List ℕ
tank_nodes_in table n = chosen (tank_in table) n

-- a project's
abbrev pub tank_nodes : Project → List ℕ
tank_nodes p = tank_nodes_in p.nodes p.counts.nodes
