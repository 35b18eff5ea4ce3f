use Rattle.model.specs.Nodes.{is_tank}
use Rattle.run_tables.proofs.tanks.tank_nodes.Given as goal

abbrev pub ghost-nodes_where : goal.ghost-nodes_where
ghost-nodes_where a = is_tank
