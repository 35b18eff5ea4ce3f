use Rattle.model.specs.Nodes.{is_junction}
use Rattle.run_load_tables.proofs.laid.junction_nodes.Given as goal

abbrev pub ghost-nodes_where : goal.ghost-nodes_where
ghost-nodes_where a = is_junction
