-- `solver::closing::update_tank_links_by` meets its contract: a table that is the one laid out has the links of each tank. Assumes nothing.
use borrow.Author.Rules.{rules}
use Rattle.tank_links.proofs.Judging.{stands}
use Rattle.solver.proofs.ByTable.{groups_inside, closed_by_is}
use Rattle.solver.proofs.closing.update_tank_links_by.Goals as goal

pub close_by-requires : goal.close_by-requires
close_by-requires c = groups_inside c.requires.tables_fit c.tank_table-t.ensures (stands c.args.p _ _ _ c.requires.links_value)

pub returns : goal.returns
returns c = closed_by_is c.requires.tables_fit c.tank_table-t.ensures (stands c.args.p _ _ _ c.requires.links_value) c.args.s (search rules) c.close_by.result c.close_by.ensures
