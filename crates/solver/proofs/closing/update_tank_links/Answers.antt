-- `solver::closing::update_tank_links` meets its contract: the table is laid out for the project's tanks. Assumes nothing.
use borrow.Author.Rules.{rules}
use Rattle.run_tables.proofs.Inside.{tanks_distinct}
use Rattle.tank_links.proofs.Judging.{Stands, stands, ends_inside}
use Rattle.solver.proofs.ByTable.{groups_inside, laid_is, closed_by_is}
use Rattle.solver.proofs.closing.update_tank_links.Goals.{After-lay_groups}
use Rattle.solver.proofs.closing.update_tank_links.Goals as goal

pub lay_groups-requires : goal.lay_groups-requires
lay_groups-requires c = record { ends_inside = ends_inside c.args.p c.requires; distinct = tanks_distinct c.tank_table-t.ensures }

there : (c : After-lay_groups) → Stands c.args.p c.lay_groups.new.groups.begins c.lay_groups.new.groups.middles c.lay_groups.new.groups.links
there c =
    let z = c.empty-groups.ensures in
    let e = c.lay_groups.ensures in
    stands c.args.p _ _ _ (laid_is c.requires c.tank_table-t.ensures _ _ _ z.begins z.middles z.links e.begins_after e.middles_after e.links_after)

pub close_by-requires : goal.close_by-requires
close_by-requires c = groups_inside c.requires c.tank_table-t.ensures (there (goal.at.close_by-requires c).After-lay_groups)

pub returns : goal.returns
returns c = closed_by_is c.requires c.tank_table-t.ensures (there (goal.at.returns c).After-lay_groups) c.args.s (search rules) c.close_by.result c.close_by.ensures
