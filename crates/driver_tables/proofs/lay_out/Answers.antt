-- `driver_tables::lay_out` meets its contract. Assumes nothing.
use mathlib.Core.Path.{refl}
use Rattle.run_tables.proofs.Inside.{tanks_distinct}
use Rattle.driver_tables.proofs.Laying.{laid_all, laid_own}
use Rattle.driver_tables.proofs.lay_out.Goals as goal

pub lay_groups-requires-clause-distinct : goal.lay_groups-requires-clause-distinct
lay_groups-requires-clause-distinct c = tanks_distinct c.tank_table-tanks.ensures

pub returns : goal.returns
returns c =
    let empty = c.empty-groups.ensures in
    let g = c.lay_groups.ensures in
    let every = laid_all c.tank_table-tanks.result c.control_table.result c.calls_of.result refl c.times_from.ensures c.tank_table-tanks.ensures (rw (← empty.begins) g.begins_after) (rw (← empty.middles) g.middles_after) (rw (← empty.links) g.links_after)
    c.control_table.ensures c.calls_of.ensures.times c.calls_of.ensures.clocks c.calls_of.ensures.levels c.pattern_tables.ensures c.load_table.ensures in
    record { from = every; laid = laid_own every }
