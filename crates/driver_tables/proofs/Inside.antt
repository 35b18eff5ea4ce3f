-- The tables of a project that fits are inside. Assumes nothing.
use Rattle.model.specs.declared.project.Project.{Project}
use Rattle.tables.specs.Fit.{TablesFit}
use Rattle.run_kinds.proofs.Standing.{levels_inside}
use Rattle.run_tables.proofs.Inside.{tanks_inside}
use Rattle.solver.proofs.ByTable.{groups_inside}
use Rattle.tank_links.proofs.Judging.{stands}
use Rattle.driver_tables.specs.Laid.{Laid, TablesInside}
use Rattle.driver_tables.specs.declared.Tables.{Tables}

pub tables_inside : {p : Project} {t : Tables} → Laid p t → TablesFit p → TablesInside t
tables_inside {p} {t} laid fit = record {
  groups = groups_inside fit laid.tanks (stands p t.groups.begins t.groups.middles t.groups.links laid.groups);
  levels = levels_inside laid.levels (tanks_inside laid.tanks fit.few.nodes);
}
