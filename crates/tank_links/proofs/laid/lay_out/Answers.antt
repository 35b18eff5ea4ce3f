-- `tank_links::laid::lay_out` meets its contract: the tanks are the project's, so their groups are. Assumes nothing.
use mathlib.Core.Path.{ap, ◌∙◌}
use lib.Seq.{sets}
use Rattle.run_tables.proofs.Inside.{distinct}
use Rattle.tank_links.proofs.Judging.{begins_are, middles_are, entries_are}
use Rattle.tank_links.proofs.laid.lay_out.Goals as goal

pub lay_groups-requires-clause-distinct : goal.lay_groups-requires-clause-distinct
lay_groups-requires-clause-distinct c = distinct c.tank_nodes-tanks.ensures

pub returns : goal.returns
returns c =
    let a = c.args in
    let t = c.tank_nodes-tanks.ensures in
    let e = c.lay_groups.ensures in
    record {
      value = t.many;
      few = c.tank_nodes-tanks.result.inside.most;
      begins_after = e.begins_after ∙ ap (sets a.groups.now.begins 0) (begins_are a.p t);
      middles_after = e.middles_after ∙ ap (sets a.groups.now.middles 0) (middles_are a.p t);
      links_after = e.links_after ∙ ap (sets a.groups.now.links 0) (entries_are a.p t);
    }
