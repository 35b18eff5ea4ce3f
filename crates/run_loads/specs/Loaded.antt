-- Needs no belief: a load taken by the tables of a project's junctions, ends of links and tanks, over the lists of a state. load's `take-load-is` shows that
-- it comes to `take_load`.
use Rattle.std.specs.Prelude.{ℕ, List}
use Rattle.run_loads.specs.Taking.{flows_taken, heads_taken, inflows_summed}
use Rattle.run_loads.specs.declared.table.LoadTable.{LoadTable}
use Rattle.run_state.specs.declared.Lists.{Lists}
use Rattle.run_tables.specs.declared.nodes.NodeList.{NodeList}
use Rattle.run_tanks.specs.Emptying.{tanks_emptied}

-- the flows, then the heads, then the tanks' demands, from 0, by the flows loaded
abbrev pub lists_loaded : List ℕ → LoadTable → NodeList → Lists → Lists
lists_loaded words t tanks s =
    let flows = flows_taken words t.links s.links.flows in
    record {
      heads = heads_taken words t.junctions.nodes t.links t.junctions.count s.heads;
      demands = inflows_summed t.starts t.ends t.tanks flows t.links (tanks_emptied tanks.nodes tanks.count s.demands);
      demand_flows = s.demand_flows;
      links = record { flows = flows; statuses = s.links.statuses; settings = s.links.settings };
      clock = s.clock;
    }
