-- Needs no belief: closing by the tables of a project's tanks and of their links, over the lists of a state. `closed-by-is` shows that it comes to
-- `update_tank_links`.
use Rattle.std.specs.Prelude.{ℕ, List, Float}
use Rattle.model.specs.declared.state.State.{State}
use Rattle.run_state.specs.declared.Lists.{Lists}
use Rattle.run_state.specs.Lists.{heads_of, demands_of, demand_flows_of, flows_of, statuses_of, settings_of}
use Rattle.run_closing.specs.Closing.{links_closed, demands_summed}

abbrev pub lists_closed : List ℕ → List Float → List ℕ → List ℕ → List ℕ → List ℕ → ℕ → State → Lists
lists_closed nodes numbers overflows begins middles links n s = record {
  heads = heads_of s;
  demands = demands_summed nodes begins middles links n (flows_of s) (demands_of s);
  demand_flows = demand_flows_of s;
  links = record {
    flows = flows_of s;
    statuses = links_closed nodes numbers overflows begins middles links n (heads_of s) (flows_of s) (statuses_of s);
    settings = settings_of s;
  };
  clock = s.clock;
}
