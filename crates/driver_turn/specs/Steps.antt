-- Needs no belief: controls, closing and a step over the lists of a run, by its tables. driver_turn's laws show that they come to the definitions'.
use Rattle.std.specs.Prelude.{ℕ}
use Rattle.number.specs.Constants.{MAX}
use Rattle.clock.specs.Steps.{clock_time, step_length, advanced}
use Rattle.run_state.specs.declared.Links.{Links}
use Rattle.run_state.specs.declared.Lists.{Lists}
use Rattle.run_tanks.specs.Moving.{tank_time_of, heads_after}
use Rattle.run_candidates.specs.Next.{next_time, next_clock, next_level}
use Rattle.run_closing.specs.Closing.{links_closed, demands_summed}
use Rattle.clock.specs.declared.length.Times.{Times}
use Rattle.run_kinds.specs.declared.calls.Calls.{Calls}
use Rattle.run_tables.specs.declared.tanks.TankTable.{TankTable}
use Rattle.tank_links.specs.declared.laid.LinkGroups.{LinkGroups}
use Rattle.driver_tables.specs.declared.Tables.{Tables}

-- ---- by the parts of the tables

-- the links at the tanks closed, and the tanks' demands summed
abbrev pub closed_by : TankTable → LinkGroups → Lists → Lists
closed_by tanks groups l = record {
  heads = l.heads;
  demands = demands_summed tanks.at.nodes groups.begins groups.middles groups.links tanks.at.count l.links.flows l.demands;
  demand_flows = l.demand_flows;
  links = record {
    flows = l.links.flows;
    statuses = links_closed tanks.at.nodes tanks.numbers tanks.overflows groups.begins groups.middles groups.links tanks.at.count l.heads l.links.flows l.links.statuses;
    settings = l.links.settings;
  };
  clock = l.clock;
}

-- the length of a step
abbrev pub step_length_by : Times → TankTable → Calls → Lists → ℕ
step_length_by times tanks calls l =
    step_length times (tank_time_of tanks.at.nodes tanks.numbers tanks.overflows tanks.at.count l.heads l.demands)
    (next_clock calls.clocks.seconds calls.clocks.count (clock_time times.start_clock l.clock.instant)
    (next_time calls.times.seconds calls.times.count l.clock.instant
    (next_level calls.levels.tanks calls.levels.targets calls.levels.count tanks.at.nodes tanks.numbers tanks.overflows l.heads l.demands MAX)))
    l.clock.instant

-- closing, then tanks and clock some seconds on
abbrev pub stepped_by : TankTable → LinkGroups → ℕ → Lists → Lists
stepped_by tanks groups seconds l =
    let c = closed_by tanks groups l in
    record {
      heads = heads_after tanks.at.nodes tanks.numbers tanks.overflows tanks.at.count c.demands seconds c.heads;
      demands = c.demands;
      demand_flows = c.demand_flows;
      links = c.links;
      clock = advanced c.clock seconds;
    }

-- ---- the same by the tables of a run

abbrev pub closed : Tables → Lists → Lists
closed t l = closed_by t.tanks t.groups l

abbrev pub length_by : Tables → Lists → ℕ
length_by t l = step_length_by t.times t.tanks t.calls l

abbrev pub stepped : Tables → ℕ → Lists → Lists
stepped t seconds l = stepped_by t.tanks t.groups seconds l
