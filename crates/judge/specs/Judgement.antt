-- Document 01, number 10: "every later call, first: tables break 4 to 6, or the state is not finite: flows or heads beyond 10^12, demands or demand
-- flows beyond 10^20, settings beyond 10^6, instant past duration, count past instant, status over 9". Entries past the counts are not judged.
use Rattle.std.specs.Prelude.{ℕ, Bool, ◌&&◌, leb}
use Rattle.number.specs.Constants.{decimal}
use Rattle.number.specs.Order.{within}
use Rattle.clock.specs.declared.hand.Clock.{Clock}
use Rattle.model.specs.Blank.{node_state_at, link_state_at}
use Rattle.model.specs.Loops.{all_below}
use Rattle.model.specs.declared.project.Project.{Project}
use Rattle.model.specs.declared.state.LinkState.{LinkState}
use Rattle.model.specs.declared.state.NodeState.{NodeState}
use Rattle.model.specs.declared.state.State.{State}
use Rattle.table_ranges.specs.Ranges.{status_ok}
use Rattle.tables.specs.Tables.{tables_ok}

unfoldable pub node_state_ok : NodeState → Bool
node_state_ok x =
    within (decimal 1000000000000 0) x.head && within (decimal 100000000000000000000 0) x.demand
    && within (decimal 100000000000000000000 0) x.demand_flow

unfoldable pub link_state_ok : LinkState → Bool
link_state_ok x = within (decimal 1000000000000 0) x.flow && status_ok x.status && within (decimal 1000000 0) x.setting

unfoldable pub state_clock_ok : ℕ → Clock → Bool
state_clock_ok duration c = leb c.instant duration && leb c.count c.instant

abbrev pub node_state_ok_at : State → ℕ → Bool
node_state_ok_at s i = node_state_ok (node_state_at s i)

unfoldable pub node_states_ok : Project → State → Bool
node_states_ok p s = all_below p.counts.nodes (node_state_ok_at s)

abbrev pub link_state_ok_at : State → ℕ → Bool
link_state_ok_at s i = link_state_ok (link_state_at s i)

unfoldable pub link_states_ok : Project → State → Bool
link_states_ok p s = all_below p.counts.links (link_state_ok_at s)

unfoldable pub state_ok : Project → State → Bool
state_ok p s = state_clock_ok p.options.duration s.clock && node_states_ok p s && link_states_ok p s

-- number 10 is not given
unfoldable pub in_order : Project → State → Bool
in_order p s = tables_ok p && state_ok p s
