-- `run_state::nodes_listed` meets its contract. Assumes nothing.
use mathlib.Core.Path.{refl}
use borrow.Author.Rules.{rules}
use Rattle.model.specs.Blank.{blank_node_state}
use Rattle.run_state.specs.Lists.{head_of, demand_of, demand_flow_of}
use Rattle.run_state.proofs.Apart.{lists_made}
use Rattle.run_state.proofs.Filled.{fill_none, fill, projected}
use Rattle.run_state.proofs.nodes_listed.Goals as goal

pub loop-i-init : goal.loop-i-init
loop-i-init c = record { heads = fill_none (search rules); demands = fill_none (search rules); demand_flows = fill_none (search rules); links = refl; clock = refl }

pub loop-i-preserved : goal.loop-i-preserved
loop-i-preserved c =
    let i = c.loop-i.invariant in
    record {
      heads = fill i.heads c.loop-i-test.true refl;
      demands = fill i.demands c.loop-i-test.true refl;
      demand_flows = fill i.demand_flows c.loop-i-test.true refl;
      links = i.links;
      clock = i.clock;
    }

pub returns : goal.returns
returns c =
    let i = c.loop-i.invariant in
    lists_made
    (projected head_of blank_node_state c.args.table.now i.heads c.loop-i-test.false c.told-table)
    (projected demand_of blank_node_state c.args.table.now i.demands c.loop-i-test.false c.told-table)
    (projected demand_flow_of blank_node_state c.args.table.now i.demand_flows c.loop-i-test.false c.told-table)
    i.links
    i.clock
