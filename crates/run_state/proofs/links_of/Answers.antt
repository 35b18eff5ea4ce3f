-- `run_state::links_of` meets its contract. Assumes nothing.
use mathlib.Core.Path.{refl}
use borrow.Author.Rules.{rules}
use Rattle.model.specs.Blank.{blank_link_state}
use Rattle.run_state.specs.Lists.{flow_of, status_of, setting_of}
use Rattle.run_state.proofs.Apart.{links_made}
use Rattle.run_state.proofs.Filled.{fill_none, fill, projected}
use Rattle.run_state.proofs.links_of.Goals as goal

pub loop-i-init : goal.loop-i-init
loop-i-init c = record { flows = fill_none (search rules); statuses = fill_none (search rules); settings = fill_none (search rules) }

pub loop-i-preserved : goal.loop-i-preserved
loop-i-preserved c =
    let i = c.loop-i.invariant in
    record { flows = fill i.flows c.loop-i-test.true refl; statuses = fill i.statuses c.loop-i-test.true refl; settings = fill i.settings c.loop-i-test.true refl }

pub returns : goal.returns
returns c =
    let i = c.loop-i.invariant in
    links_made
    (projected flow_of blank_link_state c.args.table.now i.flows c.loop-i-test.false c.told-table)
    (projected status_of blank_link_state c.args.table.now i.statuses c.loop-i-test.false c.told-table)
    (projected setting_of blank_link_state c.args.table.now i.settings c.loop-i-test.false c.told-table)
