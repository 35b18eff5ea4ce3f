-- `load::take_load` meets its contract: what the load goes by is laid out for it. Assumes nothing.
use mathlib.Core.Path.{ap, ◌∙◌}
use borrow.Author.Rules.{rules}
use Rattle.run_loads.specs.Loaded.{lists_loaded}
use Rattle.load.proofs.ByTable.{loaded_by_is}
use Rattle.load.proofs.take_load.Goals as goal

pub returns : goal.returns
returns c =
    let t = c.load_table.result in
    let tanks = c.tank_table-tanks in
    let words = c.args.words.now in
    loaded_by_is t tanks.result.at c.requires c.load_table.ensures tanks.ensures words c.args.s (search rules) c.state.result
    (c.state.ensures ∙ c.take.ensures ∙ ap (lists_loaded words t tanks.result.at) c.of-lists.ensures)
