-- `load::value_count` meets its contract. Assumes nothing.
use mathlib.Core.Path.{◌∙◌}
use Rattle.load.proofs.Values.{values_are}
use Rattle.load.proofs.value_count.Goals as goal

pub returns : goal.returns
returns c =
    let laid = c.load_table.ensures in
    c.count.ensures ∙ rw laid.count (values_are c.args.p laid.junctions)
