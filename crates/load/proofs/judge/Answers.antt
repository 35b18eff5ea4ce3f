-- `load::judge` meets its contract. Assumes nothing.
use mathlib.Core.Path.{◌∙◌}
use Rattle.load.proofs.Values.{load_fault_is}
use Rattle.load.proofs.judge.Goals as goal

pub returns : goal.returns
returns c =
    let laid = c.load_table.ensures in
    c.judge.ensures ∙ rw laid.count (load_fault_is c.args.p laid.junctions c.args.words.now)
