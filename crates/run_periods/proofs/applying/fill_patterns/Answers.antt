-- `run_periods::applying::fill_patterns` meets its contract. The passes, one after the other. Assumes nothing.
use Rattle.run_periods.specs.Applying.{inputs_of, written_in}
use Rattle.run_periods.proofs.Made.{copied, uncopied, filled_made}
use Rattle.run_periods.proofs.applying.fill_patterns.Goals as goal

pub returns-then-t-clause-lists_after : goal.returns-then-t-clause-lists_after
returns-then-t-clause-lists_after c =
    let a = c.args in
    filled_made (inputs_of a.t.now a.multipliers.now) a.time (written_in a.table.now a.lists.now)
    c.fill_multipliers.ensures c.fill_demands.ensures c.fill_heads.ensures (copied _ _ _ c.if-t.true c.copy_demands.ensures)

pub returns-else-t-clause-lists_after : goal.returns-else-t-clause-lists_after
returns-else-t-clause-lists_after c =
    let a = c.args in
    filled_made (inputs_of a.t.now a.multipliers.now) a.time (written_in a.table.now a.lists.now)
    c.fill_multipliers.ensures c.fill_demands.ensures c.fill_heads.ensures (uncopied _ _ _ c.if-t.false)
