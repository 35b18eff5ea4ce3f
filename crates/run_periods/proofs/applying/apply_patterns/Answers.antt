-- `run_periods::applying::apply_patterns` meets its contract. At the period in force the tanks alone, else the passes. Assumes nothing.
use Rattle.run_periods.specs.Applying.{inputs_of, written_in}
use Rattle.run_periods.proofs.Made.{again_made, anew_made}
use Rattle.run_periods.proofs.applying.apply_patterns.Goals as goal

pub returns-then-current-in_force-clause-lists_after : goal.returns-then-current-in_force-clause-lists_after
returns-then-current-in_force-clause-lists_after c =
    let a = c.args in
    again_made (inputs_of a.t.now a.multipliers.now) a.time (written_in a.table.now a.lists.now)
    a.tanks.now.nodes a.tanks.now.count a.in_force c.period-current.ensures c.if-current-in_force.true c.empty_tanks.ensures

pub returns-else-current-in_force-clause-lists_after : goal.returns-else-current-in_force-clause-lists_after
returns-else-current-in_force-clause-lists_after c =
    let a = c.args in
    anew_made (inputs_of a.t.now a.multipliers.now) a.time (written_in a.table.now a.lists.now)
    a.tanks.now.nodes a.tanks.now.count a.in_force c.period-current.ensures c.if-current-in_force.false c.fill_patterns.ensures.lists_after
