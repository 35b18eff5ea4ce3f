-- `stops_ahead::ahead::next_after` meets its contract: a step ends at the duration at the latest. Assumes nothing.
use native.Mathlib.Omega.{arith}
use Rattle.number.specs.Constants.{MAX}
use Rattle.clock.proofs.Lengths.{step_is}
use Rattle.stops_ahead.specs.Ahead.{next_after}
use Rattle.stops_ahead.proofs.ahead.next_after.Goals as goal

pub awaited_time-controls-requires : goal.awaited_time-controls-requires
awaited_time-controls-requires c = c.requires.count_bound

pub overflow_add-result : goal.overflow_add-result
overflow_add-result c =
    let a = c.args in
    let q = c.requires.duration_bound in
    omega (arith, q.0, q.1, c.step_length.ensures, step_is a.o MAX c.awaited_time-controls.result a.time q.1)

pub returns : goal.returns
unfolding next_after
returns c = rw (c.step_length.ensures, c.awaited_time-controls.ensures, c.clock_time-clock.ensures)
