-- `state::controls::apply_controls` meets its contract: the pass on the state's lists, made a state again. Assumes nothing.
use Rattle.state.proofs.Controlled.{controls_packed}
use Rattle.state.proofs.Inside.{controls_inside}
use Rattle.state.proofs.controls.apply_controls.Goals as goal

pub control_table-t-requires : goal.control_table-t-requires
control_table-t-requires c = controls_inside c.requires

pub returns : goal.returns
returns c = controls_packed c.args.p c.args.s _ c.control_table-t.ensures c.of-lists.ensures c.clock_time-hour.ensures c.apply_controls.ensures c.state.ensures
