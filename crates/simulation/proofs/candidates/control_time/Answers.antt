-- `simulation::candidates::control_time` meets its contract: the passes on what is unpacked, kind by kind. Assumes nothing.
use Rattle.simulation.proofs.ControlTime.{control_time_is}
use Rattle.simulation.proofs.candidates.control_time.Goals as goal

pub returns : goal.returns
returns c =
    let k = c.calls_of-calls.ensures in
    rw (c.control_time.ensures, c.clock_time-clock.ensures, c.of-lists.ensures) (control_time_is c.requires c.tank_table-tanks.ensures c.args.s k.times k.clocks k.levels)
