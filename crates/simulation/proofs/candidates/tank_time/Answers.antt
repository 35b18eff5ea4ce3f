-- `simulation::candidates::tank_time` meets its contract: the pass on what is unpacked. Assumes nothing.
use Rattle.simulation.proofs.TankTime.{tank_time_is}
use Rattle.simulation.proofs.candidates.tank_time.Goals as goal

pub returns : goal.returns
returns c = rw (c.tank_time.ensures, c.of-lists.ensures) (tank_time_is c.args.p c.tank_table-tanks.ensures c.args.s)
