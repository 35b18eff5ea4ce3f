-- `run_tables::tanks::tank_of` meets its contract. Assumes nothing.
use Rattle.run_tables.proofs.TankRows.{no_reservoir, no_junction}
use Rattle.run_tables.proofs.tanks.tank_of.Goals as goal

pub returns-in-Reservoir : goal.returns-in-Reservoir
returns-in-Reservoir c = absurd (no_reservoir c.in-Reservoir.is c.requires)

pub returns-in-Junction : goal.returns-in-Junction
returns-in-Junction c = absurd (no_junction c.in-Junction.is c.requires)
