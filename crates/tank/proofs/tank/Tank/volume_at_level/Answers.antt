-- `tank::tank::Tank::volume_at_level` meets its contract. Assumes nothing.
use lib.Ieee.{of_bits}
use Rattle.number.specs.Constants.{decimal}
use Rattle.tank.specs.Tanks.{volume_at_level}
use Rattle.tank.proofs.tank.Tank.volume_at_level.Goals as goal

pub returns-then-height : goal.returns-then-height
unfolding volume_at_level decimal of_bits
returns-then-height c = rw c.if-height.true

pub returns : goal.returns
unfolding volume_at_level decimal of_bits
returns c = rw c.if-height.false
