-- `tank::tank::Tank::new_head` meets its contract. Assumes nothing.
use mathlib.Core.Path.{ap}
use lib.Ieee.{Float, binary64, add, of_bits}
use Rattle.number.specs.Constants.{decimal}
use Rattle.tank.specs.Tanks.{new_head}
use Rattle.tank.proofs.tank.Tank.new_head.Goals as goal

pub returns : goal.returns
unfolding new_head decimal of_bits
returns c = ap (λ (x : Float). record { 0 = add binary64 c.args.self.elevation.0 x }) c.clamp.ensures
