-- `tank::tank::gap_time` meets its contract. Assumes nothing.
use mathlib.Core.Path.{◌≡◌, sym, ap, ◌∙◌}
use mathlib.Core.Bool.{Bool}
use lib.Ieee.{Float, of_bits, lt}
use Rattle.number.specs.Order.{abs}
use Rattle.number.specs.Constants.{decimal}
use Rattle.tank.specs.Tanks.{gap_time}
use Rattle.tank.proofs.tank.gap_time.Goals as goal

-- what the code's test of y says of |x|
narrow : (x : Float) {y : Float} {b : Bool} → y ≡ abs x → lt y (decimal 5 1) ≡ b → lt (abs x) (decimal 5 1) ≡ b
narrow x e w = sym (ap (λ (m : Float). lt m (decimal 5 1)) e) ∙ w

pub returns-then-abs : goal.returns-then-abs
unfolding gap_time decimal of_bits
returns-then-abs c = rw (narrow c.args.gap.0 c.abs.ensures c.if-abs.true)

pub returns-then-volume-rate : goal.returns-then-volume-rate
unfolding gap_time decimal of_bits
returns-then-volume-rate c = rw (narrow c.args.gap.0 c.abs.ensures c.if-abs.false, c.if-volume-rate.true) c.round_to_u64.ensures

pub returns : goal.returns
unfolding gap_time decimal of_bits
returns c = rw (narrow c.args.gap.0 c.abs.ensures c.if-abs.false, c.if-volume-rate.false)
