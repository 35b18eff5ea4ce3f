-- `simulation::candidates::on_fast_path` meets its contract. Assumes nothing.
use Rattle.simulation.specs.Steps.{on_fast_path}
use mathlib.Core.Path.{◌≡◌}
use mathlib.Core.Bool.{Bool, true, ◌&&◌}
use borrow.Author.Tests.{eq-eqb, ne_eqb}
use Rattle.simulation.proofs.candidates.on_fast_path.Goals as goal

last_of_three : (a b c r : Bool) → a ≡ true → b ≡ true → r ≡ c → r ≡ (a && b && c)
last_of_three a b c r x y e = rw (x, y) e

pub returns-then-not-skip : goal.returns-then-not-skip
unfolding on_fast_path
returns-then-not-skip c = rw c.if-not-skip.true

pub returns-then-controls-ne0 : goal.returns-then-controls-ne0
unfolding on_fast_path
returns-then-controls-ne0 c = rw (c.if-not-skip.false, ne_eqb _ _ c.if-controls-ne0.true)

pub returns : goal.returns
unfolding on_fast_path
returns c = last_of_three c.args.p.options.skip _ _ _ c.if-not-skip.false (eq-eqb _ _ c.if-controls-ne0.false) c.no_tanks.ensures
