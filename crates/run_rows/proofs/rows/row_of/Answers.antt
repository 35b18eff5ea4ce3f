-- `run_rows::rows::row_of` meets its contract. Assumes nothing.
use Rattle.std.specs.Prelude.{None, Option, Some}
use Prim.Native.Nat.{ℕ}
use mathlib.Core.Path.{◌≡◌, refl}
use lib.Ieee.{Float, of_bits}
use Rattle.std.specs.Option.{unwrap_or}
use Rattle.number.specs.Constants.{decimal}
use Rattle.run_rows.specs.Rows.{new_status, new_setting}
use Rattle.run_rows.proofs.rows.row_of.Goals as goal

status_is : (x : Option ℕ) → unwrap_or x 0 ≡ new_status x
status_is (Some x) = refl
status_is None = refl

setting_is : (x : Option Float) → unwrap_or x (decimal 0 0) ≡ new_setting x
setting_is (Some x) = refl
setting_is None = refl

pub returns : goal.returns
unfolding decimal of_bits
returns c =
    rw (c.kind_of.ensures, c.is_tank.ensures, c.watched.ensures, c.condition_seconds.ensures, c.action_of.ensures, c.unwrap_or.ensures, c.elevation.ensures, c.condition_target.ensures, c.unwrap_or-2.ensures, c.initial_flow.ensures, status_is c.args.c.status, setting_is c.args.c.setting)
