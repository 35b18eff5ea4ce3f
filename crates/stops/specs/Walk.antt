-- Document 02, R-10: the clock that counts seconds. "It walks one second at a time and stops where the options or controls call for it: report,
-- pattern, hydraulic timestep, time and clock controls, duration."
use Rattle.std.specs.Prelude.{ℕ, zero, suc, ◌+◌, ◌-◌, Bool, cond, ◌||◌, List, eqb}
use Rattle.clock.specs.Triggers.{Trigger}
use Rattle.clock.specs.declared.length.Times.{Times}
use Rattle.stops.specs.Stops.{stops_at}

-- the seconds walked in all by a test of where to stop, where n have been walked and k more are left to the duration
unfoldable pub walked : (ℕ → Bool) → ℕ → ℕ → ℕ
walked stops n zero = n
walked stops n (suc k) = cond (stops (suc n)) (suc n) (walked stops (suc n) k)

module _ {L : Type 0} (o : Times) (ts : List (Trigger L)) (from : ℕ) where
  -- whether it stops n seconds after the instant that it walks from: at an instant that calls for it, or after the hydraulic timestep
  unfoldable pub stops_after : ℕ → Bool
  stops_after n = stops_at o ts (from + n) || eqb n o.hydraulic

  -- the seconds to the next stop; at the duration none
  unfoldable pub walk : ℕ
  walk = walked stops_after 0 (o.duration - from)
