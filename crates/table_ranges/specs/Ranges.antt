-- Document 01, "Ranges". A number that is not finite is in none of them.
use Rattle.std.specs.Prelude.{None, Option, Some}
use Rattle.std.specs.Prelude.{ℕ, Bool, true, ◌&&◌, leb, ltb, Float}
use Rattle.number.specs.Constants.{decimal}
use Rattle.number.specs.Order.{in_range, within}

-- "Times 0 to 315,360,000"
unfoldable pub time_ok : ℕ → Bool
time_ok seconds = leb seconds 315360000

-- "report and pattern timesteps from 1"
unfoldable pub timestep_ok : ℕ → Bool
timestep_ok seconds = leb 1 seconds && time_ok seconds

-- "start clock and clock controls to 86,399"
unfoldable pub clock_ok : ℕ → Bool
clock_ok seconds = leb seconds 86399

-- "Elevations, levels and targets within ±100,000"
unfoldable pub feet_ok : Float → Bool
feet_ok x = within (decimal 100000 0) x

-- "Diameters 0.001 to 10,000."
unfoldable pub diameter_ok : Float → Bool
diameter_ok x = in_range (decimal 1 3) (decimal 10000 0) x

-- "Other image numbers within ±1,000,000"
unfoldable pub number_ok : Float → Bool
number_ok x = within (decimal 1000000 0) x

-- "premise numbers within ±10^12"
unfoldable pub premise_number_ok : Float → Bool
premise_number_ok x = within (decimal 1000000000000 0) x

-- "Statuses are 0 to 9"
unfoldable pub status_ok : ℕ → Bool
status_ok status = leb status 9

-- "index to nothing declared": a pattern, where one is named
unfoldable pub pattern_index_ok : ℕ → Option ℕ → Bool
pattern_index_ok patterns None = true
pattern_index_ok patterns (Some i) = ltb i patterns
