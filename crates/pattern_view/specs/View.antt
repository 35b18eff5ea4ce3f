-- "Borrowed `&network.patterns[..]`: a slice and an instant first, then a pattern view that holds the lent multipliers."
use Rattle.std.specs.Prelude.{ℕ, List, Float}
use Rattle.model.specs.Patterns.{period, multiplier_at}

-- the multiplier in force at an instant
unfoldable pub multiplier_in_force : List Float → ℕ → ℕ → ℕ → Float
multiplier_in_force ms start timestep time = multiplier_at ms (period start timestep time)
