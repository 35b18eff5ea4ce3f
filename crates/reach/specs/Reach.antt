-- "The time to a level now answers one of: arrived, so many seconds, never."
use Rattle.std.specs.Prelude.{ℕ, cond, eqb}
use Rattle.number.specs.Constants.{MAX}
use Rattle.reach.specs.declared.Reach.{Reach}
use Rattle.reach.specs.declared.Reach.TheVariants.{Arrived, Seconds, Never}

-- "The old 0 is arrived, MAX never, the rest the same seconds"
unfoldable pub reach_of : ℕ → Reach
reach_of n = cond (eqb n 0) Arrived (cond (eqb n MAX) Never (Seconds n))

-- Document 01: "Where an answer is an enum, a definition gives this paper's number and values for each case of the enum." The number is document 01's
-- seconds: the clock counts by it, and "MAX as hours stays 2^64 / 3,600".
abbrev pub seconds_of : Reach → ℕ
seconds_of Arrived = 0
seconds_of (Seconds n) = n
seconds_of Never = MAX
