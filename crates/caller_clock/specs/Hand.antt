-- The clock with these two numbers.
use Rattle.std.specs.Prelude.{ℕ}
use Rattle.clock.specs.declared.hand.Clock.{Clock}

abbrev pub clock_of : ℕ → ℕ → Clock
clock_of instant count = record { instant = instant; count = count }
