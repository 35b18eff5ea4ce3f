-- What a step does to the clock: one of 0 leaves it, and another that stays below 2 ^ 32 adds its length to the instant and 1 to the count.
-- The facts decide the definition's tests. Assumes nothing.
use Prim.Native.Nat.{ℕ, ◌+◌, ◌<◌, ◌^◌}
use mathlib.Core.Path.{◌≡◌}
use borrow.Author.Tests.{eq-eqb, ne_eqb, lt-ltb}
use Rattle.clock.specs.declared.hand.Clock.{Clock}
use Rattle.clock.specs.Steps.{advanced}

module _ (c : Clock) (length : ℕ) where
  pub advanced_stays : length ≡ 0 → advanced c length ≡ c
  unfolding advanced
  advanced_stays e = rw (eq-eqb length 0 e)

  pub advanced_moves : (length ≡ 0 → ⊥) → c.instant + length < 2 ^ 32 → c.count + 1 < 2 ^ 32
      → advanced c length ≡ record { instant = c.instant + length; count = c.count + 1 }
  unfolding advanced
  advanced_moves n i k = rw (ne_eqb length 0 n, lt-ltb (c.instant + length) (2 ^ 32) i, lt-ltb (c.count + 1) (2 ^ 32) k)
