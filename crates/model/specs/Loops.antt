-- Counted loops and tests over a table.
use Rattle.std.specs.Prelude.{ℕ, zero, suc, Bool, true, ◌&&◌, List, get_or, set}

-- `through n f s`: f at 0, at 1, .. and at n - 1, one after the other, from s
unfoldable pub through : {S : Type 0} → ℕ → (ℕ → S → S) → S → S
through zero f s = s
through (suc n) f s = f n (through n f s)

-- `all_below n test`: the test holds at each of 0, 1, .. and n - 1
unfoldable pub all_below : ℕ → (ℕ → Bool) → Bool
all_below zero test = true
all_below (suc n) test = all_below n test && test n
