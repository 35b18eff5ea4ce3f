-- Needs no belief: what the controls of each kind wait for, and what the arrays hold of it.
use Rattle.std.specs.Prelude.{ℕ, ◌<◌, ◌≡◌, Bool, cond, List, [], ◌∷◌, Option, Some, None, get_or, length}
use Rattle.clock.specs.Triggers.{Trigger, at_time, at_clock, at_level, untimed}

-- ---- one control: the instant that it waits for, and the clock time
module _ {L : Type 0} where
  abbrev pub time_of : Trigger L → Option ℕ
  time_of (at_time s) = Some s
  time_of (at_clock s) = None
  time_of (at_level l) = None
  time_of untimed = None

  abbrev pub clock_of : Trigger L → Option ℕ
  clock_of (at_time s) = None
  clock_of (at_clock s) = Some s
  clock_of (at_level l) = None
  clock_of untimed = None

-- ---- a list of controls, in its order
module _ {L : Type 0} where
  -- their times
  unfoldable pub times_in : List (Trigger L) → List ℕ
  times_in [] = []
  times_in (at_time s ∷ ts) = s ∷ times_in ts
  times_in (at_clock s ∷ ts) = times_in ts
  times_in (at_level l ∷ ts) = times_in ts
  times_in (untimed ∷ ts) = times_in ts

  -- their clock times
  unfoldable pub clocks_in : List (Trigger L) → List ℕ
  clocks_in [] = []
  clocks_in (at_time s ∷ ts) = clocks_in ts
  clocks_in (at_clock s ∷ ts) = s ∷ clocks_in ts
  clocks_in (at_level l ∷ ts) = clocks_in ts
  clocks_in (untimed ∷ ts) = clocks_in ts

  -- their levels, those of tanks alone
  unfoldable pub levels_in : (L → Bool) → List (Trigger L) → List L
  levels_in tank [] = []
  levels_in tank (at_time s ∷ ts) = levels_in tank ts
  levels_in tank (at_clock s ∷ ts) = levels_in tank ts
  levels_in tank (at_level l ∷ ts) = cond (tank l) (l ∷ levels_in tank ts) (levels_in tank ts)
  levels_in tank (untimed ∷ ts) = levels_in tank ts

-- ---- the arrays
-- the first n entries of an array are a list
pub record Laid (array : List ℕ) (n : ℕ) (xs : List ℕ) : Type 0 where
  pub count : n ≡ length xs
  pub each : (i : ℕ) → i < n → get_or array i 0 ≡ get_or xs i 0
