-- A table's controls as the clock sees them.
use Rattle.std.specs.Prelude.{ℕ, zero, suc, List, [], ◌∷◌, ◌++◌, get_or}
use Rattle.clock.specs.Triggers.{Trigger}
use Rattle.control.specs.Controls.{Level, trigger_of}
use Rattle.model.specs.Blank.{blank_control}
use Rattle.model.specs.declared.control.Control.{Control}

-- f at 0, at 1, .. and at n - 1
unfoldable pub listed : {A : Type 0} → ℕ → (ℕ → A) → List A
listed zero f = []
listed (suc n) f = listed n f ++ (f n ∷ [])

-- the first n controls of a table
abbrev pub trigger_in : List Control → ℕ → Trigger Level
trigger_in controls i = trigger_of (get_or controls i blank_control).condition

abbrev pub triggers_in : List Control → ℕ → List (Trigger Level)
triggers_in controls n = listed n (trigger_in controls)
