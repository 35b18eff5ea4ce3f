-- Needs no belief: what the controls wait for, read into two lists of seconds. The second clock's walk by them is the definition's (second_clock/proofs/
-- Walks.antt), and so are the stops ahead (stops_ahead/proofs/Following.antt).
use Rattle.std.specs.Prelude.{ℕ, List, Option, None, set, replicate}
use Rattle.clock.specs.Triggers.{Trigger}
use Rattle.model.specs.Loops.{through}
use Rattle.model.specs.declared.control.Control.{Control}
use Rattle.control.specs.Controls.{Level}
pub use Rattle.run_kinds.specs.Calls.{time_of, clock_of}
pub use Rattle.run_kinds.specs.Triggers.{trigger_in, triggers_in}
use Rattle.awaited.specs.declared.Awaited.{Awaited}

-- what each of the first n controls of a table waits for
abbrev pub noted : (Trigger Level → Option ℕ) → List Control → ℕ → List (Option ℕ) → List (Option ℕ)
noted of controls i seconds = set seconds i (of (trigger_in controls i))

unfoldable pub notes : (Trigger Level → Option ℕ) → List Control → ℕ → List (Option ℕ)
notes of controls n = through n (noted of controls) (replicate 64 None)

abbrev pub awaited_by : List Control → ℕ → Awaited
awaited_by controls n = record { times = notes time_of controls n; clocks = notes clock_of controls n }
