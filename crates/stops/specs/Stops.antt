-- Document 02, R-10 and R-14: the instants at which the options or controls call for a stop.
use Rattle.std.specs.Prelude.{ℕ, zero, suc, ◌-◌, ◌%◌, Bool, false, cond, ◌||◌, List, [], ◌∷◌, eqb}
use Rattle.clock.specs.Steps.{clock_time}
use Rattle.clock.specs.Triggers.{Trigger, at_time, at_clock, at_level, untimed}
use Rattle.clock.specs.declared.length.Times.{Times}

-- "time-control instants, instants whose clock equals a clock control": whether a control calls for a stop at the instant u, of this clock time
abbrev pub calls_now : {L : Type 0} → ℕ → ℕ → Trigger L → Bool
calls_now u clock (at_time s) = eqb u s
calls_now u clock (at_clock s) = eqb clock s
calls_now u clock (at_level l) = false
calls_now u clock untimed = false

module _ {L : Type 0} (o : Times) where
  -- the same by the start clock, of one control and of a list
  abbrev pub calls_at : ℕ → Trigger L → Bool
  calls_at u t = calls_now u (clock_time o.start_clock u) t

  unfoldable pub called_at : List (Trigger L) → ℕ → Bool
  called_at [] u = false
  called_at (t ∷ ts) u = calls_at u t || called_at ts u

  -- "multiples of report and of pattern timestep, time-control instants, instants whose clock equals a clock control, and the duration": whether u is
  -- one. R-10's walk stops there too: "report, pattern, .. time and clock controls, duration".
  unfoldable pub stops_at : List (Trigger L) → ℕ → Bool
  stops_at ts u = eqb (u % o.report) 0 || (eqb (u % o.pattern) 0 || (called_at ts u || eqb u o.duration))

  -- those above t and not past t + n: each instant is asked once, in rising order, so that "Instants set by two causes count once"
  unfoldable pub stops : List (Trigger L) → ℕ → ℕ → List ℕ
  stops ts t zero = []
  stops ts t (suc n) = cond (stops_at ts (suc t)) (suc t ∷ stops ts (suc t) n) (stops ts (suc t) n)

  -- those above t and "not past the duration"
  unfoldable pub stops_above : List (Trigger L) → ℕ → List ℕ
  stops_above ts t = stops ts t (o.duration - t)
