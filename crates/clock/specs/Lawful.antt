-- Needs no belief: what the theorem of demand 3 asks of a machine and of an accepted project's times, and which the prover sees met (demand3/proofs).
use Rattle.std.specs.Prelude.{ℕ, ◌+◌, ◌<◌, ◌≡◌, true, false, List, [], ◌∷◌, ltb}
use Rattle.number.specs.Constants.{MAX}
use Rattle.clock.specs.declared.length.Times.{Times}
use Rattle.clock.specs.Steps.{DAY}
use Rattle.clock.specs.Triggers.{Trigger, at_time, at_clock, at_level, untimed, length_at}
use Rattle.clock.specs.Machine.{Machine, bit}

-- ---- of an accepted project's times and controls
abbrev pub ClockInDay : {L : Type 0} → Trigger L → Type 0
ClockInDay (at_time s) = Unit {0}
ClockInDay (at_clock s) = s < DAY
ClockInDay (at_level l) = Unit {0}
ClockInDay untimed = Unit {0}

abbrev pub Each : {A : Type 0} → (A → Type 0) → List A → Type 0
Each P [] = Unit {0}
Each P (a ∷ l) = P a × Each P l

pub record Accepted {L : Type 0} (o : Times) (ts : List (Trigger L)) : Type 0 where
  pub report : 0 < o.report
  pub pattern : 0 < o.pattern
  pub duration : o.duration < MAX
  pub clocks : Each ClockInDay ts

-- ---- of each call: it keeps what is sound and gives a number that it may; the clock stays, or moves by the step that the definition gives
pub record Stepping {L : Type 0} (M : Machine L) (o : Times) (ts : List (Trigger L)) (c : M.Call) (s : M.State) : Type 0 where
  pub length : M.answer c s ≡ length_at o ts (M.moment s) (M.instant s)
  pub instant : M.instant (M.after c s) ≡ M.instant s + M.answer c s
  pub count : M.count (M.after c s) ≡ M.count s + bit (ltb 0 (M.answer c s))

pub record Quiet {L : Type 0} (M : Machine L) (c : M.Call) (s : M.State) : Type 0 where
  pub instant : M.instant (M.after c s) ≡ M.instant s
  pub count : M.count (M.after c s) ≡ M.count s

pub record Lawful {L : Type 0} (M : Machine L) (o : Times) (ts : List (Trigger L)) : Type 0 where
  pub sound : (c : M.Call) (s : M.State) → M.Sound s → M.Sound (M.after c s)
  pub number : (c : M.Call) (s : M.State) → M.Sound s → M.MayGive c (M.number c s)
  pub quiet : (c : M.Call) (s : M.State) → M.Sound s → M.is_step c ≡ false → Quiet M c s
  pub step : (c : M.Call) (s : M.State) → M.Sound s → M.is_step c ≡ true → Stepping M o ts c s

-- ---- of the state that a list starts on: "instant and count 0"
pub record Start {L : Type 0} (M : Machine L) (s : M.State) : Type 0 where
  pub sound : M.Sound s
  pub instant : M.instant s ≡ 0
  pub count : M.count s ≡ 0
