-- Lists of calls on a machine, and what is counted along them. "Each call gets the state the last one returned or left."
use Rattle.std.specs.Prelude.{ℕ, ◌+◌, Bool, true, false, cond, not, ◌&&◌, ◌||◌, List, [], ◌∷◌, ltb, eqb}
use Rattle.clock.specs.Triggers.{Trigger, at_time, at_clock, at_level, untimed, Moment}

-- A call gives a number, 0 where it is accepted, and leaves a state; one that asks for a step answers its length.
pub record Machine (L : Type 0) : Type 1 where
  pub State : Type 0
  pub Call : Type 0
  pub number : Call → State → ℕ
  pub after : Call → State → State
  pub is_step : Call → Bool
  pub answer : Call → State → ℕ
  pub instant : State → ℕ
  pub count : State → ℕ
  pub moment : State → Moment L
  -- the numbers that a call may give on an accepted project's list
  pub MayGive : Call → ℕ → Type 0
  -- what holds of the state all along such a list
  pub Sound : State → Type 0

abbrev pub bit : Bool → ℕ
bit true = 1
bit false = 0

-- n is the time of a level control
abbrev pub is_level_time : {L : Type 0} → Moment L → ℕ → Trigger L → Bool
is_level_time m n (at_time s) = false
is_level_time m n (at_clock s) = false
is_level_time m n (at_level l) = eqb n (m.level l)
is_level_time m n untimed = false

-- n is the time of one of them
unfoldable pub is_some_level_time : {L : Type 0} → List (Trigger L) → Moment L → ℕ → Bool
is_some_level_time [] m n = false
is_some_level_time (t ∷ ts) m n = is_level_time m n t || is_some_level_time ts m n

-- "the steps as long as that moment's tank or level-control time"; one of 0 "adds nothing to the bound"
unfoldable pub as_long : {L : Type 0} → List (Trigger L) → Moment L → ℕ → Bool
as_long ts m n = ltb 0 n && (eqb n m.tank || is_some_level_time ts m n)

module _ {L : Type 0} (M : Machine L) where
  -- the state that a list leaves
  unfoldable pub final : List M.Call → M.State → M.State
  final [] s = s
  final (c ∷ cs) s = final cs (M.after c s)

  -- P of each call of a list and the state for the calls before
  abbrev pub Along : (M.Call → M.State → Type 0) → List M.Call → M.State → Type 0
  Along P [] s = Unit {0}
  Along P (c ∷ cs) s = P c s × Along P cs (M.after c s)

  -- the steps asked
  unfoldable pub asked : List M.Call → ℕ
  asked [] = 0
  asked (c ∷ cs) = bit (M.is_step c) + asked cs

  -- the sum of the steps answered
  unfoldable pub answered : List M.Call → M.State → ℕ
  answered [] s = 0
  answered (c ∷ cs) s = cond (M.is_step c) (M.answer c s) 0 + answered cs (M.after c s)

  -- the number of times the clock moved
  unfoldable pub times_moved : List M.Call → M.State → ℕ
  times_moved [] s = 0
  times_moved (c ∷ cs) s = bit (not (eqb (M.instant (M.after c s)) (M.instant s))) + times_moved cs (M.after c s)

  -- how many of a list's steps are as long
  unfoldable pub state_steps : List (Trigger L) → List M.Call → M.State → ℕ
  state_steps ts [] s = 0
  state_steps ts (c ∷ cs) s = bit (M.is_step c && as_long ts (M.moment s) (M.answer c s)) + state_steps ts cs (M.after c s)
