-- Needs no belief: the tests of one second by what the controls wait for (awaited/specs), each list as words. `walk-by-is` (proofs/Walks.antt) shows that
-- the walk by them is the definition's.
use Rattle.std.specs.Prelude.{ℕ, ◌+◌, ◌%◌, ◌≤◌, ◌<◌, Bool, false, ◌||◌, List, Option, None, Some, eqb, get_or, set, replicate}
use Rattle.clock.specs.Steps.{clock_time}
use Rattle.clock.specs.declared.length.Times.{Times}
use Rattle.model.specs.Loops.{through}

-- no instant of a walk, and no clock time
abbrev pub NEVER : ℕ
NEVER = 4294967295

-- what a control waits for as a word: a second is tested by comparing words, without a branch for those that wait for nothing
abbrev pub or_never : Option ℕ → ℕ
or_never (Some s) = s
or_never None = NEVER

-- a list of what 64 controls wait for, as words
abbrev pub word_put : List (Option ℕ) → ℕ → List ℕ → List ℕ
word_put seconds i words = set words i (or_never (get_or seconds i None))

unfoldable pub words_of : List (Option ℕ) → List ℕ
words_of seconds = through 64 (word_put seconds) (replicate 64 NEVER)

-- whether one of the first n waits for the instant u, or for its clock time
abbrev pub or_calls : List ℕ → List ℕ → ℕ → ℕ → ℕ → Bool → Bool
or_calls times clocks u clock i called = called || (eqb u (get_or times i 0) || eqb clock (get_or clocks i 0))

unfoldable pub any_calls : List ℕ → List ℕ → ℕ → ℕ → ℕ → Bool
any_calls times clocks n u clock = through n (or_calls times clocks u clock) false

-- the options and the controls, at the instant u and n seconds after the walk began
abbrev pub stops_then : Times → Bool → ℕ → ℕ → Bool
stops_then o called u n = (eqb (u % o.report) 0 || (eqb (u % o.pattern) 0 || (called || eqb u o.duration))) || eqb n o.hydraulic

-- the same n seconds after an instant, by the two lists
abbrev pub stops_by : Times → List ℕ → List ℕ → ℕ → ℕ → ℕ → Bool
stops_by o times clocks count from n = stops_then o (any_calls times clocks count (from + n) (clock_time o.start_clock (from + n))) (from + n) n

-- of the options of tables that fit
pub record TimesFit (o : Times) : Type 0 where
  pub duration : o.duration ≤ 315360000
  pub clock : o.start_clock < 86400
  pub report : 0 < o.report
  pub pattern : 0 < o.pattern
