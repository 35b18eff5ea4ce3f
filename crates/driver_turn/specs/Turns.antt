-- One turn of the driver's run (document 01, "The program `driver` reads standard input").
-- Assumes nothing.
use Rattle.std.specs.Prelude.{ℕ, Bool, true, false, cond, List, ltb, eqb, length}
use Rattle.listing.specs.Listing.{Line}
use Rattle.words.specs.Words.{first_words}
use Rattle.model.specs.declared.project.Project.{Project}
use Rattle.model.specs.declared.state.State.{State}
use Rattle.calls.specs.Calls.{patterns, controls, load, tank_links, step}
use Rattle.calls.specs.declared.Called.{Called}
use Rattle.driver_load.specs.Sizes.{load_words, load_bytes}

-- what a turn makes of a state and the bytes that are left: the next state, how many bytes it takes, its line, and whether the run ends there
pub record Turn : Type 0 where
  pub state : State
  pub taken : ℕ
  pub line : Line
  pub last : Bool

-- "Per step it applies patterns, then controls, takes one load if any is left, closes tank links and steps."

-- patterns, then controls
unfoldable pub prepared : Project → State → State
prepared p s = (controls p (patterns p s).state).state

-- closing, and the step, with "each step's starting instant and length"
unfoldable pub step_turn : Project → State → ℕ → Turn
step_turn p s taken =
    let closed = (tank_links p s).state in
    record { state = (step p closed).state; taken = taken; line = Line.step closed.clock.instant (step p closed).length; last = false }

-- the end, with its line; no more is read
abbrev pub end_turn : State → Line → Turn
end_turn s end = record { state = s; taken = 0; line = end; last = true }

-- "then the count"
abbrev pub finished_turn : State → Turn
finished_turn s = end_turn s (Line.finished s.clock.count)

-- "A fault prints the line `refused N` and ends"
abbrev pub refused_turn : State → ℕ → Turn
refused_turn s number = end_turn s (Line.refused number)

-- what a load's answer leads to
unfoldable pub load_turn : Project → Called → Turn
load_turn p answer = cond (eqb answer.number 0) (step_turn p answer.state (load_bytes p)) (refused_turn answer.state answer.number)

-- with the patterns and controls applied: a step where no byte is left; "a load cut by the end of the input is 7"; else the load
unfoldable pub input_turn : Project → State → List ℕ → Turn
input_turn p s bytes =
    cond (eqb (length bytes) 0) (step_turn p s 0)
    (cond (ltb (length bytes) (load_bytes p)) (refused_turn s 7)
    (load_turn p (load p (first_words (load_words p) bytes) s)))

-- at the duration the run ends, whatever is left: "Loads left over are not read"
unfoldable pub turn : Project → State → List ℕ → Turn
turn p s bytes = cond (ltb s.clock.instant p.options.duration) (input_turn p (prepared p s) bytes) (finished_turn s)
