-- The driver's run, turn by turn (document 01, "The program `driver` reads standard input").
-- Assumes nothing.
use Rattle.std.specs.Prelude.{ℕ, zero, suc, Bool, cond, List, [], ◌∷◌, ◌++◌, drop}
use Rattle.listing.specs.Listing.{Line}
use Rattle.model.specs.declared.project.Project.{Project}
use Rattle.model.specs.declared.state.State.{State}
use Rattle.driver_turn.specs.Turns.{Turn, turn}

-- a run: its state, the bytes that are left, the lines that it has printed, and whether it is over
pub record Run : Type 0 where
  pub state : State
  pub left : List ℕ
  pub lines : List Line
  pub over : Bool

abbrev pub joined : Run → Turn → Run
joined r t = record { state = t.state; left = drop t.taken r.left; lines = r.lines ++ (t.line ∷ []); over = t.last }

abbrev pub next : Project → Run → Run
next p r = cond r.over r (joined r (turn p r.state r.left))

-- n turns
unfoldable pub turns : ℕ → Project → Run → Run
turns zero p r = r
turns (suc n) p r = next p (turns n p r)
