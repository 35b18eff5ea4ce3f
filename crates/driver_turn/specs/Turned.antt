-- Needs no belief: a turn that was made, its line put into a buffer.
use Rattle.std.specs.Prelude.{ℕ, ◌+◌, ◌≤◌, ◌≡◌, Bool, List, length}
use Rattle.listing.specs.Text.{pasted}
use Rattle.listing.specs.Listing.{line_text}
use Rattle.model.specs.declared.state.State.{State}
use Rattle.driver_turn.specs.Turns.{Turn}

-- the state after it, the bytes that it took, the position after its line, and whether the run ends there
pub record Turned : Type 0 where
  pub state : State
  pub taken : ℕ
  pub at : ℕ
  pub last : Bool

-- r is the turn t, its text put into the buffer from `at` on
pub record TurnedAs (t : Turn) (at : ℕ) (before after : List ℕ) (r : Turned) : Type 0 where
  pub state : r.state ≡ t.state
  pub taken : r.taken ≡ t.taken
  pub last : r.last ≡ t.last
  pub text : after ≡ pasted before at (line_text t.line)
  pub place : r.at ≡ at + length (line_text t.line)
  pub room : r.at ≤ length before
