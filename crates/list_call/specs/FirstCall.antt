-- The first call of some words, run.
use Rattle.std.specs.Prelude.{ℕ, false, cond, List}
use Rattle.model.specs.declared.project.Project.{Project}
use Rattle.model.specs.declared.state.State.{State}
use Rattle.list_words.specs.Lists.{call_of, call_ok}
use Rattle.demand3.specs.Calls.{outcome}
use Rattle.demand3.specs.declared.Outcome.{Outcome}

-- words that begin with no call, or with one that is cut: 18 and the same state
abbrev pub no_call : State → Outcome
no_call s = record { number = 18; length = 0; truth = false; state = s }

-- what the first call answers, and the state that it leaves
unfoldable pub first_call : Project → List ℕ → State → Outcome
first_call p words s = cond (call_ok words) (outcome p (call_of words) s) (no_call s)
