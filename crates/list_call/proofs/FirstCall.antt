-- The first call of words that begin with one. Assumes nothing.
use Prim.Native.Nat.{ℕ}
use mathlib.Core.Path.{◌≡◌}
use mathlib.Core.Bool.{true}
use mathlib.Core.List.{List}
use Rattle.model.specs.declared.project.Project.{Project}
use Rattle.model.specs.declared.state.State.{State}
use Rattle.list_words.specs.Lists.{call_of, call_ok}
use Rattle.demand3.specs.Calls.{outcome}
use Rattle.list_call.specs.FirstCall.{first_call}

pub first_call_is : (p : Project) (words : List ℕ) (s : State) → call_ok words ≡ true → first_call p words s ≡ outcome p (call_of words) s
unfolding first_call
first_call_is p words s ok = rw ok
