-- The public calls. "every later call, first: 10"; "a refused call yields the number and the same state, and lent words are only read. A refused
-- premise yields no truth."
use Rattle.std.specs.Prelude.{ℕ, Bool, true, false, cond, List, [], ◌∷◌, eqb, ltb, Result, Ok, Err}
use Rattle.std.proofs.lemmas.List.Edits.{sets}
use Rattle.model.specs.Blank.{blank_state}
use Rattle.model.specs.declared.project.Project.{Project}
use Rattle.model.specs.declared.state.State.{State}
use Rattle.tables.specs.Tables.{tables_ok}
use Rattle.judge.specs.Judgement.{in_order}
use Rattle.state.specs.Start.{new_with_initial_values}
use Rattle.state.specs.Patterns.{apply_patterns}
use Rattle.state.specs.Controls.{apply_controls}
use Rattle.load.specs.Loads.{load_fault, take_load}
use Rattle.tank_links.specs.Groups.{is_laid_out}
use Rattle.solver.specs.Closing.{update_tank_links}
use Rattle.solver.specs.Pressure.{apply_pressure_controls}
use Rattle.premise.specs.Premise.{premise_truth_at}
use Rattle.simulation.specs.Steps.{next_hydraulic_timestep}
use Rattle.calls.specs.declared.Called.{Called}
use Rattle.calls.specs.declared.PressureCalled.{PressureCalled}
use Rattle.calls.specs.declared.StepCalled.{StepCalled}
use Rattle.calls.specs.declared.refusal.Refusal.{Refusal}
use Rattle.calls.specs.declared.refusal.Refusal.TheVariants.{NotInOrder, NoPremise}
use Rattle.calls.specs.Refusals.{answer_number}

-- a call's answer: the number and the state
abbrev pub gives : ℕ → State → Called
gives n s = record { number = n; state = s }

-- the start, on tables that fit; else 10, and a state with nothing in it
unfoldable pub start : Project → Called
start p = cond (tables_ok p) (gives 0 (new_with_initial_values p)) (gives 10 blank_state)

-- what a call makes of a state, where number 10 is not given; else 10 and the same state
unfoldable pub judged : Project → State → Called → Called
judged p s answer = cond (in_order p s) answer (gives 10 s)

unfoldable pub patterns : Project → State → Called
patterns p s = judged p s (gives 0 (apply_patterns p s))

unfoldable pub controls : Project → State → Called
controls p s = judged p s (gives 0 (apply_controls p s))

-- 7 and 8, then the load
unfoldable pub load : Project → List ℕ → State → Called
load p words s = judged p s (cond (eqb (load_fault p words) 0) (gives 0 (take_load p words s)) (gives (load_fault p words) s))

unfoldable pub tank_links : Project → State → Called
tank_links p s = judged p s (gives 0 (update_tank_links p s))

-- Document 02, R-8. The table of the tanks' links, laid out: 0, or 10 on tables that do not fit
unfoldable pub lay_out : Project → ℕ
lay_out p = cond (tables_ok p) 0 10

-- what a lent array has after it: a list, from the start on; what lies past the list is as it was, and all of it where the call is refused
unfoldable pub laid_into : Project → List ℕ → List ℕ → List ℕ
laid_into p xs array = cond (tables_ok p) (sets array 0 xs) array

-- closing by a table that is handed in: "10 also where a table handed to a call is not the one laid out from the project's records"
unfoldable pub tank_links_by : Project → List ℕ → List ℕ → List ℕ → State → Called
tank_links_by p begins middles links s = judged p s (cond (is_laid_out p begins middles links) (gives 0 (update_tank_links p s)) (gives 10 s))

-- the pressure pass also answers whether it changed anything; refused, it changed nothing
unfoldable pub pressure : Project → State → PressureCalled
pressure p s =
    let done = apply_pressure_controls p s in
    cond (in_order p s) (record { number = 0; state = done.state; changed = done.changed }) (record { number = 10; state = s; changed = false })

-- 9: "no such premise"
unfoldable pub premise : Project → ℕ → State → Result Bool Refusal
premise p i s = cond (in_order p s) (cond (ltb i p.counts.premises) (Ok (premise_truth_at p s i)) (Err NoPremise)) (Err NotInOrder)

-- "Where an answer is an enum, a definition gives this paper's number and values for each case of the enum": the number, 0 where the premise is answered,
-- and its truth, where it has one
abbrev pub premise_number : Result Bool Refusal → ℕ
premise_number r = answer_number r

abbrev pub premise_truths : Result Bool Refusal → List Bool
premise_truths (Ok b) = b ∷ []
premise_truths (Err r) = []

-- what they are: 10 first, then 9; "A refused premise yields no truth."
unfoldable pub number_of_premise : Project → ℕ → State → ℕ
number_of_premise p i s = cond (in_order p s) (cond (ltb i p.counts.premises) 0 9) 10

unfoldable pub truths_of_premise : Project → ℕ → State → List Bool
truths_of_premise p i s = cond (in_order p s) (cond (ltb i p.counts.premises) (premise_truth_at p s i ∷ []) []) []

-- the step also answers its length; refused, it has none
unfoldable pub step : Project → State → StepCalled
step p s =
    let done = next_hydraulic_timestep p s in
    cond (in_order p s) (record { number = 0; length = done.length; state = done.state }) (record { number = 10; length = 0; state = s })
