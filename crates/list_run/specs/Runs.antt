-- What running a list of calls from a project's start answers.
use Rattle.std.specs.Prelude.{ℕ, ◌+◌, ◌≡◌, cond, not, List, [], ◌∷◌, eqb}
use Rattle.clock.specs.Machine.{bit, asked, answered, times_moved}
use Rattle.model.specs.declared.project.Project.{Project}
use Rattle.model.specs.declared.state.State.{State}
use Rattle.calls.specs.Calls.{start}
use Rattle.second_clock.specs.SecondClock.{second_applies}
use Rattle.list_words.specs.Calls.{Call, is_step}
use Rattle.list_words.specs.Lists.{calls_of, list_ok}
use Rattle.demand3.specs.Calls.{outcome}
use Rattle.demand3.specs.Machine.{machine, Demand3}
use Rattle.list_run.specs.declared.ListRun.{ListRun}

abbrev pub none_run : ℕ → State → ListRun
none_run n s = record { number = n; state = s; asked = 0; answered = 0; moves = 0 }

-- a call more: steps asked, the sum of the steps answered, both by either clock, and the times that the clock moved
unfoldable pub counted : Project → Call → ListRun → ListRun
counted p c r =
    let o = outcome p c r.state in
    record {
      number = r.number;
      state = o.state;
      asked = r.asked + bit (is_step (second_applies p) c);
      answered = r.answered + o.length;
      moves = r.moves + bit (not (eqb o.state.clock.instant r.state.clock.instant));
    }

unfoldable pub counted_all : Project → List Call → ListRun → ListRun
counted_all p [] r = r
counted_all p (c ∷ cs) r = counted_all p cs (counted p c r)

-- 10 where the tables do not fit, as at the start; then 18 where the list is cut or has another code, before any call runs
unfoldable pub run_list : Project → List ℕ → ListRun
run_list p words =
    let s = start p in
    cond (eqb s.number 0) (cond (list_ok 0 words) (counted_all p (calls_of 0 words) (none_run 0 s.state)) (none_run 18 s.state)) (none_run s.number s.state)

-- what demand 3 says of a list's answers
pub record Answers (p : Project) (calls : List Call) (r : ListRun) : Type 0 where
  pub claim : Demand3 p calls r.state
  pub asks : r.asked ≡ asked (machine p) calls
  pub sum : r.answered ≡ answered (machine p) calls (start p).state
  pub moving : r.moves ≡ times_moved (machine p) calls (start p).state
