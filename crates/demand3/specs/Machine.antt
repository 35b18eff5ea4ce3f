-- The project and its public calls as the machine that demand 3 is stated of (clock/specs/Machine.antt, clock/specs/Demand3.antt).
use Rattle.std.specs.Prelude.{ℕ, ◌≡◌, ◌⊎◌, true, cond, List}
use Rattle.clock.specs.Demand3.{Claim}
use Rattle.clock.specs.Machine.{Machine}
use Rattle.stops.specs.Exact.{Exact}
use Rattle.model.specs.declared.project.Project.{Project}
use Rattle.model.specs.declared.state.State.{State}
use Rattle.judge.specs.Judgement.{in_order}
use Rattle.simulation.specs.Steps.{Level, times_of, triggers_of, moment_of}
use Rattle.calls.specs.Calls.{start}
use Rattle.second_clock.specs.SecondClock.{second_applies}
use Rattle.stops_ahead.specs.Foreseen.{stops_foreseen}
use Rattle.list_words.specs.Calls.{Call, patterns, controls, load, tank_links, pressure, premise, step, second, tank_links_by_table, is_step}
use Rattle.demand3.specs.Calls.{outcome}

-- "Only loads and premises can be refused there": a load with 7 or 8, a premise with 9. Document 02, R-10, "in lists where 14 may come too": the second
-- clock gives it on every project that it does not serve, and on no other
abbrev pub MayGive : Project → Call → ℕ → Type 0
MayGive p patterns n = n ≡ 0
MayGive p controls n = n ≡ 0
MayGive p (load words) n = (n ≡ 0) ⊎ (n ≡ 7) ⊎ (n ≡ 8)
MayGive p tank_links n = n ≡ 0
MayGive p pressure n = n ≡ 0
MayGive p (premise i) n = (n ≡ 0) ⊎ (n ≡ 9)
MayGive p step n = n ≡ 0
MayGive p second n = n ≡ cond (second_applies p) 0 14
MayGive p tank_links_by_table n = n ≡ 0

abbrev pub machine : Project → Machine Level
machine p = record {
  State = State;
  Call = Call;
  number = λ c s. (outcome p c s).number;
  after = λ c s. (outcome p c s).state;
  is_step = is_step (second_applies p);
  answer = λ c s. (outcome p c s).length;
  instant = λ s. s.clock.instant;
  count = λ s. s.clock.count;
  moment = moment_of p;
  MayGive = MayGive p;
  Sound = λ s. in_order p s ≡ true;
}

-- demand 3 of a project and a list from its start, of the state z that the list leaves
pub record Demand3 (p : Project) (calls : List Call) (z : State) : Type 0 where
  pub claim : Claim (machine p) (times_of p) (triggers_of p) calls (start p).state z
  -- document 02, R-14: the exact instants, "in place of the bound for such projects"
  pub exact : stops_foreseen p ≡ true → Exact (machine p) (times_of p) (triggers_of p) calls (start p).state z
