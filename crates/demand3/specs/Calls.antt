-- What a call of a list answers, and the state that it leaves.
use Rattle.std.specs.Prelude.{Bool, false, replicate, Result, Ok, Err}
use Rattle.model.specs.declared.project.Project.{Project}
use Rattle.model.specs.declared.state.State.{State}
use Rattle.tank_links.specs.Groups.{begins_of, middles_of, entries_of}
use Rattle.calls.specs.Calls as calls
use Rattle.calls.specs.declared.Called.{Called}
use Rattle.calls.specs.declared.PressureCalled.{PressureCalled}
use Rattle.calls.specs.declared.StepCalled.{StepCalled}
use Rattle.calls.specs.declared.refusal.Refusal.{Refusal}
use Rattle.calls.specs.Refusals.{refusal_number}
use Rattle.second_clock.specs.SecondClock as second_clock
use Rattle.list_words.specs.Calls.{Call, patterns, controls, load, tank_links, pressure, premise, step, second, tank_links_by_table}
use Rattle.demand3.specs.declared.Outcome.{Outcome}

-- the number and the state, of a call that answers no more
abbrev pub called : Called → Outcome
called c = record { number = c.number; length = 0; truth = false; state = c.state }

-- a premise leaves the state; refused, it yields no truth
abbrev pub asked : Result Bool Refusal → State → Outcome
asked (Ok b) s = record { number = 0; length = 0; truth = b; state = s }
asked (Err r) s = record { number = refusal_number r; length = 0; truth = false; state = s }

-- whether the pressure pass changed anything; a step's length, by either clock
abbrev pub pressed : PressureCalled → Outcome
pressed c = record { number = c.number; length = 0; truth = c.changed; state = c.state }

abbrev pub stepped : StepCalled → Outcome
stepped c = record { number = c.number; length = c.length; truth = false; state = c.state }

-- closing by the table that is laid out for it, into arrays of 0
unfoldable pub by_own_table : Project → State → Called
by_own_table p s =
    calls.tank_links_by p
    (calls.laid_into p (begins_of p) (replicate 257 0))
    (calls.laid_into p (middles_of p) (replicate 256 0))
    (calls.laid_into p (entries_of p) (replicate 768 0))
    s

-- what the public calls answer. `length` is a step's, `truth` a premise's, or whether the pressure pass changed anything.
unfoldable pub outcome : Project → Call → State → Outcome
outcome p patterns s = called (calls.patterns p s)
outcome p controls s = called (calls.controls p s)
outcome p (load words) s = called (calls.load p words s)
outcome p tank_links s = called (calls.tank_links p s)
outcome p pressure s = pressed (calls.pressure p s)
outcome p (premise i) s = asked (calls.premise p i s) s
outcome p step s = stepped (calls.step p s)
outcome p second s = stepped (second_clock.second p s)
outcome p tank_links_by_table s = called (by_own_table p s)
