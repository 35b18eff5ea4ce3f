-- Document 02, R-10: the second clock on a project's tables and a state.
use Rattle.std.specs.Prelude.{ℕ, ◌+◌, Bool, cond, not, ◌&&◌, ◌||◌, eqb, leb}
use Rattle.clock.specs.Steps.{DAY}
use Rattle.clock.specs.declared.length.Times.{Times}
use Rattle.stops.specs.Walk.{walk}
use Rattle.model.specs.declared.project.Project.{Project}
use Rattle.model.specs.declared.state.State.{State}
use Rattle.judge.specs.Judgement.{in_order}
use Rattle.simulation.specs.Steps.{no_tanks, times_of, triggers_of}
use Rattle.calls.specs.declared.StepCalled.{StepCalled}

-- "with at least one of its report, pattern and hydraulic timesteps at most a day"; the hydraulic one is that in force
unfoldable pub daily : Times → Bool
daily o = leb o.report DAY || (leb o.pattern DAY || leb o.hydraulic DAY)

-- "for every accepted project without tanks, off the fast path, and with" such a timestep
unfoldable pub second_applies : Project → Bool
second_applies p = no_tanks p && (not (times_of p).fast && daily (times_of p))

-- the seconds to the next stop
unfoldable pub second_length : Project → State → ℕ
second_length p s = walk (times_of p) (triggers_of p) s.clock.instant

-- the clock moved on by some seconds, and counted; none move nothing
unfoldable pub moved_on : State → ℕ → State
moved_on s seconds =
    cond (eqb seconds 0) s
    (record { nodes = s.nodes; links = s.links; clock = record { instant = s.clock.instant + seconds; count = s.clock.count + 1 } })

-- refused, a step has a number, no length and the same state
abbrev pub refused_step : ℕ → State → StepCalled
refused_step n s = record { number = n; length = 0; state = s }

-- "Refused: 14, a project with tanks, on the fast path, or with all three timesteps above 86,400, after 10"
unfoldable pub second : Project → State → StepCalled
second p s =
    cond (in_order p s)
    (cond (second_applies p)
    (record { number = 0; length = second_length p s; state = moved_on s (second_length p s) })
    (refused_step 14 s))
    (refused_step 10 s)
