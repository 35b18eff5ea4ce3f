-- Document 01, module 9: `calculate_time_step` and `next_hydraulic_timestep` on a project's tables and a state.
use Rattle.std.specs.Prelude.{ℕ, min, Bool, cond, not, ◌&&◌, List, eqb}
use Rattle.number.specs.Constants.{MAX}
use Rattle.clock.specs.Steps.{advanced}
use Rattle.clock.specs.Triggers.{Trigger, Moment, length_at}
use Rattle.clock.specs.declared.length.Times.{Times}
use Rattle.model.specs.Blank.{node_at, node_state_at, control_at}
use Rattle.model.specs.Loops.{through, all_below}
use Rattle.model.specs.Nodes.{is_tank}
use Rattle.model.specs.declared.project.Project.{Project}
use Rattle.model.specs.declared.state.State.{State}
use Rattle.control.specs.Controls.{level_time}
pub use Rattle.control.specs.Controls.{Level, trigger_of}
unfoldable pub use Rattle.run_kinds.specs.Triggers.{listed}
use Rattle.state.specs.Tanks.{update_tanks}
use Rattle.state_node.specs.Tanks.{tank_candidate}
use Rattle.simulation.specs.declared.step.Stepped.{Stepped}

-- ---- the options
abbrev pub no_tank_at : Project → ℕ → Bool
no_tank_at p i = not (is_tank (node_at p i))

unfoldable pub no_tanks : Project → Bool
no_tanks p = all_below p.counts.nodes (no_tank_at p)

-- "Fast path (skip flag, no controls, no tanks)"
unfoldable pub on_fast_path : Project → Bool
on_fast_path p = p.options.skip && eqb p.counts.controls 0 && no_tanks p

-- Document 02, R-7: "From now on 0 is read as 3,600"
unfoldable pub hydraulic_in_force : ℕ → ℕ
hydraulic_in_force hydraulic = cond (eqb hydraulic 0) 3600 hydraulic

unfoldable pub times_of : Project → Times
times_of p =
    let o = p.options in
    record {
      duration = o.duration;
      hydraulic = hydraulic_in_force o.hydraulic;
      report = o.report;
      pattern = o.pattern;
      start_clock = o.start_clock;
      fast = on_fast_path p;
    }

-- ---- the controls
abbrev pub trigger_at : Project → ℕ → Trigger Level
trigger_at p i = trigger_of (control_at p i).condition

-- the controls, in image order
unfoldable pub triggers_of : Project → List (Trigger Level)
triggers_of p = listed p.counts.controls (trigger_at p)

-- ---- the moment of a state
abbrev pub smaller_tank : Project → State → ℕ → ℕ → ℕ
smaller_tank p s i smallest = min (tank_candidate (node_at p i).kind (node_state_at s i)) smallest

-- "for tanks only after the smallest over all of them has been taken": zeros too
unfoldable pub tank_time : Project → State → ℕ
tank_time p s = through p.counts.nodes (smaller_tank p s) MAX

-- "Tank time is the tanks' candidate, level-control time a level control's"
unfoldable pub moment_of : Project → State → Moment Level
moment_of p s = record {
  tank = tank_time p s;
  level = λ l. level_time (node_at p l.tank).kind (node_state_at s l.tank) l.target;
}

-- ---- the step
-- the length of a step asked on a state: by the clock's definition, which "caps it at the remainder" and gives 0 "at or past the duration"
unfoldable pub length_of : Project → State → ℕ
length_of p s = length_at (times_of p) (triggers_of p) (moment_of p s) s.clock.instant

-- the tanks moved by a step's seconds, and the clock advanced; "At or past the duration it gives 0, moving nothing"
unfoldable pub moved_by : Project → State → ℕ → State
moved_by p s length =
    let moved = update_tanks p s length in
    cond (eqb length 0) s (record { nodes = moved.nodes; links = moved.links; clock = advanced s.clock length })

-- `next_hydraulic_timestep`: "the reference for a step"
unfoldable pub next_hydraulic_timestep : Project → State → Stepped
next_hydraulic_timestep p s = record { length = length_of p s; state = moved_by p s (length_of p s) }
