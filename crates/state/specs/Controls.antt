-- Document 01, module 7: `apply_controls`.
use Rattle.std.specs.Prelude.{ℕ}
use Rattle.clock.specs.Steps.{clock_time}
use Rattle.control.specs.Controls.{watched}
use Rattle.model.specs.Blank.{node_at, link_at, control_at, node_state_at, link_state_at, with_link}
use Rattle.model.specs.Loops.{through}
use Rattle.model.specs.declared.project.Project.{Project}
use Rattle.model.specs.declared.state.State.{State}
use Rattle.state_link.specs.Controls.{controlled}

-- control i's turn, on the state as it is by then
abbrev pub control_turn : Project → ℕ → ℕ → ℕ → State → State
control_turn p time clock i s =
    let c = control_at p i in
    let w = watched c.condition in
    with_link s c.link (controlled c (node_at p w) (node_state_at s w) (link_at p c.link) (link_state_at s c.link) time clock)

-- in image order
unfoldable pub apply_controls : Project → State → State
apply_controls p s =
    let time = s.clock.instant in
    through p.counts.controls (control_turn p time (clock_time p.options.start_clock time)) s
