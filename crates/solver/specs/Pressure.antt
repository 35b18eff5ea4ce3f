-- Document 01, module 8: `apply_pressure_controls`.
use Rattle.std.specs.Prelude.{ℕ, false}
use Rattle.control.specs.Controls.{watched}
use Rattle.model.specs.Blank.{node_at, link_at, control_at, node_state_at, link_state_at, with_link}
use Rattle.model.specs.Loops.{through}
use Rattle.model.specs.declared.project.Project.{Project}
use Rattle.model.specs.declared.state.State.{State}
use Rattle.state_link.specs.Pressure.{press}
use Rattle.solver.specs.declared.pressure.Pressed.{Pressed}

abbrev pub press_turn : Project → ℕ → Pressed → Pressed
press_turn p i r =
    let s = r.state in
    let c = control_at p i in
    let w = watched c.condition in
    let done = press r.changed c (node_at p w) (node_state_at s w) (link_at p c.link) (link_state_at s c.link) in
    record { state = with_link s c.link done.state; changed = done.changed }

unfoldable pub apply_pressure_controls : Project → State → Pressed
apply_pressure_controls p s = through p.counts.controls (press_turn p) (record { state = s; changed = false })
