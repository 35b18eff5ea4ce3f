-- Document 01, module 8: one control of `apply_pressure_controls`, on its link.
use Rattle.std.specs.Prelude.{Bool, true, false, not, cond, ◌&&◌}
use Rattle.control.specs.Controls.{is_active, activate}
use Rattle.control.specs.declared.Activated.{Activated}
use Rattle.model.specs.declared.control.Control.{Control}
use Rattle.model.specs.declared.control.ControlCondition.{ControlCondition}
use Rattle.model.specs.declared.control.ControlCondition.TheVariants.{HighPressure, LowPressure, HighLevel, LowLevel, Time, ClockTime}
use Rattle.model.specs.declared.link.Link.{Link}
use Rattle.model.specs.declared.node.Node.{Node}
use Rattle.model.specs.declared.state.LinkState.{LinkState}
use Rattle.model.specs.declared.state.NodeState.{NodeState}

abbrev pub is_pressure : ControlCondition → Bool
is_pressure (HighPressure n x) = true
is_pressure (LowPressure n x) = true
is_pressure (HighLevel n x) = false
is_pressure (LowLevel n x) = false
is_pressure (Time t) = false
is_pressure (ClockTime t) = false

-- "once one control has changed something, later ones in that pass are not activated"
unfoldable pub presses : Bool → ControlCondition → Node → NodeState → Bool
presses changed condition n s = not changed && (is_pressure condition && is_active condition n s 0 0)

-- a control's turn on its link, and whether something has changed by now
unfoldable pub press : Bool → Control → Node → NodeState → Link → LinkState → Activated
press changed c n s l x = cond (presses changed c.condition n s) (activate c l x) (record { state = x; changed = changed })
