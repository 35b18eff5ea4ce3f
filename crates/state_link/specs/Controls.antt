-- Document 01, module 7: one control of `apply_controls`, on its link.
use Rattle.std.specs.Prelude.{ℕ, Bool, true, false, cond, eqb}
use Rattle.control.specs.Controls.{is_active, activate}
use Rattle.model.specs.declared.control.Control.{Control}
use Rattle.model.specs.declared.control.ControlCondition.{ControlCondition}
use Rattle.model.specs.declared.control.ControlCondition.TheVariants.{HighPressure, LowPressure, HighLevel, LowLevel, Time, ClockTime}
use Rattle.model.specs.declared.link.Link.{Link}
use Rattle.model.specs.declared.node.Node.{Node}
use Rattle.model.specs.declared.state.LinkState.{LinkState}
use Rattle.model.specs.declared.state.NodeState.{NodeState}

-- "Pressure controls are passed over; level controls too at time 0."
abbrev pub passed_over : ControlCondition → ℕ → Bool
passed_over (HighPressure n x) time = true
passed_over (LowPressure n x) time = true
passed_over (HighLevel n x) time = eqb time 0
passed_over (LowLevel n x) time = eqb time 0
passed_over (Time t) time = false
passed_over (ClockTime t) time = false

unfoldable pub controlled : Control → Node → NodeState → Link → LinkState → ℕ → ℕ → LinkState
controlled c n h l s time clock =
    cond (passed_over c.condition time) s (cond (is_active c.condition n h time clock) (activate c l s).state s)
