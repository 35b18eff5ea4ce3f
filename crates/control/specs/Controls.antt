-- Document 01, module 5: `control.rs`, for one control with the node that it watches and the link that it sets.
use Rattle.std.specs.Prelude.{None, Option, Some}
use Rattle.std.specs.Prelude.{ℕ, Bool, true, false, not, ◌&&◌, eqb, Float}
use Rattle.std.specs.Float.Ieee.{le, ne, neg}
use Rattle.number.specs.Constants.{h_tol, l_tol, MAX}
use Rattle.number.specs.Operators.{◌⊖◌}
use Rattle.clock.specs.Triggers.{Trigger, at_time, at_clock, at_level, untimed, candidate_of}
use Rattle.tank.specs.Tanks.{time_to_reach_level}
use Rattle.model.specs.Links.{initial_flow}
use Rattle.model.specs.Nodes.{elevation, is_tank}
use Rattle.model.specs.declared.control.Control.{Control}
use Rattle.model.specs.declared.control.ControlCondition.{ControlCondition}
use Rattle.model.specs.declared.control.ControlCondition.TheVariants.{HighPressure, LowPressure, HighLevel, LowLevel, Time, ClockTime}
use Rattle.model.specs.declared.link.Link.{Link}
use Rattle.model.specs.declared.node.Node.{Node}
use Rattle.model.specs.declared.node.NodeType.{NodeType}
use Rattle.model.specs.declared.node.NodeType.TheVariants.{Reservoir, Tank, Junction}
use Rattle.model.specs.declared.state.LinkState.{LinkState}
use Rattle.model.specs.declared.state.NodeState.{NodeState}
use Rattle.control.specs.declared.Activated.{Activated}

-- the node that a condition watches; 0 where it watches none
abbrev pub watched : ControlCondition → ℕ
watched (HighPressure n x) = n
watched (LowPressure n x) = n
watched (HighLevel n x) = n
watched (LowLevel n x) = n
watched (Time t) = 0
watched (ClockTime t) = 0

-- how far a node's head stands above its elevation and a target
abbrev pub above : Node → NodeState → Float → Float
above n s target = s.head ⊖ elevation n ⊖ target

-- "`is_active`, all limits inclusive; a level control whose node is no tank is never active."
abbrev pub is_active : ControlCondition → Node → NodeState → ℕ → ℕ → Bool
is_active (HighPressure i target) n s time clock = le (neg h_tol) (above n s target)
is_active (LowPressure i target) n s time clock = le (above n s target) h_tol
is_active (HighLevel i target) n s time clock = is_tank n && le (neg l_tol) (above n s target)
is_active (LowLevel i target) n s time clock = is_tank n && le (above n s target) l_tol
is_active (Time t) n s time clock = eqb t time
is_active (ClockTime t) n s time clock = eqb t clock

-- "`activate`: a status wins over a setting; with either, the flow becomes the initial flow even if nothing changed."
-- A setting changes where the Rust's `!=` says so: 0.0 and -0.0 are equal.
abbrev pub activate_setting : Option Float → Link → LinkState → Activated
activate_setting (Some x) l s =
    record { state = record { flow = initial_flow l; status = s.status; setting = x }; changed = ne s.setting x }
activate_setting None l s = record { state = s; changed = false }

abbrev pub activate_status : Option ℕ → Option Float → Link → LinkState → Activated
activate_status (Some x) setting l s =
    record { state = record { flow = initial_flow l; status = x; setting = s.setting }; changed = not (eqb s.status x) }
activate_status None setting l s = activate_setting setting l s

abbrev pub activate : Control → Link → LinkState → Activated
activate c l s = activate_status c.status c.setting l s

-- the time to a level control's target; "level controls whose node is no tank, give no candidate"
abbrev pub level_time : NodeType → NodeState → Float → ℕ
level_time (Reservoir r) s target = MAX
level_time (Tank t) s target =
    time_to_reach_level t (record { 0 = s.head ⊖ t.elevation.0 }) (record { 0 = target }) (record { 0 = s.demand })
level_time (Junction j) s target = MAX

-- a level control's tank and target
pub record Level : Type 0 where
  pub tank : ℕ
  pub target : Float

-- when a control calls for a stop. "Pressure controls, and level controls whose node is no tank, give no candidate": the former here, the latter by
-- `level_time`, which is MAX there
abbrev pub trigger_of : ControlCondition → Trigger Level
trigger_of (HighPressure n x) = untimed
trigger_of (LowPressure n x) = untimed
trigger_of (HighLevel n x) = at_level (record { tank = n; target = x })
trigger_of (LowLevel n x) = at_level (record { tank = n; target = x })
trigger_of (Time s) = at_time s
trigger_of (ClockTime s) = at_clock s

-- a control's candidate: the clock's, from the node that it watches
abbrev pub candidate : ControlCondition → Node → NodeState → ℕ → ℕ → ℕ
candidate c n s time clock = candidate_of (λ (l : Level). level_time n.kind s l.target) time clock (trigger_of c)
