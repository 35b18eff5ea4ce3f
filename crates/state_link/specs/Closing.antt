-- Document 01, module 8: one link of `update_tank_links`.
use Rattle.std.specs.Prelude.{Bool, false, not, cond, ◌&&◌, ◌||◌, Float}
use Rattle.std.specs.Float.Ieee.{lt, le}
use Rattle.number.specs.Constants.{decimal}
use Rattle.number.specs.Operators.{◌⊕◌}
use Rattle.tank.specs.declared.tank.Tank as tanks
use Rattle.model.specs.Links.{TempClosed}
use Rattle.model.specs.declared.node.Node.{Node}
use Rattle.model.specs.declared.node.NodeType.{NodeType}
use Rattle.model.specs.declared.node.NodeType.TheVariants.{Reservoir, Tank, Junction}
use Rattle.model.specs.declared.state.LinkState.{LinkState}
use Rattle.model.specs.declared.state.NodeState.{NodeState}

-- at or above the greatest level, and no overflow; at or below the least
unfoldable pub fill_closed : tanks.Tank → Float → Bool
fill_closed t head = le (t.elevation.0 ⊕ t.max_level.0) head && not t.overflow

unfoldable pub empty_closed : tanks.Tank → Float → Bool
empty_closed t head = le head (t.elevation.0 ⊕ t.min_level.0)

-- a link into a tank is closed where it would fill a full one or drain an empty one; a link out of it the other way round
unfoldable pub closes_into : NodeType → NodeState → Float → Bool
closes_into (Reservoir r) s flow = false
closes_into (Tank t) s flow = fill_closed t s.head && lt (decimal 0 0) flow || empty_closed t s.head && lt flow (decimal 0 0)
closes_into (Junction j) s flow = false

unfoldable pub closes_out_of : NodeType → NodeState → Float → Bool
closes_out_of (Reservoir r) s flow = false
closes_out_of (Tank t) s flow = fill_closed t s.head && lt flow (decimal 0 0) || empty_closed t s.head && lt (decimal 0 0) flow
closes_out_of (Junction j) s flow = false

unfoldable pub closed : LinkState → Node → NodeState → Node → NodeState → LinkState
closed x end end_state start start_state =
    cond (closes_into end.kind end_state x.flow || closes_out_of start.kind start_state x.flow)
    (record { flow = x.flow; status = TempClosed; setting = x.setting })
    x
