-- What node.rs says of one node.
use Rattle.std.specs.Prelude.{Bool, true, false, Float}
use Rattle.number.specs.Constants.{decimal}
use Rattle.number.specs.Operators.{◌⊕◌}
use Rattle.model.specs.declared.node.Node.{Node}
use Rattle.model.specs.declared.node.NodeType.{NodeType}
use Rattle.model.specs.declared.node.NodeType.TheVariants.{Reservoir, Tank, Junction}

abbrev pub elevation_of : NodeType → Float
elevation_of (Reservoir r) = r.elevation
elevation_of (Tank t) = t.elevation.0
elevation_of (Junction j) = j.elevation

abbrev pub elevation : Node → Float
elevation n = elevation_of n.kind

-- a reservoir starts at its elevation, a tank at its initial level, a junction at 0
abbrev pub initial_head_of : NodeType → Float
initial_head_of (Reservoir r) = r.elevation
initial_head_of (Tank t) = t.elevation.0 ⊕ t.initial_level.0
initial_head_of (Junction j) = decimal 0 0

abbrev pub initial_head : Node → Float
initial_head n = initial_head_of n.kind

abbrev pub is_tank_type : NodeType → Bool
is_tank_type (Reservoir r) = false
is_tank_type (Tank t) = true
is_tank_type (Junction j) = false

abbrev pub is_tank : Node → Bool
is_tank n = is_tank_type n.kind

abbrev pub is_junction_type : NodeType → Bool
is_junction_type (Reservoir r) = false
is_junction_type (Tank t) = false
is_junction_type (Junction j) = true

abbrev pub is_junction : Node → Bool
is_junction n = is_junction_type n.kind
