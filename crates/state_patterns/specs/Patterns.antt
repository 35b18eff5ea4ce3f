-- Document 01, module 7: what `apply_patterns` makes of one node.
use Rattle.std.specs.Prelude.{None, Option, Some, ℕ}
use Rattle.std.specs.Prelude.{cond, Float}
use Rattle.number.specs.Constants.{decimal}
use Rattle.number.specs.Operators.{◌·◌, ◌⊕◌}
use Rattle.model.specs.declared.node.Demand.{Demand}
use Rattle.model.specs.declared.node.Demands.{Demands}
use Rattle.model.specs.declared.node.Demands.TheVariants.{NoDemand, One, Two, Three, Four}
use Rattle.model.specs.declared.node.Junction as junctions
use Rattle.model.specs.declared.node.Node.{Node}
use Rattle.model.specs.declared.node.NodeType.{NodeType}
use Rattle.model.specs.declared.node.NodeType.TheVariants.{Reservoir, Tank, Junction}
use Rattle.model.specs.declared.options.Options.{Options}
use Rattle.model.specs.declared.state.NodeState.{NodeState}

-- the pattern of a demand, or the default where it names none
abbrev pub or_default : Option ℕ → Option ℕ → Option ℕ
or_default default None = default
or_default default (Some k) = Some k

-- Below, `m` gives a pattern's multiplier. Base demand times multiplier times demand multiplier, in that order.
unfoldable pub demand_of : (Option ℕ → Float) → Option ℕ → Float → Demand → Float
demand_of m default scale d = d.base · m (or_default default d.pattern) · scale

-- the demands added to 0.0 in order
unfoldable pub sum_of : (Demand → Float) → Demands → Float
sum_of f NoDemand = decimal 0 0
sum_of f (One a) = decimal 0 0 ⊕ f a
sum_of f (Two a b) = decimal 0 0 ⊕ f a ⊕ f b
sum_of f (Three a b c) = decimal 0 0 ⊕ f a ⊕ f b ⊕ f c
sum_of f (Four a b c d) = decimal 0 0 ⊕ f a ⊕ f b ⊕ f c ⊕ f d

-- a disabled junction has none
unfoldable pub junction_demand : (Option ℕ → Float) → Option ℕ → Float → junctions.Junction → Float
junction_demand m default scale j = cond j.disabled (decimal 0 0) (sum_of (demand_of m default scale) j.demands)

-- a reservoir with a pattern stands at its elevation times the multiplier; the default pattern does not apply to it
abbrev pub reservoir_head : (Option ℕ → Float) → Option ℕ → Float → Float → Float
reservoir_head m None elevation head = head
reservoir_head m (Some k) elevation head = elevation · m (Some k)

abbrev pub pattern_head : (Option ℕ → Float) → NodeType → Float → Float
pattern_head m (Reservoir r) head = reservoir_head m r.head_pattern r.elevation head
pattern_head m (Tank t) head = head
pattern_head m (Junction j) head = head

-- tanks and reservoirs have no demand
abbrev pub pattern_demand : (Option ℕ → Float) → Option ℕ → Float → NodeType → Float
pattern_demand m default scale (Reservoir r) = decimal 0 0
pattern_demand m default scale (Tank t) = decimal 0 0
pattern_demand m default scale (Junction j) = junction_demand m default scale j

-- "Under PDA the pattern's demands are copied to the demand flows."
unfoldable pub patterned : (Option ℕ → Float) → Options → Node → NodeState → NodeState
patterned m o n s =
    let demand = pattern_demand m o.default_pattern o.demand_multiplier n.kind in
    record { head = pattern_head m n.kind s.head; demand = demand; demand_flow = cond o.pda demand s.demand_flow }
