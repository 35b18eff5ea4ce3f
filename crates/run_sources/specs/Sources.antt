-- Needs no belief: what the tables of the demands and of the reservoirs with a pattern hold: what a reading of them gives.
use Rattle.std.specs.Prelude.{None, Option, Some}
use Rattle.std.specs.Prelude.{ℕ, ◌+◌, ◌*◌, ◌≤◌, ◌<◌, ◌≡◌, Bool, true, false, cond, List, [], ◌∷◌, ltb, Float, get_or, length}
use Rattle.std.specs.Float.{nan}
use Rattle.model.specs.Blank.{blank_node}
use Rattle.model.specs.Nodes.{elevation}
use Rattle.model.specs.declared.node.Demand.{Demand}
use Rattle.model.specs.declared.node.Demands.{Demands}
use Rattle.model.specs.declared.node.Demands.TheVariants.{NoDemand, One, Two, Three, Four}
use Rattle.model.specs.declared.node.Node.{Node}
use Rattle.model.specs.declared.node.NodeType.{NodeType}
use Rattle.model.specs.declared.node.NodeType.TheVariants.{Reservoir, Tank, Junction}
use Rattle.state_patterns.specs.Patterns.{or_default}
use Rattle.run_tables.specs.Chosen.{chosen}

-- where a pattern's multiplier stands in the table of an instant's: 32 for none, and for one past the table, which no accepted project names
abbrev pub place_of : Option ℕ → ℕ
place_of None = 32
place_of (Some k) = cond (ltb k 32) k 32

-- ---- demands
abbrev pub listed : Demands → List Demand
listed NoDemand = []
listed (One a) = a ∷ []
listed (Two a b) = a ∷ b ∷ []
listed (Three a b c) = a ∷ b ∷ c ∷ []
listed (Four a b c d) = a ∷ b ∷ c ∷ d ∷ []

-- those in use: of junctions that are not disabled
abbrev pub demands_in : NodeType → List Demand
demands_in (Reservoir r) = []
demands_in (Tank t) = []
demands_in (Junction j) = cond j.disabled [] (listed j.demands)

abbrev pub no_demand : Demand
no_demand = record { base = nan; pattern = None }

-- the four entries of a node with these demands
abbrev pub four : {A : Type 0} → (Demand → A) → List Demand → List A
four f ds = f (get_or ds 0 no_demand) ∷ f (get_or ds 1 no_demand) ∷ f (get_or ds 2 no_demand) ∷ f (get_or ds 3 no_demand) ∷ []

-- demand j of node i of a table
abbrev pub demand_in : List Node → ℕ → ℕ → Demand
demand_in table i j = get_or (demands_in (get_or table i blank_node).kind) j no_demand

-- where the arrays have it
abbrev pub base_at : List Float → ℕ → ℕ → Float
base_at bases i j = get_or bases (4 * i + j) nan

abbrev pub place_at : List ℕ → ℕ → ℕ → ℕ
place_at patterns i j = get_or patterns (4 * i + j) 0

-- the counts are those of the first n nodes
pub record CountsLaid (table : List Node) (n : ℕ) (counts : List ℕ) : Type 0 where
  pub each : (i : ℕ) → i < n → get_or counts i 0 ≡ length (demands_in (get_or table i blank_node).kind)

-- the table has the demands in use of the first n nodes, the default pattern put in where they name none
pub record DemandsLaid (table : List Node) (n : ℕ) (default : Option ℕ) (counts : List ℕ) (bases : List Float) (patterns : List ℕ) : Type 0 where
  pub count : CountsLaid table n counts
  pub base : (i j : ℕ) → i < n → j < get_or counts i 0 → base_at bases i j ≡ (demand_in table i j).base
  pub place : (i j : ℕ) → i < n → j < get_or counts i 0 → place_at patterns i j ≡ place_of (or_default default (demand_in table i j).pattern)

-- what a pass asks of it: no more than four to a node, each with a place
pub record NodeInside (patterns : List ℕ) (i count : ℕ) : Type 0 where
  pub most : i < 256
  pub few : count ≤ 4
  pub place : (j : ℕ) → j < count → place_at patterns i j < 33

pub record DemandsInside (counts patterns : List ℕ) (n : ℕ) : Type 0 where
  pub most : n ≤ 256
  pub node : (i : ℕ) → i < n → NodeInside patterns i (get_or counts i 0)

-- ---- heads
abbrev pub head_pattern_of : NodeType → Option ℕ
head_pattern_of (Reservoir r) = r.head_pattern
head_pattern_of (Tank t) = None
head_pattern_of (Junction j) = None

abbrev pub is_pattern : Option ℕ → Bool
is_pattern None = false
is_pattern (Some k) = true

-- whether node i of a table is a reservoir with a pattern
abbrev pub patterned_in : List Node → ℕ → Bool
patterned_in table i = is_pattern (head_pattern_of (get_or table i blank_node).kind)

-- the table has those of the first nodes, in order
pub record HeadsLaid (table : List Node) (among : ℕ) (nodes : List ℕ) (elevations : List Float) (patterns : List ℕ) (n : ℕ) : Type 0 where
  pub count : n ≡ length (chosen (patterned_in table) among)
  pub node : (r : ℕ) → r < n → get_or nodes r 0 ≡ get_or (chosen (patterned_in table) among) r 0
  pub elevation_is : (r : ℕ) → r < n → get_or elevations r nan ≡ elevation (get_or table (get_or nodes r 0) blank_node)
  pub place : (r : ℕ) → r < n → get_or patterns r 0 ≡ place_of (head_pattern_of (get_or table (get_or nodes r 0) blank_node).kind)

-- what a pass asks of it
pub record HeadsInside (nodes patterns : List ℕ) (n : ℕ) : Type 0 where
  pub most : n ≤ 256
  pub node : (r : ℕ) → r < n → get_or nodes r 0 < 256
  pub place : (r : ℕ) → r < n → get_or patterns r 0 < 33
