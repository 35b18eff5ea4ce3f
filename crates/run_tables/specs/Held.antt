-- Needs no belief: what the arrays of a run's tables hold.
use Rattle.std.specs.Prelude.{ℕ, ◌+◌, ◌≤◌, ◌<◌, ◌≡◌, Bool, List, Float, get_or, length}
use Rattle.model.specs.Blank.{blank_node}
use Rattle.model.specs.declared.node.Node.{Node}
use Rattle.model.specs.declared.node.NodeType.TheVariants.{Tank}
use Rattle.run_tables.specs.Chosen.{chosen}
use Rattle.run_tables.specs.Rows.{tank_at}
use Rattle.run_tables.specs.Tanks.{tank_nodes_in}

-- n entries of an array, from a place on, are a list
pub record Part (array : List ℕ) (from n : ℕ) (xs : List ℕ) : Type 0 where
  pub count : n ≡ length xs
  pub each : (i : ℕ) → i < n → get_or array (from + i) 0 ≡ get_or xs i 0

-- the first count entries are the indices below i at which the test holds
pub record Pushed (test : ℕ → Bool) (i : ℕ) (array : List ℕ) (count : ℕ) : Type 0 where
  pub many : count ≡ length (chosen test i)
  pub few : count ≤ i
  pub each : (k : ℕ) → k < count → get_or array k 0 ≡ get_or (chosen test i) k 0

-- ---- the nodes of the tanks: an array's first n entries are nodes
pub record TanksInside (nodes : List ℕ) (n : ℕ) : Type 0 where
  pub most : n ≤ 256
  pub node : (k : ℕ) → k < n → get_or nodes k 0 < 256

-- and no two of them the same
abbrev pub Distinct : List ℕ → ℕ → Type 0
Distinct nodes n = (k : ℕ) → k < n → (j : ℕ) → j < k → get_or nodes j 0 ≡ get_or nodes k 0 → ⊥

-- the table of the tanks has those of a table of nodes, in order
pub record TanksLaid (table : List Node) (among : ℕ) (nodes : List ℕ) (numbers : List Float) (overflows : List ℕ) (n : ℕ) : Type 0 where
  pub count : n ≡ length (tank_nodes_in table among)
  pub node : (k : ℕ) → k < n → get_or nodes k 0 ≡ get_or (tank_nodes_in table among) k 0
  pub tank : (k : ℕ) → k < n → (get_or table (get_or nodes k 0) blank_node).kind ≡ Tank (tank_at numbers overflows k)
