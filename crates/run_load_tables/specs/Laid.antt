-- Needs no belief: what the arrays of a load's tables hold, as a reading of them gives it.
use Rattle.std.specs.Prelude.{ℕ, ◌<◌, ◌≡◌, Bool, cond, List, get_or}
use Rattle.model.specs.Blank.{blank_node}
use Rattle.model.specs.Nodes.{is_junction}
use Rattle.model.specs.declared.link.Link.{Link}
use Rattle.model.specs.declared.node.Node.{Node}
use Rattle.run_loads.specs.declared.table.LoadTable.{LoadTable}
use Rattle.run_tables.specs.Held.{Pushed}
use Rattle.run_tables.specs.Tanks.{tank_in}
use Rattle.tank_links.specs.Laid.{end_in, start_in}

-- whether node i of a table is a junction
abbrev pub junction_in : List Node → ℕ → Bool
junction_in table i = is_junction (get_or table i blank_node)

-- the ends of a table's first n links
pub record EndsLaid (table : List Link) (n : ℕ) (starts ends : List ℕ) : Type 0 where
  pub start : (k : ℕ) → k < n → get_or starts k 0 ≡ start_in table k
  pub end : (k : ℕ) → k < n → get_or ends k 0 ≡ end_in table k

-- which of a table's first n nodes are tanks
pub record MarksLaid (table : List Node) (n : ℕ) (tanks : List ℕ) : Type 0 where
  pub mark : (i : ℕ) → i < n → get_or tanks i 0 ≡ cond (tank_in table i) 1 0

-- what a load goes by, of a table's first n nodes and another's first m links
pub record LoadLaid (nodes : List Node) (n : ℕ) (links : List Link) (m : ℕ) (t : LoadTable) : Type 0 where
  pub count : t.links ≡ m
  pub junctions : Pushed (junction_in nodes) n t.junctions.nodes t.junctions.count
  pub ends : EndsLaid links m t.starts t.ends
  pub marks : MarksLaid nodes n t.tanks
