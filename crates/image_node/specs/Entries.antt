-- Document 01, "The project image": what the payload of each kind of node says, and "Numbers by the place of the check": the first of 4, 5 and 6 that it breaks.
-- The tests of what it says are those of the tables (table_node/specs); those that only the words can break stand here.
use Rattle.std.specs.Prelude.{ℕ, ◌+◌, Bool, true, ◌&&◌, cond, Result, Ok, List, leb, ltb, eqb, length}
use Rattle.tank.specs.declared.tank.Tank as tanks
use Rattle.model.specs.declared.node.Demand.{Demand}
use Rattle.model.specs.declared.node.Demands.{Demands}
use Rattle.model.specs.declared.node.Demands.TheVariants.{NoDemand, One, Two, Three, Four}
use Rattle.model.specs.declared.node.Junction as junctions
use Rattle.model.specs.declared.node.Node.{Node}
use Rattle.model.specs.declared.node.NodeType.TheVariants.{Reservoir, Tank, Junction}
use Rattle.model.specs.declared.node.Reservoir as reservoirs
use Rattle.model.specs.declared.project.Counts.{Counts}
use Rattle.table_node.specs.Records.{node_ok, node_indices_ok}
use Rattle.image_entry.specs.Words.{word, number, pattern_index_of}
use Rattle.image_entry.specs.Entries.{passed}
use Rattle.image_entry.specs.declared.entry.Entry.{Entry}
use Rattle.image_entry.specs.declared.entry.Entry.TheVariants as entries
use Rattle.image_entry.specs.declared.entry.Fault.{Fault}
use Rattle.image_entry.specs.declared.entry.Fault.TheVariants as faults

-- 3, 4 and 5: a node, where the test of its flag came out as `flag`
unfoldable pub node_entry : Bool → Node → Counts → Result Entry Fault
node_entry flag n c =
    passed (ltb c.nodes 256) faults.Count (passed (flag && node_ok n.kind) faults.Word (passed (node_indices_ok c.patterns n.kind) faults.Index (Ok (entries.Node n))))

-- 3 reservoir: "elevation, head pattern"
unfoldable pub reservoir_of : List ℕ → reservoirs.Reservoir
reservoir_of p = record { elevation = number p 0; head_pattern = pattern_index_of (word p 2) }

unfoldable pub reservoir_entry : List ℕ → Counts → Result Entry Fault
reservoir_entry p c = node_entry true (record { kind = Reservoir (reservoir_of p) }) c

-- 4 tank: "elevation, initial, least, greatest level, diameter, flag 1 overflow"
unfoldable pub tank_of : List ℕ → tanks.Tank
tank_of p = record {
  elevation = record { 0 = number p 0 };
  initial_level = record { 0 = number p 2 };
  min_level = record { 0 = number p 4 };
  max_level = record { 0 = number p 6 };
  diameter = record { 0 = number p 8 };
  overflow = eqb (word p 10) 1;
}

unfoldable pub tank_entry : List ℕ → Counts → Result Entry Fault
tank_entry p c = node_entry (leb (word p 10) 1) (record { kind = Tank (tank_of p) }) c

-- 5 junction: "flag 1 disabled, elevation, 0 to 4 of (base demand, pattern)"
unfoldable pub demand_of : List ℕ → ℕ → Demand
demand_of p i = record { base = number p i; pattern = pattern_index_of (word p (i + 2)) }

unfoldable pub demands_of : List ℕ → Demands
demands_of p =
    cond (ltb (length p) 6) NoDemand
    (cond (ltb (length p) 9) (One (demand_of p 3))
    (cond (ltb (length p) 12) (Two (demand_of p 3) (demand_of p 6))
    (cond (ltb (length p) 15) (Three (demand_of p 3) (demand_of p 6) (demand_of p 9))
    (Four (demand_of p 3) (demand_of p 6) (demand_of p 9) (demand_of p 12)))))

unfoldable pub junction_of : List ℕ → junctions.Junction
junction_of p = record { disabled = eqb (word p 0) 1; elevation = number p 1; demands = demands_of p }

unfoldable pub junction_entry : List ℕ → Counts → Result Entry Fault
junction_entry p c = node_entry (leb (word p 0) 1) (record { kind = Junction (junction_of p) }) c
