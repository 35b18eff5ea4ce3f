-- Needs no belief: all that the patterns write, over lists of numbers, at every instant or once a period.
use Rattle.std.specs.Prelude.{ℕ, Bool, cond, List, eqb, Float}
use Rattle.model.specs.Patterns.{period}
use Rattle.run_state.specs.declared.Lists.{Lists}
use Rattle.run_tanks.specs.Emptying.{tanks_emptied}
use Rattle.run_sources.specs.declared.PatternTables.{PatternTables}
use Rattle.run_patterns.specs.Filling.{multipliers_filled, demands_filled, heads_filled, demands_copied}

-- what the patterns write
pub record Written : Type 0 where
  pub table : List Float
  pub heads : List Float
  pub demands : List Float
  pub flows : List Float

-- and what they read
pub record Inputs : Type 0 where
  pub lengths : List ℕ
  pub multipliers : List Float
  pub start : ℕ
  pub timestep : ℕ
  pub counts : List ℕ
  pub bases : List Float
  pub places : List ℕ
  pub scale : Float
  pub pda : Bool
  pub n : ℕ
  pub reservoirs : List ℕ
  pub elevations : List Float
  pub patterns : List ℕ
  pub patterned : ℕ

-- as the tables hold them, and the lists
abbrev pub inputs_of : PatternTables → List Float → Inputs
inputs_of t multipliers = record {
  lengths = t.lengths;
  multipliers = multipliers;
  start = t.start;
  timestep = t.timestep;
  counts = t.demands.counts;
  bases = t.demands.bases;
  places = t.demands.patterns;
  scale = t.scale;
  pda = t.pda;
  n = t.demands.count;
  reservoirs = t.heads.at.nodes;
  elevations = t.heads.elevations;
  patterns = t.heads.patterns;
  patterned = t.heads.at.count;
}

abbrev pub written_in : List Float → Lists → Written
written_in table lists = record { table = table; heads = lists.heads; demands = lists.demands; flows = lists.demand_flows }

-- at an instant
unfoldable pub filled : Inputs → ℕ → Written → Written
filled t time w =
    let table = multipliers_filled t.lengths t.multipliers t.start t.timestep time w.table in
    let demands = demands_filled t.counts t.bases t.places table t.scale t.n w.demands in
    record {
      table = table;
      heads = heads_filled t.reservoirs t.elevations t.patterns table t.patterned w.heads;
      demands = demands;
      flows = demands_copied demands (cond t.pda t.n 0) w.flows;
    }

abbrev pub emptied : List ℕ → ℕ → Written → Written
emptied tanks tank-count w = record { table = w.table; heads = w.heads; demands = tanks_emptied tanks tank-count w.demands; flows = w.flows }

-- anew where the period of the instant is another than the one in force
unfoldable pub patterns_applied : Inputs → List ℕ → ℕ → ℕ → ℕ → Written → Written
patterns_applied t tanks tank-count in-force time w = cond (eqb (period t.start t.timestep time) in-force) (emptied tanks tank-count w) (filled t time w)
