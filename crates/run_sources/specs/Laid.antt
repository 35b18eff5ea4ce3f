-- Needs no belief: what the tables of the patterns hold, all together.
use Rattle.std.specs.Prelude.{ℕ, ◌≡◌, List}
use Rattle.model.specs.declared.node.Node.{Node}
use Rattle.model.specs.declared.options.Options.{Options}
use Rattle.run_sources.specs.Lengths.{LengthsLaid}
use Rattle.run_sources.specs.Sources.{DemandsLaid, HeadsLaid}
use Rattle.run_sources.specs.declared.PatternTables.{PatternTables}

-- they are those of options, of the lengths of patterns and of the first n nodes of a table
pub record PatternsLaid (o : Options) (lengths : List ℕ) (nodes : List Node) (n : ℕ) (t : PatternTables) : Type 0 where
  pub lengths_laid : LengthsLaid lengths t.lengths
  pub start : t.start ≡ o.pattern_start
  pub timestep : t.timestep ≡ o.pattern
  pub scale : t.scale ≡ o.demand_multiplier
  pub pda : t.pda ≡ o.pda
  pub count : t.demands.count ≡ n
  pub demands : DemandsLaid nodes n o.default_pattern t.demands.counts t.demands.bases t.demands.patterns
  pub heads : HeadsLaid nodes n t.heads.at.nodes t.heads.elevations t.heads.patterns t.heads.at.count
