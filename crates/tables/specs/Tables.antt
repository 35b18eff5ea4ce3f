-- Document 01, number 10: "tables break 4 to 6". The tests are the decoder's own (`table_ranges` and the crates of each kind's records), of every entry
-- below the counts; "entries past the counts are not judged".
use Rattle.std.specs.Prelude.{ℕ, ◌≤◌, Bool, ◌&&◌, get_or}
use Rattle.model.specs.Loops.{all_below}
use Rattle.model.specs.Blank.{node_at, link_at, control_at, premise_at}
use Rattle.model.specs.declared.project.Counts.{Counts}
use Rattle.model.specs.declared.project.Project.{Project}
use Rattle.table_ranges.specs.Ranges.{pattern_index_ok}
use Rattle.table_ranges.specs.Records.{options_ok}
use Rattle.table_entry.specs.Fits.{counts_ok, pattern_ok, node_fits, link_fits, control_fits, premise_fits}

-- what `counts_ok` tests, as facts
pub record Few (c : Counts) : Type 0 where
  pub patterns : c.patterns ≤ 32
  pub nodes : c.nodes ≤ 256
  pub links : c.links ≤ 384
  pub controls : c.controls ≤ 64
  pub premises : c.premises ≤ 128

abbrev pub pattern_ok_at : Project → ℕ → Bool
pattern_ok_at p k = pattern_ok p.multipliers k (get_or p.lengths k 0)

unfoldable pub patterns_ok : Project → Bool
patterns_ok p = all_below p.counts.patterns (pattern_ok_at p)

abbrev pub node_fits_at : Project → ℕ → Bool
node_fits_at p i = node_fits p.counts.patterns (node_at p i)

unfoldable pub nodes_ok : Project → Bool
nodes_ok p = all_below p.counts.nodes (node_fits_at p)

abbrev pub link_fits_at : Project → ℕ → Bool
link_fits_at p i = link_fits p.counts.nodes (link_at p i)

unfoldable pub links_ok : Project → Bool
links_ok p = all_below p.counts.links (link_fits_at p)

abbrev pub control_fits_at : Project → ℕ → Bool
control_fits_at p i = control_fits p.counts.nodes p.counts.links (control_at p i)

unfoldable pub controls_ok : Project → Bool
controls_ok p = all_below p.counts.controls (control_fits_at p)

abbrev pub premise_fits_at : Project → ℕ → Bool
premise_fits_at p i = premise_fits p.counts.nodes p.counts.links (premise_at p i)

unfoldable pub premises_ok : Project → Bool
premises_ok p = all_below p.counts.premises (premise_fits_at p)

-- no fault
unfoldable pub tables_ok : Project → Bool
tables_ok p =
    counts_ok p.counts && options_ok p.options && pattern_index_ok p.counts.patterns p.options.default_pattern && patterns_ok p && nodes_ok p
    && links_ok p && controls_ok p && premises_ok p
