-- `tables::tables_ok` meets its contract. Counts that pass are few, as the tests of the tables require; the answer is by what each call ensures. Assumes nothing.
use mathlib.Core.Path.{◌≡◌, ◌∙◌}
use native.Mathlib.Omega.{arith}
use lib.ListN.{length}
use Rattle.model.proofs.Loops.{all_first}
use Rattle.model.specs.Blank.{blank_node, blank_link, blank_control, blank_premise}
use Rattle.tables.specs.Tables.{Few, patterns_ok, nodes_ok, links_ok, controls_ok, premises_ok, tables_ok}
use Rattle.tables.proofs.Fits.{few_of_counts}
use Rattle.table_entry.specs.Fits.{node_fits, link_fits, control_fits, premise_fits}
use Rattle.table_entry.proofs.Tests.{failed, passed}
use Rattle.tables.proofs.tables_ok.Goals as goal

pub returns-then-not-counts_ok : goal.returns-then-not-counts_ok
unfolding tables_ok
returns-then-not-counts_ok c = rw (failed c.counts_ok.ensures c.if-not-counts_ok.true)

pub patterns_ok-requires : goal.patterns_ok-requires
patterns_ok-requires c = (few_of_counts _ (passed c.counts_ok.ensures c.if-not-counts_ok.false)).patterns

pub shared_ref_as_front-nodes_ok : goal.shared_ref_as_front-nodes_ok
shared_ref_as_front-nodes_ok c = (few_of_counts _ (passed c.counts_ok.ensures c.if-not-counts_ok.false)).nodes

pub shared_ref_as_front-links_ok : goal.shared_ref_as_front-links_ok
shared_ref_as_front-links_ok c = (few_of_counts _ (passed c.counts_ok.ensures c.if-not-counts_ok.false)).links

pub shared_ref_as_front-controls_ok : goal.shared_ref_as_front-controls_ok
shared_ref_as_front-controls_ok c = (few_of_counts _ (passed c.counts_ok.ensures c.if-not-counts_ok.false)).controls

pub shared_ref_as_front-premises_ok : goal.shared_ref_as_front-premises_ok
shared_ref_as_front-premises_ok c = (few_of_counts _ (passed c.counts_ok.ensures c.if-not-counts_ok.false)).premises

pub returns : goal.returns
unfolding tables_ok patterns_ok nodes_ok links_ok controls_ok premises_ok
returns c =
    let p = c.args.p in
    let few : Few c.args.p.counts = few_of_counts _ (passed c.counts_ok.ensures c.if-not-counts_ok.false) in
    let nodes_long : length c.args.p.nodes ≡ 256 = c.well_formed.0.1.1.1.1.1.1.0.1.0.1 in
    let links_long : length c.args.p.links ≡ 384 = c.well_formed.0.1.1.1.1.1.1.1.0.1.0.1 in
    let controls_long : length c.args.p.controls ≡ 64 = c.well_formed.0.1.1.1.1.1.1.1.1.0.1.0.1 in
    let premises_long : length c.args.p.premises ≡ 128 = c.well_formed.0.1.1.1.1.1.1.1.1.1.0.1.0.1 in
    rw (
      passed c.counts_ok.ensures c.if-not-counts_ok.false,
      c.options_ok.ensures,
      c.pattern_index_ok.ensures,
      c.patterns_ok.ensures,
      c.nodes_ok.ensures ∙ all_first (node_fits p.counts.patterns) p.nodes blank_node p.counts.nodes (omega (arith, few.nodes)),
      c.links_ok.ensures ∙ all_first (link_fits p.counts.nodes) p.links blank_link p.counts.links (omega (arith, few.links)),
      c.controls_ok.ensures ∙ all_first (control_fits p.counts.nodes p.counts.links) p.controls blank_control p.counts.controls (omega (arith, few.controls)),
      c.premises_ok.ensures ∙ all_first (premise_fits p.counts.nodes p.counts.links) p.premises blank_premise p.counts.premises (omega (arith, few.premises)),
    )
