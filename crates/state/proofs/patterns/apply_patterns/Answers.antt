-- `state::patterns::apply_patterns` meets its contract: the passes over the state's lists, made a state again. Assumes nothing.
use mathlib.Core.Path.{◌≡◌}
use native.Mathlib.Omega.{arith}
use lib.ListN.{length}
use borrow.Author.Rules.{rules}
use Rattle.state.proofs.Patterned.{inputs_laid, patterns_packed}
use Rattle.state.proofs.patterns.apply_patterns.Goals as goal

pub pattern_tables-t-requires : goal.pattern_tables-t-requires
pattern_tables-t-requires c = c.requires.few.nodes

pub returns : goal.returns
returns c =
    let multipliers : length c.args.p.multipliers ≡ 5376 = search rules in
    let nodes : length c.args.s.nodes ≡ 256 = search rules in
    let e = c.fill_patterns.ensures in
    patterns_packed c.args.p c.args.s _ _ (inputs_laid c.pattern_tables-t.ensures multipliers) (search rules) (omega (arith, c.requires.few.nodes))
    c.of-lists.ensures e.lists_after e.links_stay e.clock_stays c.state.ensures
