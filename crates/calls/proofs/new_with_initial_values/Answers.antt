-- `calls::new_with_initial_values` meets its contract. Assumes nothing.
use mathlib.Core.Path.{sym, ◌∙◌}
use Rattle.tables.proofs.Fits.{tables_fit}
use Rattle.calls.proofs.new_with_initial_values.Goals as goal

pub new_with_initial_values-requires : goal.new_with_initial_values-requires
new_with_initial_values-requires c = tables_fit c.args.p (sym c.tables_ok.ensures ∙ c.if-not-tables_ok.false)
