-- `calls::lay_out_tank_links` meets its contract. Assumes nothing.
use mathlib.Core.Path.{sym, ◌∙◌}
use Rattle.tables.proofs.Fits.{tables_fit}
use Rattle.calls.proofs.lay_out_tank_links.Goals as goal

pub lay_out-requires : goal.lay_out-requires
lay_out-requires c = tables_fit c.args.p (sym c.tables_ok.ensures ∙ c.if-not-tables_ok.false)
