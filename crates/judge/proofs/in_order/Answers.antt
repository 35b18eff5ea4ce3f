-- `judge::in_order` meets its contract. Assumes nothing.
use mathlib.Core.Path.{sym, ◌∙◌}
use Rattle.tables.proofs.Fits.{tables_fit}
use Rattle.judge.specs.Judgement.{in_order, state_ok, node_states_ok, link_states_ok}
use Rattle.judge.proofs.in_order.Goals as goal

pub returns-then-not-tables_ok : goal.returns-then-not-tables_ok
unfolding in_order
returns-then-not-tables_ok c = rw (← c.tables_ok.ensures, c.if-not-tables_ok.true)

pub state_ok-requires : goal.state_ok-requires
state_ok-requires c = (tables_fit c.args.p (sym c.tables_ok.ensures ∙ c.if-not-tables_ok.false)).few

pub returns : goal.returns
unfolding in_order state_ok node_states_ok link_states_ok
returns c = rw (← c.tables_ok.ensures, c.if-not-tables_ok.false, c.state_ok.ensures)
