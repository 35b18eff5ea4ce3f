-- Where number 10 is not given, the tables fit, which the functions behind the calls ask. Assumes nothing.
use mathlib.Core.Path.{◌≡◌}
use mathlib.Core.Bool.{true}
use Rattle.model.specs.declared.project.Project.{Project}
use Rattle.model.specs.declared.state.State.{State}
use Rattle.model.proofs.Loops.{both_left}
use Rattle.tables.specs.Tables.{tables_ok}
use Rattle.tables.specs.Fit.{TablesFit}
use Rattle.tables.proofs.Fits.{tables_fit}
use Rattle.judge.specs.Judgement.{state_ok, in_order}

pub fit : (p : Project) (s : State) → in_order p s ≡ true → TablesFit p
unfolding in_order
fit p s e = tables_fit p (both_left (tables_ok p) (state_ok p s) e)
