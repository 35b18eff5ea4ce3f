-- On a state in order the call of a load is the functions behind it, so that the judgement may be left out. Assumes nothing.
use mathlib.Core.Path.{◌≡◌}
use mathlib.Core.Bool.{true, cond}
use mathlib.Core.List.{List}
use Prim.Native.Nat.{ℕ}
use lib.Dec.{eqb}
use Rattle.model.specs.declared.project.Project.{Project}
use Rattle.model.specs.declared.state.State.{State}
use Rattle.tables.specs.Fit.{TablesFit}
use Rattle.tables.proofs.Fits.{tables_fit}
use Rattle.judge.specs.Judgement.{in_order}
use Rattle.load.specs.Loads.{load_fault, take_load}
use Rattle.calls.specs.Calls.{gives, judged, load}
use Rattle.calls_sound.proofs.Theorem.{tables_of}

module _ (p : Project) (s : State) (e : in_order p s ≡ true) where
  pub fit : TablesFit p
  fit = tables_fit p (tables_of p s e)

  pub load_inner : (words : List ℕ) → load p words s ≡ cond (eqb (load_fault p words) 0) (gives 0 (take_load p words s)) (gives (load_fault p words) s)
  unfolding load judged
  load_inner words = rw e
