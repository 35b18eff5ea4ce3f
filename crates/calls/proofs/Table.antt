-- A table that is laid out is accepted: closing by it is closing. Assumes nothing.
use Prim.Native.Nat.{ℕ}
use mathlib.Core.Path.{◌≡◌, refl}
use mathlib.Core.Bool.{Bool, true, false, cond, ◌&&◌}
use mathlib.Core.List.{List}
use lib.ListN.{length}
use Rattle.model.specs.declared.project.Project.{Project}
use Rattle.model.specs.declared.state.State.{State}
use Rattle.tables.specs.Tables.{tables_ok}
use Rattle.tables.proofs.Fits.{tables_fit}
use Rattle.judge.specs.Judgement.{state_ok, in_order}
use Rattle.tank_links.specs.Groups.{begins_of, middles_of, entries_of, is_laid_out}
use Rattle.tank_links.proofs.Judging.{own_laid}
use Rattle.solver.specs.Closing.{update_tank_links}
use Rattle.calls.specs.Calls.{gives, judged, laid_into, tank_links, tank_links_by}

module _ (p : Project) (s : State) (begins middles links : List ℕ) (a : length begins ≡ 257) (b : length middles ≡ 256) (c : length links ≡ 768) where
  laid : tables_ok p ≡ true → is_laid_out p (laid_into p (begins_of p) begins) (laid_into p (middles_of p) middles) (laid_into p (entries_of p) links) ≡ true
  unfolding laid_into
  laid e = rw e (own_laid p (tables_fit p e) begins middles links a b c)

  pub by_laid_out : tank_links_by p (laid_into p (begins_of p) begins) (laid_into p (middles_of p) middles) (laid_into p (entries_of p) links) s ≡ tank_links p s
  unfolding tank_links_by tank_links judged in_order
  by_laid_out = go (tables_ok p) refl (state_ok p s)
    where
      table : Bool
      table = is_laid_out p (laid_into p (begins_of p) begins) (laid_into p (middles_of p) middles) (laid_into p (entries_of p) links)

      go : (t : Bool) → tables_ok p ≡ t → (u : Bool)
          → cond (t && u) (cond table (gives 0 (update_tank_links p s)) (gives 10 s)) (gives 10 s) ≡ cond (t && u) (gives 0 (update_tank_links p s)) (gives 10 s)
      go true e true = rw (laid e)
      go true e false = refl
      go false e u = refl
