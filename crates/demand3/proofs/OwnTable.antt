-- In a list closing by the table is closing: the table is the one laid out, so that it is never refused. Assumes nothing.
use Prim.Native.Nat.{ℕ}
use mathlib.Core.Path.{◌≡◌}
use lib.ListN.{replicate, length-replicate}
use Rattle.model.specs.declared.project.Project.{Project}
use Rattle.model.specs.declared.state.State.{State}
use Rattle.calls.specs.Calls.{tank_links}
use Rattle.calls.proofs.Table.{by_laid_out}
use Rattle.demand3.specs.Calls.{by_own_table}

pub by_own_table_lem : (p : Project) (s : State) → by_own_table p s ≡ tank_links p s
unfolding by_own_table
by_own_table_lem p s =
    by_laid_out p s (replicate 257 0) (replicate 256 0) (replicate 768 0) (length-replicate {A = ℕ} 257 0) (length-replicate {A = ℕ} 256 0) (length-replicate {A = ℕ} 768 0)
