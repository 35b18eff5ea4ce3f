-- `list_call::close_by_table` meets its contract: the table is laid out into arrays of 0. Assumes nothing.
use Prim.Native.Nat.{ℕ}
use mathlib.Core.Path.{◌≡◌, ◌∙◌}
use mathlib.Core.List.{List}
use lib.ListN.{replicate}
use Rattle.model.specs.declared.project.Project.{Project}
use Rattle.model.specs.declared.state.State.{State}
use Rattle.tank_links.specs.Groups.{begins_of, middles_of, entries_of}
use Rattle.calls.specs.Calls.{laid_into, tank_links_by}
use Rattle.calls.specs.declared.Called.{Called}
use Rattle.demand3.specs.Calls.{by_own_table}
use Rattle.list_call.proofs.close_by_table.Goals as goal

made : (p : Project) (s : State) {b m l begins middles links : List ℕ} {r : Called} → b ≡ replicate 257 0 → m ≡ replicate 256 0 → l ≡ replicate 768 0
    → begins ≡ laid_into p (begins_of p) b → middles ≡ laid_into p (middles_of p) m → links ≡ laid_into p (entries_of p) l → r ≡ tank_links_by p begins middles links s
    → r ≡ by_own_table p s
unfolding by_own_table
made p s x y z d e f g = g ∙ rw (d, e, f, x, y, z)

pub returns : goal.returns
returns c =
    let empty = c.empty-groups.ensures in
    let l = c.lay_out_tank_links.ensures in
    made c.args.p c.args.s empty.begins empty.middles empty.links l.begins_after l.middles_after l.links_after c.update_tank_links_by.ensures
