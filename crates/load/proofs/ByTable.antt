-- A load taken by the tables of a project comes to `take_load`, for any table that is laid out of it. Assumes nothing.
use Prim.Native.Nat.{ℕ}
use mathlib.Core.Path.{◌≡◌, sym, ◌∙◌}
use mathlib.Core.List.{List}
use lib.Ieee.{Float}
use lib.ListN.{length}
use Rattle.model.specs.declared.project.Project.{Project}
use Rattle.model.specs.declared.state.State.{State}
use Rattle.run_load_tables.specs.Laid.{LoadLaid}
use Rattle.run_loads.specs.Loaded.{lists_loaded}
use Rattle.run_loads.specs.declared.table.LoadTable.{LoadTable}
use Rattle.run_state.specs.Lists.{lists_of}
use Rattle.run_state.proofs.Apart.{same_state, lists_made}
use Rattle.run_tables.specs.Held.{TanksLaid}
use Rattle.run_tables.specs.declared.nodes.NodeList.{NodeList}
use Rattle.tables.specs.Fit.{TablesFit}
use Rattle.load.specs.Loads.{take_load}
use Rattle.load.proofs.Inflows.{sum_inflows_is}
use Rattle.load.proofs.Loaded.{take_flows_is, take_heads_is, load_keeps_demand_flows, load_keeps_clock}

module _ {p : Project} (t : LoadTable) (tanks : NodeList) {numbers : List Float} {overflows : List ℕ} (fit : TablesFit p) (laid : LoadLaid p.nodes p.counts.nodes p.links p.counts.links t)
    (tables : TanksLaid p.nodes p.counts.nodes tanks.nodes numbers overflows tanks.count) (words : List ℕ) (s : State) (long : length s.nodes ≡ 256) where
  pub take_load_is : lists_loaded words t tanks (lists_of s) ≡ lists_of (take_load p words s)
  take_load_is =
      rw laid.count
      (lists_made (take_heads_is p laid.junctions words s) (sum_inflows_is fit words s long laid.ends laid.marks tables) (sym (load_keeps_demand_flows p words s)) (take_flows_is p words s) (sym (load_keeps_clock p words s)))

  pub loaded_by_is : (r : State) → lists_of r ≡ lists_loaded words t tanks (lists_of s) → r ≡ take_load p words s
  loaded_by_is r q = same_state r (take_load p words s) (q ∙ take_load_is)
