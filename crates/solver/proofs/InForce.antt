-- Closing changes of the nodes only the tanks' demands, so it leaves a period's patterns in force. Assumes nothing.
use Prim.Native.Nat.{ℕ}
use Rattle.model.specs.declared.project.Project.{Project}
use Rattle.model.specs.declared.state.NodeState.{NodeState}
use Rattle.model.specs.declared.state.State.{State}
use Rattle.state.proofs.InForce.{Forced, InForce, nodes_force, pass_force, tank_forced}
use Rattle.solver.specs.Closing.{tank_inflow, close_links, summed, update_tank_links}
use Rattle.solver.proofs.Summed.{nodes_kept}

pub closing_force : {p : Project} {t : ℕ} (s : State) → InForce p t s → InForce p t (update_tank_links p s)
unfolding update_tank_links
closing_force {p} {t} s q = pass_force (summed p (close_links p s)) (close_links p s) turn (nodes_force s (close_links p s) (nodes_kept p s) q)
  where
    turn : (i : ℕ) (x : NodeState) → Forced p t i x → Forced p t i (summed p (close_links p s) i x)
    turn i x w = unfold summed in tank_forced x (tank_inflow p (close_links p s) i) w
