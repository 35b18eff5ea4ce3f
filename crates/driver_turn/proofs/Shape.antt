-- No pass changes how many entries a state has. Assumes nothing.
use Prim.Native.Nat.{ℕ}
use mathlib.Core.Path.{◌≡◌, refl, ◌∙◌}
use mathlib.Core.Bool.{Bool, true, false, cond}
use mathlib.Core.List.{List}
use lib.Dec.{eqb}
use lib.ListN.{length, length-set}
use Rattle.clock.specs.Steps.{clock_time, advanced}
use Rattle.model.specs.Patterns.{period}
use Rattle.model.specs.declared.project.Project.{Project}
use Rattle.model.specs.declared.state.State.{State}
use Rattle.model.proofs.Loops.{kept}
use Rattle.state.specs.Controls.{control_turn, apply_controls}
use Rattle.state.specs.Patterns.{multiplier_of, node_patterned, apply_patterns}
use Rattle.state.specs.Tanks.{node_moved, update_tanks}
use Rattle.load.specs.Loads.{flow_loaded, load_flows, node_loaded, take_load}
use Rattle.solver.specs.Closing.{link_closed, close_links, node_summed, update_tank_links}
use Rattle.simulation.specs.Steps.{length_of, moved_by, next_hydraulic_timestep}

-- a state has as many nodes and links as another
pub record Alike (u s : State) : Type 0 where
  pub nodes : length u.nodes ≡ length s.nodes
  pub links : length u.links ≡ length s.links

pub alike : {u s r : State} → Alike u s → Alike s r → Alike u r
alike a b = record { nodes = a.nodes ∙ b.nodes; links = a.links ∙ b.links }

module _ (p : Project) (s : State) where
  pub patterns_alike : Alike (apply_patterns p s) s
  unfolding apply_patterns
  patterns_alike = record {
    nodes = kept (λ (v : State). length v.nodes) (node_patterned p (multiplier_of p (period p.options.pattern_start p.options.pattern s.clock.instant))) s (λ i v. length-set v.nodes i _) p.counts.nodes;
    links = kept (λ (v : State). length v.links) (node_patterned p (multiplier_of p (period p.options.pattern_start p.options.pattern s.clock.instant))) s (λ i v. refl) p.counts.nodes;
  }

  pub controls_alike : Alike (apply_controls p s) s
  unfolding apply_controls
  controls_alike = record {
    nodes = kept (λ (v : State). length v.nodes) (control_turn p s.clock.instant (clock_time p.options.start_clock s.clock.instant)) s (λ i v. refl) p.counts.controls;
    links = kept (λ (v : State). length v.links) (control_turn p s.clock.instant (clock_time p.options.start_clock s.clock.instant)) s (λ i v. length-set v.links _ _) p.counts.controls;
  }

  pub closing_alike : Alike (update_tank_links p s) s
  unfolding update_tank_links close_links
  closing_alike = record {
    nodes = kept (λ (v : State). length v.nodes) (node_summed p (close_links p s)) (close_links p s) (λ i v. length-set v.nodes i _) p.counts.nodes
        ∙ kept (λ (v : State). length v.nodes) (link_closed p) s (λ i v. refl) p.counts.links;
    links = kept (λ (v : State). length v.links) (node_summed p (close_links p s)) (close_links p s) (λ i v. refl) p.counts.nodes
        ∙ kept (λ (v : State). length v.links) (link_closed p) s (λ i v. length-set v.links i _) p.counts.links;
  }

  moving_alike : (seconds : ℕ) → Alike (update_tanks p s seconds) s
  unfolding update_tanks
  moving_alike seconds = record {
    nodes = kept (λ (v : State). length v.nodes) (node_moved p seconds) s (λ i v. length-set v.nodes i _) p.counts.nodes;
    links = kept (λ (v : State). length v.links) (node_moved p seconds) s (λ i v. refl) p.counts.nodes;
  }

  pub step_alike : Alike (next_hydraulic_timestep p s).state s
  unfolding next_hydraulic_timestep moved_by
  step_alike = by (eqb (length_of p s) 0)
    where
      moved : State
      moved = update_tanks p s (length_of p s)

      by : (b : Bool) → Alike (cond b s (record { nodes = moved.nodes; links = moved.links; clock = advanced s.clock (length_of p s) })) s
      by true = record { nodes = refl; links = refl }
      by false = record { nodes = (moving_alike (length_of p s)).nodes; links = (moving_alike (length_of p s)).links }

pub load_alike : (p : Project) (words : List ℕ) (s : State) → Alike (take_load p words s) s
unfolding take_load load_flows
load_alike p words s = record {
  nodes = kept (λ (v : State). length v.nodes) (node_loaded p words (load_flows p words s)) (load_flows p words s) (λ i v. length-set v.nodes i _) p.counts.nodes
      ∙ kept (λ (v : State). length v.nodes) (flow_loaded words) s (λ i v. refl) p.counts.links;
  links = kept (λ (v : State). length v.links) (node_loaded p words (load_flows p words s)) (load_flows p words s) (λ i v. refl) p.counts.nodes
      ∙ kept (λ (v : State). length v.links) (flow_loaded words) s (λ i v. length-set v.links i _) p.counts.links;
}
