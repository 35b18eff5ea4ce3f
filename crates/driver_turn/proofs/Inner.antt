-- On a state in order each public call is the function behind it, so that a turn may leave out the judgement. Assumes nothing.
use mathlib.Core.Path.{◌≡◌, ap, ◌∙◌}
use mathlib.Core.Bool.{true}
use Rattle.model.specs.declared.project.Project.{Project}
use Rattle.model.specs.declared.state.State.{State}
use Rattle.judge.specs.Judgement.{in_order}
use Rattle.state.specs.Patterns.{apply_patterns}
use Rattle.state.specs.Controls.{apply_controls}
use Rattle.solver.specs.Closing.{update_tank_links}
use Rattle.simulation.specs.Steps.{next_hydraulic_timestep}
use Rattle.calls.specs.Calls.{judged, patterns, controls, tank_links, step}
use Rattle.calls_sound.proofs.Theorem.{patterns_in_order, controls_in_order}
use Rattle.driver_turn.specs.Turns.{prepared}

module _ (p : Project) (s : State) (e : in_order p s ≡ true) where
  pub patterns_inner : (patterns p s).state ≡ apply_patterns p s
  unfolding patterns judged
  patterns_inner = rw e

  pub controls_inner : (controls p s).state ≡ apply_controls p s
  unfolding controls judged
  controls_inner = rw e

  pub tank_links_inner : (tank_links p s).state ≡ update_tank_links p s
  unfolding tank_links judged
  tank_links_inner = rw e

  pub step_length_inner : (step p s).length ≡ (next_hydraulic_timestep p s).length
  unfolding step
  step_length_inner = rw e

  pub step_state_inner : (step p s).state ≡ (next_hydraulic_timestep p s).state
  unfolding step
  step_state_inner = rw e

-- patterns, then controls
pub prepared_inner : (p : Project) (s : State) → in_order p s ≡ true → prepared p s ≡ apply_controls p (apply_patterns p s)
unfolding prepared
prepared_inner p s e =
    controls_inner p (patterns p s).state (patterns_in_order p s e) ∙ ap (apply_controls p) (patterns_inner p s e)

pub prepared_in_order : (p : Project) (s : State) → in_order p s ≡ true → in_order p (prepared p s) ≡ true
unfolding prepared
prepared_in_order p s e = controls_in_order p (patterns p s).state (patterns_in_order p s e)
