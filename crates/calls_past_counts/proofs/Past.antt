-- No call changes an entry past the counts: each turn of its loops writes below them. Assumes nothing.
use Prim.Native.Nat.{ℕ, ◌+◌, ◌<◌}
use mathlib.Core.Path.{◌≡◌, refl, ◌∙◌}
use mathlib.Core.Bool.{Bool, true, false, cond}
use mathlib.Core.List.{List}
use native.Mathlib.Omega.{arith}
use lib.Dec.{eqb}
use lib.Seq.{get_or-set_other}
use Rattle.clock.specs.Steps.{advanced}
use Rattle.model.specs.Blank.{blank_state, blank_node_state, blank_link_state, control_at, with_node, with_link}
use Rattle.model.specs.declared.project.Project.{Project}
use Rattle.model.specs.declared.state.LinkState.{LinkState}
use Rattle.model.specs.declared.state.NodeState.{NodeState}
use Rattle.model.specs.declared.state.State.{State}
use Rattle.model.proofs.Keeps.{keeps}
use Rattle.model.proofs.Loops.{both_left}
use Rattle.tables.specs.Fit.{TablesFit}
use Rattle.tables.specs.Tables.{tables_ok}
use Rattle.tables.proofs.Fits.{tables_fit}
use Rattle.judge.specs.Judgement.{in_order, state_ok}
use Rattle.state.specs.Start.{start_nodes, start_links, new_with_initial_values}
use Rattle.state.specs.Patterns.{apply_patterns}
use Rattle.state.specs.Controls.{apply_controls}
use Rattle.state.specs.Tanks.{update_tanks}
use Rattle.load.specs.Loads.{load_fault, load_flows, take_load}
use Rattle.tank_links.specs.Groups.{is_laid_out}
use Rattle.solver.specs.Closing.{close_links, update_tank_links}
use Rattle.solver.specs.Pressure.{apply_pressure_controls}
use Rattle.solver.specs.declared.pressure.Pressed.{Pressed}
use Rattle.simulation.specs.Steps.{length_of, moved_by, next_hydraulic_timestep}
use Rattle.calls.specs.Calls.{gives, judged, patterns, controls, load, tank_links, tank_links_by, pressure, step}
use Rattle.calls.specs.declared.Called.{Called}
use Rattle.calls.specs.declared.PressureCalled.{PressureCalled}
use Rattle.calls.specs.declared.StepCalled.{StepCalled}
use Rattle.second_clock.specs.SecondClock.{second_applies, second_length, moved_on, refused_step, second}
use Rattle.calls_past_counts.specs.Past.{SamePast}

same : (p : Project) (s : State) → SamePast p s s
same p s = record { node = λ i l. refl; link = λ i l. refl }

-- ---- one entry written, below the counts
module _ {p : Project} {s t : State} (i : ℕ) where
  node_set : (x : NodeState) → i < p.counts.nodes → SamePast p s t → SamePast p s (with_node t i x)
  node_set x l q = record {
    node = λ j m. get_or-set_other t.nodes i j x blank_node_state (λ e. omega arith) ∙ q.node j m;
    link = q.link;
  }

  link_set : (x : LinkState) → i < p.counts.links → SamePast p s t → SamePast p s (with_link t i x)
  link_set x l q = record {
    node = q.node;
    link = λ j m. get_or-set_other t.links i j x blank_link_state (λ e. omega arith) ∙ q.link j m;
  }

-- ---- what the calls do to a state
-- the start leaves the filler there
pub start_past : (p : Project) → SamePast p blank_state (new_with_initial_values p)
unfolding new_with_initial_values start_links start_nodes
start_past p =
    keeps (λ i u. SamePast p blank_state u) _ _ _ (keeps (λ i u. SamePast p blank_state u) _ _ _ (same p blank_state) (λ i u l r. node_set i _ l r))
    (λ i u l r. link_set i _ l r)

pub apply_patterns_past : (p : Project) (s : State) → SamePast p s (apply_patterns p s)
unfolding apply_patterns
apply_patterns_past p s = keeps (λ i u. SamePast p s u) _ _ _ (same p s) (λ i u l r. node_set i _ l r)

pub update_tanks_past : (p : Project) (s : State) (seconds : ℕ) → SamePast p s (update_tanks p s seconds)
unfolding update_tanks
update_tanks_past p s seconds = keeps (λ i u. SamePast p s u) _ _ _ (same p s) (λ i u l r. node_set i _ l r)

pub apply_controls_past : (p : Project) (s : State) → TablesFit p → SamePast p s (apply_controls p s)
unfolding apply_controls
apply_controls_past p s fit =
    keeps (λ i u. SamePast p s u) _ _ _ (same p s) (λ i u l r. link_set (control_at p i).link _ (fit.control i l).link r)

pub take_load_past : (p : Project) (words : List ℕ) (s : State) → SamePast p s (take_load p words s)
unfolding take_load load_flows
take_load_past p words s =
    keeps (λ i u. SamePast p s u) _ _ _ (keeps (λ i u. SamePast p s u) _ _ _ (same p s) (λ i u l r. link_set i _ l r))
    (λ i u l r. node_set i _ l r)

pub update_tank_links_past : (p : Project) (s : State) → SamePast p s (update_tank_links p s)
unfolding update_tank_links close_links
update_tank_links_past p s =
    keeps (λ i u. SamePast p s u) _ _ _ (keeps (λ i u. SamePast p s u) _ _ _ (same p s) (λ i u l r. link_set i _ l r))
    (λ i u l r. node_set i _ l r)

pub apply_pressure_controls_past : (p : Project) (s : State) → TablesFit p → SamePast p s (apply_pressure_controls p s).state
unfolding apply_pressure_controls
apply_pressure_controls_past p s fit =
    keeps (λ i (r : Pressed). SamePast p s r.state) _ _ _ (same p s) (λ i u l r. link_set (control_at p i).link _ (fit.control i l).link r)

pub moved_by_past : (p : Project) (s : State) (length : ℕ) → SamePast p s (moved_by p s length)
unfolding moved_by
moved_by_past p s length = go (eqb length 0)
  where
    u : State
    u = update_tanks p s length

    q : SamePast p s u
    q = update_tanks_past p s length

    go : (b : Bool) → SamePast p s (cond b s (record { nodes = u.nodes; links = u.links; clock = advanced s.clock length }))
    go true = same p s
    go false = record { node = q.node; link = q.link }

-- ---- the public calls, refused or not
in_order_fit : (p : Project) (s : State) → in_order p s ≡ true → TablesFit p
unfolding in_order
in_order_fit p s e = tables_fit p (both_left (tables_ok p) (state_ok p s) e)

judged_past : (p : Project) (s : State) (a : Called) → (TablesFit p → SamePast p s a.state) → SamePast p s (judged p s a).state
unfolding judged
judged_past p s a h = go (in_order p s) refl
  where
    go : (b : Bool) → in_order p s ≡ b → SamePast p s (cond b a (gives 10 s)).state
    go true e = h (in_order_fit p s e)
    go false e = same p s

pub patterns_past : (p : Project) (s : State) → SamePast p s (patterns p s).state
unfolding patterns
patterns_past p s = judged_past p s _ (λ fit. apply_patterns_past p s)

pub controls_past : (p : Project) (s : State) → SamePast p s (controls p s).state
unfolding controls
controls_past p s = judged_past p s _ (λ fit. apply_controls_past p s fit)

pub load_past : (p : Project) (words : List ℕ) (s : State) → SamePast p s (load p words s).state
unfolding load
load_past p words s = judged_past p s _ (λ fit. go (eqb (load_fault p words) 0))
  where
    go : (b : Bool) → SamePast p s (cond b (gives 0 (take_load p words s)) (gives (load_fault p words) s)).state
    go true = take_load_past p words s
    go false = same p s

pub tank_links_past : (p : Project) (s : State) → SamePast p s (tank_links p s).state
unfolding tank_links
tank_links_past p s = judged_past p s _ (λ fit. update_tank_links_past p s)

pub tank_links_by_past : (p : Project) (begins middles links : List ℕ) (s : State) → SamePast p s (tank_links_by p begins middles links s).state
unfolding tank_links_by
tank_links_by_past p begins middles links s = judged_past p s _ (λ fit. go (is_laid_out p begins middles links))
  where
    go : (b : Bool) → SamePast p s (cond b (gives 0 (update_tank_links p s)) (gives 10 s)).state
    go true = update_tank_links_past p s
    go false = same p s

pub pressure_past : (p : Project) (s : State) → SamePast p s (pressure p s).state
unfolding pressure
pressure_past p s = go (in_order p s) refl
  where
    go : (b : Bool) → in_order p s ≡ b
        → SamePast p s (cond {A = PressureCalled} b (record { number = 0; state = (apply_pressure_controls p s).state; changed = (apply_pressure_controls p s).changed }) (record { number = 10; state = s; changed = false })).state
    go true e = apply_pressure_controls_past p s (in_order_fit p s e)
    go false e = same p s

pub step_past : (p : Project) (s : State) → SamePast p s (step p s).state
unfolding step next_hydraulic_timestep
step_past p s = go (in_order p s)
  where
    go : (b : Bool)
        → SamePast p s (cond {A = StepCalled} b (record { number = 0; length = length_of p s; state = moved_by p s (length_of p s) }) (record { number = 10; length = 0; state = s })).state
    go true = moved_by_past p s (length_of p s)
    go false = same p s

moved_on_past : (p : Project) (s : State) (seconds : ℕ) → SamePast p s (moved_on s seconds)
unfolding moved_on
moved_on_past p s seconds = go (eqb seconds 0)
  where
    go : (b : Bool)
        → SamePast p s (cond b s (record { nodes = s.nodes; links = s.links; clock = record { instant = s.clock.instant + seconds; count = s.clock.count + 1 } }))
    go true = same p s
    go false = record { node = λ i l. refl; link = λ i l. refl }

pub second_past : (p : Project) (s : State) → SamePast p s (second p s).state
unfolding second
second_past p s = go (in_order p s) (second_applies p)
  where
    go : (a b : Bool)
        → SamePast p s
        (cond a (cond b (record { number = 0; length = second_length p s; state = moved_on s (second_length p s) }) (refused_step 14 s)) (refused_step 10 s)).state
    go true true = moved_on_past p s (second_length p s)
    go true false = same p s
    go false b = same p s
