-- Without tanks neither they nor a level control give a time, and a step moves no node. Assumes nothing.
use mathlib.Core.Path.{◌≡◌, refl, sym, ap, ◌∙◌}
use mathlib.Core.Bool.{true, not, true≢false}
use Prim.Native.Nat.{ℕ, ◌<◌, min}
use native.Mathlib.Omega.{arith}
use lib.Seq.{set-get_or}
use Rattle.number.specs.Constants.{MAX}
use Rattle.stops.specs.Tankless.{NoLevelTime, NoTankTime}
use Rattle.model.specs.Blank.{node_at, control_at, node_state_at, blank_node_state, with_node}
use Rattle.model.specs.Nodes.{is_tank_type}
use Rattle.model.specs.declared.control.ControlCondition.{ControlCondition}
use Rattle.model.specs.declared.control.ControlCondition.TheVariants.{HighPressure, LowPressure, HighLevel, LowLevel, Time, ClockTime}
use Rattle.model.specs.declared.node.NodeType.{NodeType}
use Rattle.model.specs.declared.node.NodeType.TheVariants.{Reservoir, Tank, Junction}
use Rattle.model.specs.declared.project.Project.{Project}
use Rattle.model.specs.declared.state.NodeState.{NodeState}
use Rattle.model.specs.declared.state.State.{State}
use Rattle.model.proofs.Loops.{held_at}
use Rattle.model.proofs.Pointwise.{idle, on_nodes}
use Rattle.control.specs.Controls.{level_time}
use Rattle.tables.specs.Fit.{ConditionFit, TablesFit}
use Rattle.state_node.specs.Tanks.{moved, tank_candidate}
use Rattle.state.specs.Tanks.{node_moved, update_tanks}
use Rattle.simulation.specs.Steps.{no_tank_at, no_tanks, trigger_of, trigger_at, triggers_of, tank_time, smaller_tank, moment_of}
use Rattle.simulation.proofs.Accepted.{each_listed}

-- ---- one node that is no tank
no_tank_time : (k : NodeType) (s : NodeState) → not (is_tank_type k) ≡ true → tank_candidate k s ≡ MAX
no_tank_time (Reservoir r) s e = refl
no_tank_time (Tank t) s e = absurd (true≢false (sym e))
no_tank_time (Junction j) s e = refl

no_level_time : (k : NodeType) (s : NodeState) → not (is_tank_type k) ≡ true → (target : _) → level_time k s target ≡ MAX
no_level_time (Reservoir r) s e target = refl
no_level_time (Tank t) s e target = absurd (true≢false (sym e))
no_level_time (Junction j) s e target = refl

no_tank_moves : (k : NodeType) (s : NodeState) (seconds : ℕ) → not (is_tank_type k) ≡ true → moved k s seconds ≡ s
no_tank_moves (Reservoir r) s seconds e = refl
no_tank_moves (Tank t) s seconds e = absurd (true≢false (sym e))
no_tank_moves (Junction j) s seconds e = refl

-- ---- the tables
module _ (p : Project) (none : no_tanks p ≡ true) where
  no_tank : (i : ℕ) → i < p.counts.nodes → not (is_tank_type (node_at p i).kind) ≡ true
  unfolding no_tanks
  no_tank i l = held_at p.counts.nodes (no_tank_at p) none i l

  tank_never : (s : State) → tank_time p s ≡ MAX
  unfolding tank_time
  tank_never s =
      idle p.counts.nodes (smaller_tank p s) MAX
      (λ k l. ap (λ (n : ℕ). min n MAX) (no_tank_time (node_at p k).kind (node_state_at s k) (no_tank k l)) ∙ omega arith)

  pub tanks_idle : (s : State) (seconds : ℕ) → update_tanks p s seconds ≡ s
  unfolding update_tanks
  tanks_idle s seconds =
      idle p.counts.nodes (node_moved p seconds) s
      (λ k l.
      ap (with_node s k) (no_tank_moves (node_at p k).kind (node_state_at s k) seconds (no_tank k l))
      ∙ ap (on_nodes s) (set-get_or s.nodes k blank_node_state))

  module _ (t : TablesFit p) (s : State) where
    never_level : (nodes : ℕ) (c : ControlCondition) → nodes ≡ p.counts.nodes → ConditionFit nodes c → NoLevelTime (moment_of p s) (trigger_of c)
    unfolding moment_of
    never_level nodes (HighPressure n x) e f = tt
    never_level nodes (LowPressure n x) e f = tt
    never_level nodes (HighLevel n x) e f = no_level_time (node_at p n).kind (node_state_at s n) (no_tank n (omega (arith, f.0))) x
    never_level nodes (LowLevel n x) e f = no_level_time (node_at p n).kind (node_state_at s n) (no_tank n (omega (arith, f.0))) x
    never_level nodes (Time seconds) e f = tt
    never_level nodes (ClockTime seconds) e f = tt

    pub tankless : NoTankTime (triggers_of p) (moment_of p s)
    unfolding moment_of triggers_of
    tankless = record {
      tank = tank_never s;
      level =
          each_listed (NoLevelTime (moment_of p s)) (trigger_at p) p.counts.controls
          (λ i l. never_level _ (control_at p i).condition refl (t.control i l).condition);
    }
