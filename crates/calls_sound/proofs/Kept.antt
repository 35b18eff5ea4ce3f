-- The start of tables that fit is in order, and every call keeps a state so. Assumes nothing.
use Rattle.std.specs.Prelude.{None, Option, Some}
use mathlib.Core.Path.{◌≡◌, refl, sym, ap, ◌∙◌, subst}
use mathlib.Core.Bool.{Bool, true, false, ◌||◌, cond}
use mathlib.Core.List.{List}
use Prim.Native.Nat.{ℕ, zero, suc, ◌^◌, ◌≤◌, ◌<◌}
use native.Mathlib.Omega.{arith}
use lib.Dec.{eqb, lit≤}
use borrow.Author.Tests.{eqb-true, eqb-false}
use lib.ListN.{length, get_or, set, replicate, length-set, length-replicate}
use lib.Seq.{get_or-set_same, get_or-set_other}
use lib.Ieee.{Float}
use Rattle.number.specs.Bounds.{Within}
use Rattle.number.proofs.Bounds.{within_mono, within_cond}
use Rattle.tank.proofs.Heads.{head_after_within}
use Rattle.clock.specs.Steps.{clock_time}
use Rattle.model.specs.Blank.{blank_state, blank_node_state, blank_link_state, node_at, link_at, control_at, node_state_at, link_state_at, with_node, with_link}
use Rattle.model.specs.Nodes.{is_tank, is_junction}
use Rattle.model.specs.Patterns.{period}
use Rattle.model.specs.declared.control.Control.{Control}
use Rattle.model.specs.declared.link.Link.{Link}
use Rattle.model.specs.declared.node.Node.{Node}
use Rattle.model.specs.declared.node.NodeType.{NodeType}
use Rattle.model.specs.declared.node.NodeType.TheVariants.{Reservoir, Tank, Junction}
use Rattle.model.specs.declared.project.Project.{Project}
use Rattle.model.specs.declared.state.LinkState.{LinkState}
use Rattle.model.specs.declared.state.NodeState.{NodeState}
use Rattle.model.specs.declared.state.State.{State}
use Rattle.model.proofs.Keeps.{keeps, set_keeps}
use Rattle.control.specs.Controls.{watched, is_active, activate_setting, activate_status, activate}
use Rattle.tables.specs.Fit.{NodeFit, LinkFit, StatusActionFit, SettingActionFit, ControlFit, TablesFit}
use Rattle.judge.specs.Fit.{NodeStateFit, LinkStateFit, StateFit}
use Rattle.state_node.specs.Start.{start_node}
use Rattle.state_link.specs.Start.{start_link}
use Rattle.state.specs.Start.{start_nodes, start_links, new_with_initial_values}
use Rattle.state.specs.Patterns.{multiplier_of, apply_patterns}
use Rattle.state_patterns.specs.Patterns.{patterned}
use Rattle.state_link.specs.Controls.{passed_over, controlled}
use Rattle.state.specs.Controls.{apply_controls}
use Rattle.state_node.specs.Tanks.{moved}
use Rattle.state.specs.Tanks.{update_tanks}
use Rattle.load.specs.Loads.{value_at, values_before, load_fault, load_flows, loaded_head, net_inflow, loaded_node, take_load}
use Rattle.state_link.specs.Closing.{closes_into, closes_out_of, closed}
use Rattle.solver.specs.Closing.{close_links, tank_inflow, summed, update_tank_links}
use Rattle.state_link.specs.Pressure.{presses, press}
use Rattle.solver.specs.Pressure.{apply_pressure_controls}
use Rattle.solver.specs.declared.pressure.Pressed.{Pressed}
use Rattle.calls_sound.proofs.Numbers.{zero_within, initial_head_within, initial_flow_within, initial_setting_within, multiplier_within, pattern_demand_within, pattern_head_within}
use Rattle.calls_sound.proofs.Sums.{loaded_flow_within, loaded_head_within, net_inflow_within, tank_inflow_within}

-- ---- one entry written
module _ {p : Project} {t : State} (i : ℕ) where
  node_kept : {x : NodeState} → NodeStateFit x → StateFit p t → StateFit p (with_node t i x)
  node_kept {x} f o = record {
    instant = o.instant;
    count = o.count;
    node = λ j l. set_keeps NodeStateFit t.nodes i j x blank_node_state (λ e. f) (o.node j l);
    link = o.link;
  }

  link_kept : {x : LinkState} → LinkStateFit x → StateFit p t → StateFit p (with_link t i x)
  link_kept {x} f o = record {
    instant = o.instant;
    count = o.count;
    node = o.node;
    link = λ j l. set_keeps LinkStateFit t.links i j x blank_link_state (λ e. f) (o.link j l);
  }

-- one of two entries that fit
node_cond : {x y : NodeState} (b : Bool) → NodeStateFit x → NodeStateFit y → NodeStateFit (cond b x y)
node_cond true v w = v
node_cond false v w = w

link_cond : {x y : LinkState} (b : Bool) → LinkStateFit x → LinkStateFit y → LinkStateFit (cond b x y)
link_cond true v w = v
link_cond false v w = w

-- ---- single entries
set_fit : {nodes : ℕ} {l : Link} {x : LinkState} (g : Option Float) → SettingActionFit g → LinkFit nodes l → LinkStateFit x → LinkStateFit (activate_setting g l x).state
set_fit None k o s = s
set_fit (Some v) k o s = record { flow = initial_flow_within o; status = s.status; setting = k }

activated_fit : {nodes : ℕ} {l : Link} {x : LinkState} (a : Option ℕ) (g : Option Float) → StatusActionFit a → SettingActionFit g → LinkFit nodes l → LinkStateFit x
    → LinkStateFit (activate_status a g l x).state
activated_fit None g k m o s = set_fit g m o s
activated_fit (Some v) g k m o s = record { flow = initial_flow_within o; status = k; setting = s.setting }

control_fit : {nodes links : ℕ} {l : Link} {x : LinkState} (c : Control) → ControlFit nodes links c → LinkFit nodes l → LinkStateFit x → LinkStateFit (activate c l x).state
control_fit c k o s = activated_fit c.status c.setting k.status k.setting o s

controlled_fit : {nodes links : ℕ} {l : Link} {x : LinkState} (c : Control) (n : Node) (h : NodeState) (time clock : ℕ) → ControlFit nodes links c → LinkFit nodes l → LinkStateFit x
    → LinkStateFit (controlled c n h l x time clock)
unfolding controlled
controlled_fit c n h time clock k o s =
    link_cond (passed_over c.condition time) s (link_cond (is_active c.condition n h time clock) (control_fit c k o s) s)

pressed_fit : {nodes links : ℕ} {l : Link} {x : LinkState} (changed : Bool) (c : Control) (n : Node) (h : NodeState) → ControlFit nodes links c → LinkFit nodes l → LinkStateFit x
    → LinkStateFit (press changed c n h l x).state
unfolding press
pressed_fit {nodes} {links} {l} {x} changed c n h k o s = go (presses changed c.condition n h)
  where
    go : (b : Bool) → LinkStateFit (cond b (activate c l x) (record { state = x; changed = changed })).state
    go true = control_fit c k o s
    go false = s

moved_fit : (patterns seconds : ℕ) (k : NodeType) {x : NodeState} → NodeFit patterns k → seconds ≤ 315360000 → NodeStateFit x → NodeStateFit (moved k x seconds)
moved_fit patterns seconds (Reservoir r) o l s = s
moved_fit patterns seconds (Tank t) o l s = record {
  head = within_mono (lit≤ tt) (head_after_within o s.demand l s.head);
  demand = s.demand;
  demand_flow = s.demand_flow;
}
moved_fit patterns seconds (Junction j) o l s = s

closed_fit : {x : LinkState} (e : Node) (es : NodeState) (b : Node) (bs : NodeState) → LinkStateFit x → LinkStateFit (closed x e es b bs)
unfolding closed
closed_fit {x} e es b bs s =
    link_cond (closes_into e.kind es x.flow || closes_out_of b.kind bs x.flow) (record { flow = s.flow; status = lit≤ tt; setting = s.setting }) s

with_demand_fit : {x : NodeState} {d : Float} (b : Bool) → Within d (10 ^ 20) → NodeStateFit x → {y : NodeState} → NodeStateFit y
    → NodeStateFit (cond b (record { head = x.head; demand = d; demand_flow = x.demand_flow }) y)
with_demand_fit b w o f = node_cond b (record { head = o.head; demand = w; demand_flow = o.demand_flow }) f

loaded_head_fit : {x : NodeState} (words : List ℕ) (k : ℕ) (n : Node) → (is_junction n ≡ true → Within (value_at words k) (10 ^ 12)) → NodeStateFit x → NodeStateFit (loaded_head words k n x)
unfolding loaded_head
loaded_head_fit {x} words k n h o = go (is_junction n) h
  where
    go : (b : Bool) → (b ≡ true → Within (value_at words k) (10 ^ 12))
        → NodeStateFit (cond b (record { head = value_at words k; demand = x.demand; demand_flow = x.demand_flow }) x)
    go true h = record { head = h refl; demand = o.demand; demand_flow = o.demand_flow }
    go false h = o

-- ---- the calls
module _ {p : Project} (fit : TablesFit p) where
  pub patterns_kept : {s : State} → StateFit p s → StateFit p (apply_patterns p s)
  unfolding apply_patterns patterned
  patterns_kept {s} o =
      let t = period p.options.pattern_start p.options.pattern s.clock.instant in
      keeps (λ i u. StateFit p u) _ s p.counts.nodes o
      (λ i u l r.
      let x = r.node i l in
      let n = fit.node i l in
      let demand = pattern_demand_within p.options.default_pattern fit.default (multiplier_within fit t) fit.options.scale (node_at p i).kind n in
      node_kept i (record {
        head = pattern_head_within p.options.default_pattern fit.default (multiplier_within fit t) fit.options.scale (node_at p i).kind n x.head;
        demand = demand;
        demand_flow = within_cond p.options.pda demand x.demand_flow;
      }) r)

  pub controls_kept : {s : State} → StateFit p s → StateFit p (apply_controls p s)
  unfolding apply_controls
  controls_kept {s} o =
      keeps (λ i u. StateFit p u) _ s p.counts.controls o
      (λ i u l r.
      let c = control_at p i in
      let k = fit.control i l in
      let w = watched c.condition in
      link_kept c.link
      (controlled_fit c (node_at p w) (node_state_at u w) s.clock.instant (clock_time p.options.start_clock s.clock.instant) k (fit.link c.link k.link) (r.link c.link k.link)) r)

  pub pressure_kept : {s : State} → StateFit p s → StateFit p (apply_pressure_controls p s).state
  unfolding apply_pressure_controls
  pressure_kept {s} o =
      keeps (λ i (r : Pressed). StateFit p r.state) _ (record { state = s; changed = false }) p.counts.controls o
      (λ i u l r.
      let c = control_at p i in
      let k = fit.control i l in
      let w = watched c.condition in
      link_kept c.link (pressed_fit u.changed c (node_at p w) (node_state_at u.state w) k (fit.link c.link k.link) (r.link c.link k.link)) r)

  -- "any length within the remainder" is at most the duration
  pub tanks_kept : {s : State} (seconds : ℕ) → seconds ≤ 315360000 → StateFit p s → StateFit p (update_tanks p s seconds)
  unfolding update_tanks
  tanks_kept {s} seconds m o =
      keeps (λ i u. StateFit p u) _ s p.counts.nodes o
      (λ i u l r. node_kept i (moved_fit _ seconds (node_at p i).kind (fit.node i l) m (r.node i l)) r)

  close_kept : {s : State} → StateFit p s → StateFit p (close_links p s)
  unfolding close_links
  close_kept {s} o =
      keeps (λ i u. StateFit p u) _ s p.counts.links o
      (λ i u l r.
      let e = (link_at p i).end in
      let b = (link_at p i).start in
      link_kept i (closed_fit (node_at p e) (node_state_at u e) (node_at p b) (node_state_at u b) (r.link i l)) r)

  pub tank_links_kept : {s : State} → StateFit p s → StateFit p (update_tank_links p s)
  unfolding update_tank_links summed
  tank_links_kept {s} o =
      let c = close_kept o in
      keeps (λ i u. StateFit p u) _ (close_links p s) p.counts.nodes c
      (λ i u l r. node_kept i (with_demand_fit (is_tank (node_at p i)) (tank_inflow_within fit c i) (r.node i l) (r.node i l)) r)

  flows_kept : {s : State} (words : List ℕ) → eqb (load_fault p words) 0 ≡ true → StateFit p s → StateFit p (load_flows p words s)
  unfolding load_flows
  flows_kept {s} words e o =
      keeps (λ i u. StateFit p u) _ s p.counts.links o
      (λ i u l r. link_kept i (record { flow = loaded_flow_within p words e i l; status = (r.link i l).status; setting = (r.link i l).setting }) r)

  pub load_kept : {s : State} (words : List ℕ) → eqb (load_fault p words) 0 ≡ true → StateFit p s → StateFit p (take_load p words s)
  unfolding take_load loaded_node
  load_kept {s} words e o =
      let f = flows_kept words e o in
      keeps (λ i u. StateFit p u) _ (load_flows p words s) p.counts.nodes f
      (λ i u l r.
      node_kept i
      (with_demand_fit (is_tank (node_at p i)) (net_inflow_within fit f i) (r.node i l)
      (loaded_head_fit words (values_before p i) (node_at p i) (loaded_head_within p words e i l) (r.node i l))) r)
