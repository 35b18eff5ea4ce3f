-- The pass over the rows of a project's controls comes to `apply_controls`, for any arrays that hold them and any state. Assumes nothing.
use Rattle.std.specs.Prelude.{None, Option, Some}
use Prim.Native.Nat.{ℕ, ◌<◌}
use mathlib.Core.Path.{◌≡◌, refl, sym, ap, ◌∙◌}
use mathlib.Core.Bool.{Bool, true, false, cond, not, ◌&&◌, and-false}
use mathlib.Core.List.{List}
use lib.Dec.{eqb}
use lib.Ieee.{Float, nan, le, neg}
use lib.ListN.{get_or, get_or-map}
use Rattle.number.specs.Constants.{l_tol}
use Rattle.number.specs.Operators.{◌⊖◌}
use Rattle.clock.specs.Steps.{clock_time}
use Rattle.control.specs.Controls.{watched, is_active, activate}
use Rattle.control.specs.Named.{condition_target, condition_seconds}
use Rattle.state_link.specs.Controls.{passed_over, controlled}
use Rattle.model.specs.Blank.{node_at, link_at, control_at, node_state_at, link_state_at, with_link, blank_node_state, blank_link_state}
use Rattle.model.specs.Loops.{through}
use Rattle.model.specs.Nodes.{elevation, is_tank}
use Rattle.model.specs.declared.control.Control.{Control}
use Rattle.model.specs.declared.control.ControlCondition.{ControlCondition}
use Rattle.model.specs.declared.control.ControlCondition.TheVariants.{HighPressure, LowPressure, HighLevel, LowLevel, Time, ClockTime}
use Rattle.model.specs.declared.link.Link.{Link}
use Rattle.model.specs.declared.node.Node.{Node}
use Rattle.model.specs.declared.project.Project.{Project}
use Rattle.model.specs.declared.state.LinkState.{LinkState}
use Rattle.model.specs.declared.state.NodeState.{NodeState}
use Rattle.model.specs.declared.state.State.{State}
use Rattle.model.proofs.Loops.{kept}
use Rattle.model.proofs.Pointwise.{map_set, carried_keeping}
use Rattle.run_controls.specs.Apply.{due_by, is_due, acted, link_in, with_link_in, row_turn, links_after}
use Rattle.run_rows.specs.Rows.{kind_of, row_from, row_in, RowsLaid}
use Rattle.run_rows.specs.declared.rows.Row.{Row}
use Rattle.run_state.specs.Lists.{head_of, heads_of, flow_of, status_of, setting_of, links_of, lists_of}
use Rattle.run_state.specs.declared.Links.{Links}
use Rattle.run_state.specs.declared.Lists.{Lists}
use Rattle.run_state.proofs.Apart.{same_state, links_changed}
use Rattle.state.specs.Controls.{control_turn, apply_controls}

-- ---- one control
-- a level control: its kind is 0 where its node is no tank
high_is :
    (tank : Bool) (above : Float) (time clock : ℕ)
    → due_by (cond tank 1 0) above 0 time clock ≡ (not (eqb time 0) && (tank && le (neg l_tol) above))
unfolding due_by
high_is true above time clock = refl
high_is false above time clock = sym (and-false (not (eqb time 0)))

low_is :
    (tank : Bool) (above : Float) (time clock : ℕ)
    → due_by (cond tank 2 0) above 0 time clock ≡ (not (eqb time 0) && (tank && le above l_tol))
unfolding due_by
low_is true above time clock = refl
low_is false above time clock = sym (and-false (not (eqb time 0)))

-- a row is due where its control is not passed over and is active
due_is :
    (c : ControlCondition) (n : Node) (s : NodeState) (time clock : ℕ)
    → due_by (kind_of (is_tank n) c) (s.head ⊖ elevation n ⊖ condition_target c) (condition_seconds c) time clock ≡ (not (passed_over c time) && is_active c n s time clock)
unfolding due_by
due_is (HighPressure i x) n s time clock = refl
due_is (LowPressure i x) n s time clock = refl
due_is (HighLevel i x) n s time clock = high_is (is_tank n) (s.head ⊖ elevation n ⊖ x) time clock
due_is (LowLevel i x) n s time clock = low_is (is_tank n) (s.head ⊖ elevation n ⊖ x) time clock
due_is (Time t) n s time clock = refl
due_is (ClockTime t) n s time clock = refl

-- what a row makes of its link is what its control activates
acted_is : (on : Bool) (c : Control) (n : Node) (l : Link) (x : LinkState) → acted on (row_from c n l) x ≡ cond on (activate c l x).state x
unfolding acted
acted_is on c n l x = by c.status c.setting
  where
    by : (a : Option ℕ) (b : Option Float) → acted on (row_from (record { condition = c.condition; link = c.link; status = a; setting = b }) n l) x
        ≡ cond on (activate (record { condition = c.condition; link = c.link; status = a; setting = b }) l x).state x
    by (Some v) b = refl
    by None (Some v) = refl
    by None None = refl

picked : {A : Type 0} (over active : Bool) (a x : A) → cond (not over && active) a x ≡ cond over x (cond active a x)
picked true active a x = refl
picked false active a x = refl

-- a row's turn on its link is its control's
turn_is :
    (c : Control) (n : Node) (s : NodeState) (l : Link) (x : LinkState) (time clock : ℕ)
    → acted (is_due (row_from c n l) s.head time clock) (row_from c n l) x ≡ controlled c n s l x time clock
unfolding controlled
turn_is c n s l x time clock =
    ap (λ (on : Bool). acted on (row_from c n l) x) (due_is c.condition n s time clock)
    ∙ acted_is (not (passed_over c.condition time) && is_active c.condition n s time clock) c n l x
    ∙ picked (passed_over c.condition time) (is_active c.condition n s time clock) (activate c l x).state x

-- ---- all of them
-- the three arrays at an index are the link's state there
link_is : (s : State) (l : ℕ) → link_in (links_of s) l ≡ link_state_at s l
link_is s l = rw (get_or-map flow_of s.links l blank_link_state, get_or-map status_of s.links l blank_link_state, get_or-map setting_of s.links l blank_link_state)

head_is : (s : State) (i : ℕ) → get_or (heads_of s) i nan ≡ (node_state_at s i).head
head_is s i = get_or-map head_of s.nodes i blank_node_state

-- a store into the three is a store of the link's state
store_is : (s : State) (l : ℕ) (y : LinkState) → with_link_in (links_of s) l y ≡ links_of (with_link s l y)
store_is s l y = rw (map_set flow_of s.links l y, map_set status_of s.links l y, map_set setting_of s.links l y)

-- nodes and clock stay
pub controls_keep_nodes : (p : Project) (s : State) → (apply_controls p s).nodes ≡ s.nodes
unfolding apply_controls
controls_keep_nodes p s =
    kept (λ (x : State). x.nodes) (control_turn p s.clock.instant (clock_time p.options.start_clock s.clock.instant)) s (λ i t. refl) p.counts.controls

pub controls_keep_clock : (p : Project) (s : State) → (apply_controls p s).clock ≡ s.clock
unfolding apply_controls
controls_keep_clock p s =
    kept (λ (x : State). x.clock) (control_turn p s.clock.instant (clock_time p.options.start_clock s.clock.instant)) s (λ i t. refl) p.counts.controls

-- and the links are those after the pass
pub apply_controls_is :
    (p : Project) {words : List ℕ} {numbers : List Float} {n : ℕ}
    → RowsLaid p.controls p.counts.controls p.nodes p.links words numbers n → (s : State)
    → links_after words numbers n (heads_of s) s.clock.instant (clock_time p.options.start_clock s.clock.instant) (links_of s)
    ≡ links_of (apply_controls p s)
unfolding links_after apply_controls
apply_controls_is p {words} {numbers} {n} laid s =
    carried_keeping links_of (λ (x : State). x.nodes ≡ s.nodes) n (row_turn words numbers (heads_of s) time clock) (control_turn p time clock) s refl
    (λ k x l same. same)
    (λ k x l same. turn k x l same)
    ∙ ap (λ (m : ℕ). links_of (through m (control_turn p time clock) s)) laid.count
  where
    time : ℕ
    time = s.clock.instant

    clock : ℕ
    clock = clock_time p.options.start_clock s.clock.instant

    turn : (k : ℕ) (x : State) → k < n → x.nodes ≡ s.nodes → row_turn words numbers (heads_of s) time clock k (links_of x) ≡ links_of (control_turn p time clock k x)
    turn k x l same =
        ap (λ (r : Row). with_link_in (links_of x) r.link (acted (is_due r (get_or (heads_of s) r.node nan) time clock) r (link_in (links_of x) r.link))) (laid.row k l)
        ∙ ap (λ (y : LinkState). with_link_in (links_of x) c.link (acted (is_due r (get_or (heads_of s) w nan) time clock) r y)) (link_is x c.link)
        ∙ ap (λ (h : Float). with_link_in (links_of x) c.link (acted (is_due r h time clock) r (link_state_at x c.link))) (head_is s w ∙ ap (λ (ns : List NodeState). (get_or ns w blank_node_state).head) (sym same))
        ∙ ap (with_link_in (links_of x) c.link) (turn_is c (node_at p w) (node_state_at x w) (link_at p c.link) (link_state_at x c.link) time clock)
        ∙ store_is x c.link _
      where
        c : Control
        c = control_at p k

        w : ℕ
        w = watched c.condition

        r : Row
        r = row_in p.controls p.nodes p.links k

-- ---- the call: the pass on the lists of a state, made a state again
pub controls_packed :
    (p : Project) (s r : State) {words : List ℕ} {numbers : List Float} {n hour : ℕ} {before : Lists} {links : Links}
    → RowsLaid p.controls p.counts.controls p.nodes p.links words numbers n
    → before ≡ lists_of s → hour ≡ clock_time p.options.start_clock s.clock.instant
    → links ≡ links_after words numbers n before.heads s.clock.instant hour before.links
    → lists_of r ≡ record { heads = before.heads; demands = before.demands; demand_flows = before.demand_flows; links = links; clock = before.clock }
    → r ≡ apply_controls p s
controls_packed p s r laid b h after packed =
    same_state r (apply_controls p s)
    (packed ∙ rw (after, b, h) (links_changed s (apply_controls p s) (apply_controls_is p laid s) (controls_keep_nodes p s) (controls_keep_clock p s)))
