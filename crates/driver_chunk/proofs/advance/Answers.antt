-- `driver_chunk::advance` meets its contract: the invariant are the turns so far, of every project that tables and state are of. Assumes nothing.
use Prim.Native.Nat.{◌-◌, ◌≤◌}
use mathlib.Core.Bool.{true}
use mathlib.Core.Path.{◌≡◌, refl, sym, ◌∙◌}
use native.Mathlib.Omega.{arith}
use borrow.Author.Rules.{rules}
use lib.Ieee.{Float}
use mathlib.Core.List.{List}
use lib.ListN.{length}
use Rattle.model.specs.declared.project.Project.{Project}
use Rattle.model.specs.declared.state.State.{State}
use Rattle.judge.specs.Judgement.{in_order}
use Rattle.run_state.specs.Lists.{lists_of}
use Rattle.run_state.specs.declared.Lists.{Lists}
use Rattle.driver_load.proofs.Inner.{fit}
use Rattle.driver_tables.specs.Laid.{Laid}
use Rattle.driver_tables.specs.declared.Tables.{Tables}
use Rattle.driver_tables.proofs.Inside.{tables_inside}
use Rattle.driver_chunk.proofs.Going.{going_length}
use Rattle.driver_chunk.proofs.Turns.{Begins, Turns, turns_begun, turns_refused, turns_less, turns_step, turns_finished, turns_ended, taken_inside, can_now, late_now}
use Rattle.driver_chunk.proofs.advance.Goals as goal

-- the lists hold the state at first
begins : {t : Tables} {multipliers : List Float} (s : State) {a : Lists} → length multipliers ≡ 5376 → length s.nodes ≡ 256 → length s.links ≡ 384 → a ≡ lists_of s
    → (p : Project) → Laid p t → multipliers ≡ p.multipliers → in_order p s ≡ true → Begins p s t multipliers a
begins s whole nodes links held p laid same ordered =
    record { laid = laid; same = same; whole = whole; ordered = ordered; held = held; nodes = nodes; links = links }

pub loop-table-init : goal.loop-table-init
loop-table-init c = record {
  wide = search rules;
  long = refl;
  room = omega arith;
  inside = omega arith;
  turns = λ p s b. turns_begun b (c.wants_input-wants.ensures ∙ rw c.count-numbers.ensures);
}

pub step-length-requires : goal.step-length-requires
step-length-requires c =
    let q = tables_inside c.requires.laid (fit c.requires.project c.args.s c.requires.ordered) in
    record { groups_inside = q.groups; levels_inside = q.levels }

pub overflow_add-used : goal.overflow_add-used
overflow_add-used c = omega (arith, taken_inside c.args.input.now c.loop-table.used c.load_left.ensures c.in-Ok.taken c.in-Ok.is c.loop-table.invariant.inside, c)

pub overflow_sub-input : goal.overflow_sub-input
overflow_sub-input c = taken_inside c.args.input.now c.loop-table.used c.load_left.ensures c.in-Ok.taken c.in-Ok.is c.loop-table.invariant.inside

pub loop-table-smaller : goal.loop-table-smaller
loop-table-smaller c =
    let tested = can_now c.loop-table.wants (length c.loop-table.out - c.loop-table.written) c.loop-table.lists.clock.instant c.args.t.now.options.duration c.can_step.ensures c.loop-table-test.true in
    let b = begins c.args.s c.told-multipliers c.well_formed.1.1.0.1.1.0.1.0.1 c.well_formed.1.1.0.1.1.1.0.1.0.1 c.of-lists.ensures c.requires.project c.requires.laid c.requires.same c.requires.ordered in
    turns_less b (c.loop-table.invariant.turns c.requires.project c.args.s b) tested.0 tested.1 c.loop-table.table c.loop-table.invariant.wide c.apply_patterns-in_force.ensures.value c.apply_patterns-in_force.ensures.lists_after c.apply_patterns-in_force.ensures.links_stay c.apply_patterns-in_force.ensures.clock_stays c.clock_time-hour.ensures c.apply_controls.ensures c.count-numbers.ensures c.load_left.ensures c.in-Ok.taken c.in-Ok.is c.step-length.ensures.value c.step-length.ensures.lists_after c.put_step_line-written.ensures.value c.put_step_line-written.ensures.buf_after

pub loop-table-preserved : goal.loop-table-preserved
loop-table-preserved c =
    let tested = can_now c.loop-table.wants (length c.loop-table.out - c.loop-table.written) c.loop-table.lists.clock.instant c.args.t.now.options.duration c.can_step.ensures c.loop-table-test.true in
    let next = λ (p : Project) (s : State) (b : Begins p s c.args.t.now c.args.multipliers.now c.of-lists.result).
    turns_step b (c.loop-table.invariant.turns p s b) tested.0 tested.1 c.loop-table.table c.loop-table.invariant.wide c.apply_patterns-in_force.ensures.value c.apply_patterns-in_force.ensures.lists_after c.apply_patterns-in_force.ensures.links_stay c.apply_patterns-in_force.ensures.clock_stays c.clock_time-hour.ensures c.apply_controls.ensures c.count-numbers.ensures c.load_left.ensures c.in-Ok.taken c.in-Ok.is c.step-length.ensures.value c.step-length.ensures.lists_after c.put_step_line-written.ensures.value c.put_step_line-written.ensures.buf_after
    (c.wants_input-wants-in-loop-table.ensures ∙ rw c.count-numbers.ensures) in
    let here = next c.requires.project c.args.s (begins c.args.s c.told-multipliers c.well_formed.1.1.0.1.1.0.1.0.1 c.well_formed.1.1.0.1.1.1.0.1.0.1 c.of-lists.ensures c.requires.project c.requires.laid c.requires.same c.requires.ordered) in
    record {
      wide = c.apply_patterns-in_force.array_long;
      long = going_length here.going;
      room = omega (arith, here.going.put.room, going_length here.going);
      inside = here.going.inside;
      turns = next;
    }

pub returns-in-Err : goal.returns-in-Err
returns-in-Err c = λ p laid same ordered.
    let tested = can_now c.loop-table.wants (length c.loop-table.out - c.loop-table.written) c.loop-table.lists.clock.instant c.args.t.now.options.duration c.can_step.ensures c.loop-table-test.true in
    let b = begins c.args.s c.told-multipliers c.well_formed.1.1.0.1.1.0.1.0.1 c.well_formed.1.1.0.1.1.1.0.1.0.1 c.of-lists.ensures p laid same ordered in
    turns_refused b (c.loop-table.invariant.turns p c.args.s b) tested.0 tested.1 c.loop-table.table c.loop-table.invariant.wide c.apply_patterns-in_force.ensures.value c.apply_patterns-in_force.ensures.lists_after c.apply_patterns-in_force.ensures.links_stay c.apply_patterns-in_force.ensures.clock_stays c.clock_time-hour.ensures c.apply_controls.ensures c.count-numbers.ensures c.load_left.ensures _ c.in-Err.is c.number.ensures c.state.ensures c.put_refused_line-end.ensures.value c.put_refused_line-end.ensures.buf_after

pub returns-then-can_turn : goal.returns-then-can_turn
returns-then-can_turn c = λ p laid same ordered.
    let b = begins c.args.s c.told-multipliers c.well_formed.1.1.0.1.1.0.1.0.1 c.well_formed.1.1.0.1.1.1.0.1.0.1 c.of-lists.ensures p laid same ordered in
    let can = sym c.can_turn.ensures ∙ c.if-can_turn.true in
    turns_finished b (c.loop-table.invariant.turns p c.args.s b) can
    (late_now c.loop-table.wants (length c.loop-table.out - c.loop-table.written) c.loop-table.lists.clock.instant c.args.t.now.options.duration c.can_step.ensures c.loop-table-test.false can)
    c.state-then-can_turn.ensures c.put_steps_line-end.ensures.value c.put_steps_line-end.ensures.buf_after

pub returns : goal.returns
returns c = λ p laid same ordered.
    let b = begins c.args.s c.told-multipliers c.well_formed.1.1.0.1.1.0.1.0.1 c.well_formed.1.1.0.1.1.1.0.1.0.1 c.of-lists.ensures p laid same ordered in
    turns_ended b (c.loop-table.invariant.turns p c.args.s b) c.state-2.ensures (sym c.can_turn.ensures ∙ c.if-can_turn.false)
