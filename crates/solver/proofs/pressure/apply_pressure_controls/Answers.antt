-- `solver::pressure::apply_pressure_controls` meets its contract. Assumes nothing.
use Prim.Native.Nat.{◌-◌, ◌<◌}
use mathlib.Core.Path.{refl}
use native.Mathlib.Omega.{arith}
use Rattle.model.proofs.Loops.{begun, turned, ended}
use Rattle.state.proofs.Inside.{watched_inside, controlled_inside}
use Rattle.solver.specs.Pressure.{apply_pressure_controls}
use borrow.Author.Rules.{rules}
use Rattle.solver.proofs.pressure.apply_pressure_controls.Goals as goal

pub loop-i-init : goal.loop-i-init
loop-i-init c = begun

pub offset_bounds-p-i : goal.offset_bounds-p-i
offset_bounds-p-i c = omega (arith, c.requires.few.controls)

pub bounds-p-i : goal.bounds-p-i
bounds-p-i c = omega (arith, c.requires.few.controls)

pub offset_bounds-p-w : goal.offset_bounds-p-w
offset_bounds-p-w c =
    let watched_in : c.watched-w.result < 256 = rw c.watched-w.ensures (watched_inside c.requires c.loop-i.i (search rules)) in
    omega (arith, watched_in)

pub bounds-p-w : goal.bounds-p-w
bounds-p-w c =
    let watched_in : c.watched-w.result < 256 = rw c.watched-w.ensures (watched_inside c.requires c.loop-i.i (search rules)) in
    omega (arith, watched_in)

pub offset_bounds-st-w : goal.offset_bounds-st-w
offset_bounds-st-w c =
    let watched_in : c.watched-w.result < 256 = rw c.watched-w.ensures (watched_inside c.requires c.loop-i.i (search rules)) in
    omega (arith, watched_in)

pub bounds-st-w : goal.bounds-st-w
bounds-st-w c =
    let watched_in : c.watched-w.result < 256 = rw c.watched-w.ensures (watched_inside c.requires c.loop-i.i (search rules)) in
    omega (arith, watched_in)

pub offset_bounds-p-l : goal.offset_bounds-p-l
offset_bounds-p-l c = omega (arith, controlled_inside c.requires c.loop-i.i (search rules))

pub bounds-p-l : goal.bounds-p-l
bounds-p-l c = omega (arith, controlled_inside c.requires c.loop-i.i (search rules))

pub offset_bounds-st-l : goal.offset_bounds-st-l
offset_bounds-st-l c = omega (arith, controlled_inside c.requires c.loop-i.i (search rules))

pub bounds-st-l : goal.bounds-st-l
bounds-st-l c = omega (arith, controlled_inside c.requires c.loop-i.i (search rules))

pub offset_bounds-st-l-in-loop-i : goal.offset_bounds-st-l-in-loop-i
offset_bounds-st-l-in-loop-i c = omega (arith, controlled_inside c.requires c.loop-i.i (search rules))

pub bounds-st-l-in-loop-i : goal.bounds-st-l-in-loop-i
bounds-st-l-in-loop-i c = omega (arith, controlled_inside c.requires c.loop-i.i (search rules))

pub loop-i-preserved : goal.loop-i-preserved
loop-i-preserved c = turned c.loop-i.invariant (search rules) (rw (c.press-done.ensures, c.watched-w.ensures))

pub returns : goal.returns
unfolding apply_pressure_controls
returns c = ended c.loop-i.invariant c.loop-i-test.false refl
