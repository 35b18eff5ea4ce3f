-- `simulation::candidates::no_tanks` meets its contract. The invariant: every node passed is no tank. Assumes nothing.
use Prim.Native.Nat.{◌-◌}
use mathlib.Core.Path.{refl, sym}
use native.Mathlib.Omega.{arith}
use Rattle.model.proofs.Loops.{held_begun, held_turned, held_ended, held_failed}
use Rattle.simulation.specs.Steps.{no_tanks}
use borrow.Author.Rules.{rules}
use Rattle.simulation.proofs.candidates.no_tanks.Goals as goal

pub loop-i-init : goal.loop-i-init
loop-i-init c = held_begun

pub offset_bounds-p-i : goal.offset_bounds-p-i
offset_bounds-p-i c = omega (arith, c.requires.few.nodes)

pub bounds-p-i : goal.bounds-p-i
bounds-p-i c = omega (arith, c.requires.few.nodes)

pub returns-then-is_tank : goal.returns-then-is_tank
unfolding no_tanks
returns-then-is_tank c = sym (held_failed _ _ c.loop-i.i (search rules) (rw (← c.is_tank.ensures, c.if-is_tank.true)))

pub loop-i-preserved : goal.loop-i-preserved
loop-i-preserved c = held_turned c.loop-i.invariant (search rules) (rw (← c.is_tank.ensures, c.if-is_tank.false))

pub returns : goal.returns
unfolding no_tanks
returns c = sym (held_ended c.loop-i.invariant c.loop-i-test.false refl)
