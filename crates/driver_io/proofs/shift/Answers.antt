-- `driver_io::shift` meets its contract: what has been moved is the front of the buffer. Assumes nothing.
use Prim.Native.Nat.{◌-◌}
use mathlib.Core.Path.{◌≡◌, refl}
use native.Mathlib.Omega.{arith}
use Rattle.driver_io.proofs.Shifting.{shifted_more}
use borrow.Author.Rules.{rules}
use Rattle.driver_io.proofs.shift.Goals as goal

pub loop-i-preserved : goal.loop-i-preserved
loop-i-preserved c = rw c.loop-i.invariant (shifted_more c.args.buf.now c.args.from c.loop-i.i (omega arith))

pub returns : goal.returns
returns c =
    let q : c.loop-i.i ≡ c.args.to - c.args.from = omega (arith, c.loop-i.auto.i-end, c.loop-i-test.false) in
    record { value = refl; buf_after = rw (← q) c.loop-i.invariant }
