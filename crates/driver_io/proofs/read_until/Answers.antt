-- `driver_io::read_until` meets its contract: the bytes in front stay. Assumes nothing.
use Prim.Native.Nat.{◌-◌}
use mathlib.Core.Path.{refl, ◌∙◌}
use Rattle.driver_io.proofs.Shifting.{front_stays}
use borrow.Author.Rules.{rules}
use native.Mathlib.Omega.{arith}
use Rattle.driver_io.proofs.read_until.Goals as goal

pub loop-n-init : goal.loop-n-init
loop-n-init g c = (omega arith, c.requires, refl, refl)

pub returns-then-got-eq0 : goal.returns-then-got-eq0
returns-then-got-eq0 g c = let l = c.loop-n in record { lower_bound = (l.invariant.0, omega arith); buf_unchanged = front_stays l.buf _ c.args.have l.n l.invariant.0 l.invariant.1 ∙ l.invariant.3 }

pub loop-n-preserved : goal.loop-n-preserved
loop-n-preserved g c = let l = c.loop-n in (omega arith, search rules, search rules, front_stays l.buf _ c.args.have l.n l.invariant.0 l.invariant.1 ∙ l.invariant.3)

pub shape_of-buf : goal.shape_of-buf
shape_of-buf g c = c.loop-n.invariant.2

pub returns : goal.returns
returns g c = record { lower_bound = (c.loop-n.invariant.0, omega arith); buf_unchanged = c.loop-n.invariant.3 }
