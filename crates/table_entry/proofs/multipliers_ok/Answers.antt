-- `table_entry::multipliers_ok` meets its contract. The invariant: the test holds of every entry passed, so one that fails decides. Assumes nothing.
use Prim.Native.Nat.{◌-◌}
use mathlib.Core.Path.{refl, sym}
use Rattle.model.proofs.Loops.{held_begun, held_turned, held_ended, held_failed}
use Rattle.table_entry.proofs.Tests.{failed, passed}
use Rattle.table_entry.specs.Fits.{multipliers_ok}
use borrow.Author.Rules.{rules}
use Rattle.table_entry.proofs.multipliers_ok.Goals as goal

pub loop-i-init : goal.loop-i-init
loop-i-init c = held_begun

pub returns-then-not-number_ok : goal.returns-then-not-number_ok
unfolding multipliers_ok
returns-then-not-number_ok c = sym (held_failed _ _ c.loop-i.i (search rules) (failed c.number_ok.ensures c.if-not-number_ok.true))

pub loop-i-preserved : goal.loop-i-preserved
loop-i-preserved c = held_turned c.loop-i.invariant (search rules) (passed c.number_ok.ensures c.if-not-number_ok.false)
