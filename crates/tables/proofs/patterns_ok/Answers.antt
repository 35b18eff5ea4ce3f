-- `tables::patterns_ok` meets its contract. The invariant: the test holds of every entry passed, so one that fails decides. Assumes nothing.
use Prim.Native.Nat.{◌-◌}
use mathlib.Core.Path.{refl, sym}
use Rattle.model.proofs.Loops.{held_begun, held_turned, held_ended, held_failed}
use Rattle.table_entry.proofs.Tests.{failed, passed}
use Rattle.table_entry.specs.Fits.{pattern_ok}
use borrow.Author.Rules.{rules}
use Rattle.tables.proofs.patterns_ok.Goals as goal

pub loop-k-init : goal.loop-k-init
loop-k-init c = held_begun

pub returns-then-not-pattern_ok : goal.returns-then-not-pattern_ok
returns-then-not-pattern_ok c = sym (held_failed _ _ c.loop-k.k (search rules) (failed c.pattern_ok.ensures c.if-not-pattern_ok.true))

pub loop-k-preserved : goal.loop-k-preserved
loop-k-preserved c = held_turned c.loop-k.invariant (search rules) (passed c.pattern_ok.ensures c.if-not-pattern_ok.false)

pub returns : goal.returns
returns c = sym (held_ended c.loop-k.invariant c.loop-k-test.false refl)
