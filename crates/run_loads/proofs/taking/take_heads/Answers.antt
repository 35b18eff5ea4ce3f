-- `run_loads::taking::take_heads` meets its contract. Assumes nothing.
use mathlib.Core.Path.{refl}
use borrow.Author.Rules.{rules}
use Rattle.model.proofs.Loops.{begun, turned, ended}
use Rattle.run_loads.specs.Taking.{heads_taken}
use Rattle.run_loads.proofs.taking.take_heads.Goals as goal

pub loop-r-init : goal.loop-r-init
loop-r-init c = begun

pub loop-r-preserved : goal.loop-r-preserved
loop-r-preserved c = turned c.loop-r.invariant (search rules) (rw c.number.ensures)

pub returns : goal.returns
unfolding heads_taken
returns c = ended c.loop-r.invariant c.loop-r-test.false refl
