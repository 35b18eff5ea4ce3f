-- `run_loads::taking::take_flows` meets its contract. Assumes nothing.
use mathlib.Core.Path.{refl}
use borrow.Author.Rules.{rules}
use Rattle.model.proofs.Loops.{begun, turned, ended}
use Rattle.run_loads.specs.Taking.{flows_taken}
use Rattle.run_loads.proofs.taking.take_flows.Goals as goal

pub loop-i-init : goal.loop-i-init
loop-i-init c = begun

pub loop-i-preserved : goal.loop-i-preserved
loop-i-preserved c = turned c.loop-i.invariant (search rules) (rw c.number.ensures)

pub returns : goal.returns
unfolding flows_taken
returns c = ended c.loop-i.invariant c.loop-i-test.false refl
