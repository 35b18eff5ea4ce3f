-- `run_closing::closing::close_part` meets its contract. Assumes nothing.
use mathlib.Core.Path.{refl}
use borrow.Author.Rules.{rules}
use Rattle.model.proofs.Loops.{begun, turned, ended}
use Rattle.run_closing.proofs.closing.close_part.Goals as goal

pub loop-link-init : goal.loop-link-init
loop-link-init c = begun

pub loop-link-preserved : goal.loop-link-preserved
loop-link-preserved c = turned c.loop-link.invariant (search rules) (rw c.marked.ensures)

pub returns : goal.returns
returns c = ended c.loop-link.invariant c.loop-link-test.false refl
