-- `run_tanks::emptying::empty_tanks` meets its contract. Assumes nothing.
use mathlib.Core.Path.{refl}
use borrow.Author.Rules.{rules}
use lib.Ieee.{of_bits}
use Rattle.model.proofs.Loops.{begun, turned, ended}
use Rattle.number.specs.Constants.{decimal}
use Rattle.run_tanks.specs.Emptying.{tanks_emptied}
use Rattle.run_tanks.proofs.emptying.empty_tanks.Goals as goal

pub loop-k-init : goal.loop-k-init
loop-k-init c = begun

pub loop-k-preserved : goal.loop-k-preserved
unfolding decimal of_bits
loop-k-preserved c = turned c.loop-k.invariant (search rules) refl

pub returns : goal.returns
unfolding tanks_emptied
returns c = ended c.loop-k.invariant c.loop-k-test.false refl
