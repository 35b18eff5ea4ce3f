-- `state::start::start_from` meets its contract. Assumes nothing.
use mathlib.Core.Path.{refl}
use borrow.Author.Rules.{rules}
use Rattle.model.proofs.Loops.{begun, turned, ended}
use Rattle.state.specs.Starting.{nodes_started, links_started}
use Rattle.state.proofs.start.start_from.Goals as goal

pub loop-i-init : goal.loop-i-init
loop-i-init c = begun

pub loop-i-preserved : goal.loop-i-preserved
loop-i-preserved c = turned c.loop-i.invariant (search rules) (rw c.start_node.ensures)

pub loop-j-init : goal.loop-j-init
loop-j-init c = begun

pub loop-j-preserved : goal.loop-j-preserved
loop-j-preserved c = turned c.loop-j.invariant (search rules) (rw c.start_link.ensures)

pub returns : goal.returns
unfolding nodes_started links_started
returns c = rw (ended c.loop-j.invariant c.loop-j-test.false refl, ended c.loop-i.invariant c.loop-i-test.false refl, c.blank-s.ensures) refl
