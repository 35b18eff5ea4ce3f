-- `run_closing::closing::close_links` meets its contract. Assumes nothing.
use mathlib.Core.Path.{refl}
use borrow.Author.Rules.{rules}
use Rattle.model.proofs.Loops.{begun, turned, ended}
use Rattle.run_closing.specs.Closing.{links_closed}
use Rattle.run_closing.proofs.Parts.{part_inside, part_is}
use Rattle.run_closing.proofs.closing.close_links.Goals as goal

pub loop-k-init : goal.loop-k-init
loop-k-init c = begun

pub close_part-requires : goal.close_part-requires
close_part-requires c = part_inside (c.requires c.loop-k.k c.loop-k-test.true).into

pub close_part-requires-in-loop-k : goal.close_part-requires-in-loop-k
close_part-requires-in-loop-k c = part_inside (c.requires c.loop-k.k c.loop-k-test.true).out

pub loop-k-preserved : goal.loop-k-preserved
loop-k-preserved c =
    let g = c.requires c.loop-k.k c.loop-k-test.true in
    let flows = c.args.flows.now in
    let full = c.fill_closed-full.result in
    let empty = c.empty_closed-empty.result in
    turned c.loop-k.invariant (search rules)
    (rw (
      c.close_part-in-loop-k.ensures,
      part_is g.out (search rules) flows empty full c.close_part.new.statuses,
      c.close_part.ensures,
      part_is g.into (search rules) flows full empty c.loop-k.statuses,
      c.empty_closed-empty.ensures,
      c.fill_closed-full.ensures,
      c.tank-tank.ensures,
    ))

pub returns : goal.returns
unfolding links_closed
returns c = ended c.loop-k.invariant c.loop-k-test.false refl
