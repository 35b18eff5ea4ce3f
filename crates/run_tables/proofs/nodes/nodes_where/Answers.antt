-- `run_tables::nodes::nodes_where` meets its contract. The invariant: those among the nodes passed are pushed. Assumes nothing.
use Prim.Native.Nat.{ℕ, ◌+◌}
use mathlib.Core.Path.{◌≡◌, ◌∙◌}
use native.Mathlib.Omega.{arith}
use borrow.Author.Rules.{rules}
use lib.ListN.{length-set}
use Rattle.run_tables.proofs.Inside.{inside}
use Rattle.run_tables.proofs.Pushing.{push, push_none, byte}
use Rattle.run_tables.proofs.nodes.nodes_where.Goals as goal

pub loop-i-init : goal.loop-i-init
loop-i-init g c = record { wide = search rules; pushed = push_none _ _ }

pub offset_bounds-nodes-count : goal.offset_bounds-nodes-count
offset_bounds-nodes-count g c = omega (arith, c.loop-i.invariant.pushed.few, c.requires.1)

pub bounds-nodes-count : goal.bounds-nodes-count
bounds-nodes-count g c = omega (arith, c.loop-i.invariant.pushed.few, c.requires.1)

pub loop-i-preserved : goal.loop-i-preserved
loop-i-preserved g c =
    let h = c.loop-i.invariant in
    record {
      wide = length-set c.loop-i.nodes c.loop-i.count c.loop-i.i ∙ h.wide;
      pushed = push h.pushed (omega (arith, h.wide, h.pushed.few, c.requires.1)) (rw (c.from-count.ensures, byte c.test.result, c.requires.1.1.1 _ _ c.test.ensures));
    }

pub invariant_of-result : goal.invariant_of-result
invariant_of-result g c =
    let q : c.loop-i.i ≡ c.args.n = omega (arith, c.loop-i.auto.i-end, c.loop-i-test.false) in
    record { inside = inside c.loop-i.invariant.pushed (omega (arith, c.requires.1)) }

pub returns : goal.returns
returns g c = let q : c.loop-i.i ≡ c.args.n = omega (arith, c.loop-i.auto.i-end, c.loop-i-test.false) in rw (← q) c.loop-i.invariant.pushed
