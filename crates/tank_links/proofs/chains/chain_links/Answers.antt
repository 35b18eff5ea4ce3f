-- `tank_links::chains::chain_links` meets its contract. The invariant: the links from i on are chained. Assumes nothing.
use Prim.Native.Nat.{◌-◌, ◌<◌}
use mathlib.Core.Path.{◌≡◌, subst}
use native.Mathlib.Omega.{arith}
use Rattle.tank_links.specs.Laid.{end_in, start_in}
use Rattle.tank_links.proofs.Linked.{Chained, chained_none, chained_put, chained_all}
use Rattle.tank_links.proofs.chains.chain_links.Goals as goal

pub loop-i-init : goal.loop-i-init
loop-i-init c = record { into = chained_none c.empty-into.ensures.first c.empty-into.ensures.next; out = chained_none c.empty-out.ensures.first c.empty-out.ensures.next }

pub loop-i-preserved : goal.loop-i-preserved
loop-i-preserved c =
    let i = c.loop-i.invariant in
    let low : c.loop-i.i - 1 < c.args.n = omega (arith, i.into.most, c.loop-i-test.true) in
    record {
      into = rw (c.put.ensures.first, c.put.ensures.next) (chained_put i.into c.loop-i-test.true c.requires.most (c.requires.end _ low));
      out = rw (c.put-in-loop-i.ensures.first, c.put-in-loop-i.ensures.next) (chained_put i.out c.loop-i-test.true c.requires.most (c.requires.start _ low));
    }

pub returns : goal.returns
returns c =
    let z : c.loop-i.i ≡ 0 = omega (arith, c.loop-i-test.false) in
    let i = c.loop-i.invariant in
    record {
      into = chained_all (subst (λ k. Chained (end_in c.args.table.now) c.args.n k c.loop-i.into.first c.loop-i.into.next) z i.into) c.requires.most;
      out = chained_all (subst (λ k. Chained (start_in c.args.table.now) c.args.n k c.loop-i.out.first c.loop-i.out.next) z i.out) c.requires.most;
    }
