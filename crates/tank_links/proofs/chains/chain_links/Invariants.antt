use Rattle.tank_links.specs.Laid.{end_in, start_in}
use Rattle.tank_links.proofs.Linked.{Chained}
use Rattle.tank_links.proofs.chains.chain_links.Given as goal

abbrev pub invariant-loop-i : goal.invariant-loop-i
invariant-loop-i l = record {
  into : Chained (end_in l.table) l.n l.i l.into.first l.into.next;
  out : Chained (start_in l.table) l.n l.i l.out.first l.out.next;
}
