use Rattle.tank_links.proofs.Laying.{Laying, on_chain}
use Rattle.tank_links.proofs.laid.lay_groups.Given as goal

abbrev pub invariant-loop-k : goal.invariant-loop-k
invariant-loop-k l =
    Laying (on_chain l.into.first l.into.next l.tanks.nodes) (on_chain l.out.first l.out.next l.tanks.nodes) l.tanks.count
    l.initial.groups.begins l.initial.groups.middles l.initial.groups.links l.k l.at l.groups.begins l.groups.middles l.groups.links
