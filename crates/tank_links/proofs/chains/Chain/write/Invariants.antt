use Prim.Native.Nat.{◌-◌}
use lib.ListN.{get_or}
use Rattle.tank_links.proofs.Putting.{Putting}
use Rattle.tank_links.proofs.chains.Chain.write.Given as goal

abbrev pub invariant-loop-l : goal.invariant-loop-l
invariant-loop-l l = Putting l.self.next l.initial.links (get_or l.self.first l.j 0) l.at l.l l.place l.links

abbrev pub decreases-loop-l : goal.decreases-loop-l
decreases-loop-l l = 384 - l.l
