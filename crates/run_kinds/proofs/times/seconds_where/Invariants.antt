use Rattle.run_kinds.proofs.Listing.{Listing}
use Rattle.run_kinds.proofs.times.seconds_where.Given as goal

abbrev pub invariant-loop-i : goal.invariant-loop-i
invariant-loop-i g l = Listing g.of l.fn.controls l.i l.seconds l.count
