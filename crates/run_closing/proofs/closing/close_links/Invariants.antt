use Rattle.model.proofs.Loops.{Ran}
use Rattle.run_closing.specs.Closing.{group_closed}
use Rattle.run_closing.proofs.closing.close_links.Given as goal

abbrev pub invariant-loop-k : goal.invariant-loop-k
invariant-loop-k l =
    Ran l.t.at.count (group_closed l.t.at.nodes l.t.numbers l.t.overflows l.g.begins l.g.middles l.g.links l.heads l.flows) l.initial.statuses l.k l.statuses
