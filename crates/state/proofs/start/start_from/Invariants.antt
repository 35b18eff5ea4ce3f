use Rattle.model.proofs.Loops.{Ran}
use Rattle.state.specs.Starting.{node_started_in, link_started_in}
use Rattle.state.proofs.start.start_from.Given as goal

abbrev pub invariant-loop-i : goal.invariant-loop-i
invariant-loop-i l = Ran l.fn.n (node_started_in l.fn.nodes) l.initial.s l.i l.s

abbrev pub invariant-loop-j : goal.invariant-loop-j
invariant-loop-j l = Ran l.fn.m (link_started_in l.fn.links) l.initial.s l.j l.s
