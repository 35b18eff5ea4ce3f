use Rattle.model.proofs.Loops.{Ran}
use Rattle.run_loads.specs.Taking.{flow_taken}
use Rattle.run_loads.proofs.taking.take_flows.Given as goal

abbrev pub invariant-loop-i : goal.invariant-loop-i
invariant-loop-i l = Ran l.n (flow_taken l.words) l.initial.flows l.i l.flows
