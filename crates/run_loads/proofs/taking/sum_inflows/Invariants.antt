use Rattle.model.proofs.Loops.{Ran}
use Rattle.run_loads.specs.Taking.{flow_summed}
use Rattle.run_loads.proofs.taking.sum_inflows.Given as goal

abbrev pub invariant-loop-k : goal.invariant-loop-k
invariant-loop-k l = Ran l.n (flow_summed l.starts l.ends l.tanks l.flows) l.initial.demands l.k l.demands
