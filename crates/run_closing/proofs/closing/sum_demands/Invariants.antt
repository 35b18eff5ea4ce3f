use Prim.Native.Nat.{◌+◌, ◌-◌}
use lib.Ieee.{nan}
use lib.ListN.{get_or, set}
use Rattle.model.proofs.Loops.{Ran}
use Rattle.number.specs.Operators.{◌⊕◌, ◌⊖◌}
use Rattle.run_closing.specs.Closing.{inflow_of}
use Rattle.run_closing.proofs.closing.sum_demands.Given as goal

abbrev pub invariant-loop-k : goal.invariant-loop-k
invariant-loop-k l = Ran l.tanks.count (λ k ds. set ds (get_or l.tanks.nodes k 0) (inflow_of l.g.begins l.g.middles l.g.links l.flows k)) l.initial.demands l.k l.demands

abbrev pub invariant-loop-into : goal.invariant-loop-into
invariant-loop-into l =
    Ran (l.middle - get_or l.g.begins l.k 0) (λ i x. x ⊕ get_or l.flows (get_or l.g.links (get_or l.g.begins l.k 0 + i) 0) nan) l.initial.sum l.into-index l.sum

abbrev pub invariant-loop-out : goal.invariant-loop-out
invariant-loop-out l =
    Ran (get_or l.g.begins (l.k + 1) 0 - l.middle) (λ i x. x ⊖ get_or l.flows (get_or l.g.links (l.middle + i) 0) nan) l.initial.sum l.out-index l.sum
