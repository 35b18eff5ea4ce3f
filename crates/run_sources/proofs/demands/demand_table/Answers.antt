-- `run_sources::demands::demand_table` meets its contract. The invariants: the counts, bases and places of the nodes passed are stored, and of the
-- demands passed of this one. Assumes nothing.
use mathlib.Core.Path.{ap}
use native.Mathlib.Omega.{arith}
use Rattle.model.specs.declared.node.Demand.{Demand}
use Rattle.run_state.proofs.Filled.{fill}
use Rattle.run_sources.proofs.Laying.{entry_there, place_there, far, demands_laid}
use Rattle.run_sources.proofs.demands.demand_table.Goals as goal

pub loop-j-preserved : goal.loop-j-preserved
loop-j-preserved c =
    let h = c.loop-j.invariant in
    let e = entry_there c.args.nodes.now c.loop-i.i c.loop-j.j c.four_of-many.ensures.entries c.demands_of.ensures c.loop-j-test.true in
    record {
      bases = far (fill h.bases (omega (arith, c.requires)) (ap (λ (d : Demand). d.base) e)) (omega arith);
      places = far (fill h.places (omega (arith, c.requires)) (place_there c.args.default c.place_of.ensures c.or.ensures e)) (omega arith);
    }

pub returns-clause-laid : goal.returns-clause-laid
returns-clause-laid c = let h = c.loop-i.invariant in demands_laid h.counts h.bases h.places c.loop-i-test.false
