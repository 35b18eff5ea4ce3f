-- `premise::premise_truth_at` meets its contract. Assumes nothing.
use Prim.Native.Nat.{◌<◌}
use native.Mathlib.Omega.{arith}
use Rattle.premise.proofs.Looked.{node_inside, link_inside}
use Rattle.premise.specs.Premise.{premise_truth_at}
use Rattle.premise.proofs.premise_truth_at.Goals as goal

pub total_demand-requires : goal.total_demand-requires
total_demand-requires c = c.requires.tables_fit

pub offset_bounds-p-i : goal.offset_bounds-p-i
offset_bounds-p-i c = omega (arith, c.requires.tables_fit.few.premises)

pub bounds-p-i : goal.bounds-p-i
bounds-p-i c = omega (arith, c.requires.tables_fit.few.premises)

pub offset_bounds-p-n : goal.offset_bounds-p-n
offset_bounds-p-n c =
    let node_in : c.looked_node-n.result < 256 = rw c.looked_node-n.ensures (node_inside c.requires.tables_fit c.args.i c.requires.i_lt_premises) in
    omega (arith, node_in)

pub bounds-p-n : goal.bounds-p-n
bounds-p-n c =
    let node_in : c.looked_node-n.result < 256 = rw c.looked_node-n.ensures (node_inside c.requires.tables_fit c.args.i c.requires.i_lt_premises) in
    omega (arith, node_in)

pub offset_bounds-s-n : goal.offset_bounds-s-n
offset_bounds-s-n c =
    let node_in : c.looked_node-n.result < 256 = rw c.looked_node-n.ensures (node_inside c.requires.tables_fit c.args.i c.requires.i_lt_premises) in
    omega (arith, node_in)

pub bounds-s-n : goal.bounds-s-n
bounds-s-n c =
    let node_in : c.looked_node-n.result < 256 = rw c.looked_node-n.ensures (node_inside c.requires.tables_fit c.args.i c.requires.i_lt_premises) in
    omega (arith, node_in)

pub offset_bounds-s-l : goal.offset_bounds-s-l
offset_bounds-s-l c =
    let link_in_lem : c.looked_link-l.result < 384 = rw c.looked_link-l.ensures (link_inside c.requires.tables_fit c.args.i c.requires.i_lt_premises) in
    omega (arith, link_in_lem)

pub bounds-s-l : goal.bounds-s-l
bounds-s-l c =
    let link_in_lem : c.looked_link-l.result < 384 = rw c.looked_link-l.ensures (link_inside c.requires.tables_fit c.args.i c.requires.i_lt_premises) in
    omega (arith, link_in_lem)

pub returns : goal.returns
unfolding premise_truth_at
returns c = rw (← c.looked_node-n.ensures, ← c.looked_link-l.ensures, ← c.clock_time.ensures, ← c.total_demand.ensures) c.premise_truth.ensures
