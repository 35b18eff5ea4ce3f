-- `run_patterns::filling::copy_demands` meets its contract. Assumes nothing.
use native.Mathlib.Omega.{arith}
use Rattle.run_patterns.proofs.Copied.{copied_is}
use Rattle.run_patterns.proofs.filling.copy_demands.Goals as goal

pub returns : goal.returns
returns c = rw c.copy_from_slice.ensures.after (copied_is c.args.n c.args.demands.now c.args.demand_flows.now (omega arith) (omega arith))
