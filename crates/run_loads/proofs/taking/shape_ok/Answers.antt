-- `run_loads::taking::shape_ok` meets its contract. Assumes nothing.
use Rattle.run_loads.specs.Values.{shape_ok}
use Rattle.run_loads.proofs.taking.shape_ok.Goals as goal

pub returns : goal.returns
unfolding shape_ok
returns c = rw c.word-header.ensures
