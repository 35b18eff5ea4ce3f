-- `run_sources::demands::no_demand` meets its contract. Assumes nothing.
use mathlib.Core.Path.{refl}
use lib.Ieee.{div, of_bits}
use Rattle.run_sources.proofs.demands.no_demand.Goals as goal

pub returns : goal.returns
unfolding div of_bits
returns c = refl
