-- `run_kinds::times::clock_calls` meets its contract. Assumes nothing.
use Rattle.run_kinds.proofs.Listing.{clocks_are}
use Rattle.run_kinds.proofs.times.clock_calls.Goals as goal

pub returns : goal.returns
returns c = rw (← clocks_are _) c.seconds_where.ensures
