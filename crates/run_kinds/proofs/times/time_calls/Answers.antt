-- `run_kinds::times::time_calls` meets its contract. Assumes nothing.
use Rattle.run_kinds.proofs.Listing.{times_are}
use Rattle.run_kinds.proofs.times.time_calls.Goals as goal

pub returns : goal.returns
returns c = rw (← times_are _) c.seconds_where.ensures
