use Rattle.run_kinds.specs.Calls.{clock_of}
use Rattle.run_kinds.proofs.times.clock_calls.Given as goal

abbrev pub ghost-seconds_where : goal.ghost-seconds_where
ghost-seconds_where a = clock_of
