use Rattle.run_kinds.specs.Calls.{time_of}
use Rattle.run_kinds.proofs.times.time_calls.Given as goal

abbrev pub ghost-seconds_where : goal.ghost-seconds_where
ghost-seconds_where a = time_of
