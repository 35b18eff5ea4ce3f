use Rattle.clock.specs.Steps.{time_candidate}
use Rattle.run_candidates.proofs.next.next_time.Given as goal

abbrev pub ghost-smallest : goal.ghost-smallest
ghost-smallest a = λ at. time_candidate at a.candidate.0.now
