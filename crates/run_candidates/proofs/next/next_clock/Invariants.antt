use Rattle.clock.specs.Steps.{clock_candidate}
use Rattle.run_candidates.proofs.next.next_clock.Given as goal

abbrev pub ghost-smallest : goal.ghost-smallest
ghost-smallest a = λ at. clock_candidate at a.candidate.0.now
