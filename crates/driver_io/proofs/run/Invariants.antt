use Rattle.driver_chunk.specs.Chunks.{RunOf}
use Rattle.driver_io.proofs.Running.{Running, left}
use Rattle.driver_io.proofs.run.Given as goal

abbrev pub invariant-loop-over : goal.invariant-loop-over
invariant-loop-over g l = RunOf l.t l.multipliers l.state × Running l.t l.initial.input l.initial.out l.input l.out l.held l.wants

abbrev pub decreases-loop-over : goal.decreases-loop-over
decreases-loop-over g l = left l.over l.t.options.duration l.state.clock.instant l.wants
