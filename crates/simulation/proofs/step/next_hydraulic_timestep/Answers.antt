-- `simulation::step::next_hydraulic_timestep` meets its contract. Assumes nothing.
use Rattle.clock.specs.Triggers.{length_at}
use Rattle.simulation.specs.Steps.{length_of, moment_of, next_hydraulic_timestep}
use Rattle.simulation.proofs.step.next_hydraulic_timestep.Goals as goal

pub returns : goal.returns
unfolding next_hydraulic_timestep length_of length_at moment_of
returns c =
    rw (c.moved_by.ensures, c.step_length-length.ensures, c.control_time.ensures, c.tank_time.ensures, c.times_of-times.ensures)
