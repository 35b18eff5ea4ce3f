-- The next stop that is answered beforehand is where the step ends: on every state in order of a project whose stops are foreseen, not only on those that
-- a run comes to. Assumes nothing.
use Prim.Native.Nat.{◌≤◌, ◌<◌}
use mathlib.Core.Path.{◌≡◌, refl}
use mathlib.Core.Bool.{true}
use Rattle.std.specs.Prelude.{Ok, Some, None}
use Rattle.stops.proofs.Lists.{above_first, above_none}
use Rattle.model.specs.declared.project.Project.{Project}
use Rattle.model.specs.declared.state.State.{State}
use Rattle.tables.proofs.Fits.{tables_fit}
use Rattle.judge.specs.Judgement.{in_order}
use Rattle.simulation.specs.Steps.{times_of, triggers_of, moment_of}
use Rattle.simulation.proofs.Accepted.{accepted_times}
use Rattle.calls.specs.Calls.{step}
use Rattle.calls_sound.proofs.Theorem.{tables_of}
use Rattle.second_clock.proofs.Tankless.{tankless}
use Rattle.stops_ahead.specs.Foreseen.{stops_foreseen, stops_of, next_stop}
use Rattle.stops_ahead.proofs.Tables.{foreseen_tankless, foreseen_frequent}
use Rattle.list_words.specs.Calls as asking
use Rattle.demand3.specs.Calls.{outcome}
use Rattle.demand3.proofs.Lawful.{lawful}

module _ (p : Project) (f : stops_foreseen p ≡ true) (s : State) (e : in_order p s ≡ true) where
  pub next_is_step : s.clock.instant < p.options.duration → next_stop p s.clock.instant ≡ Ok (Some (step p s).state.clock.instant)
  unfolding next_stop stops_of times_of outcome
  next_is_step l =
      let o = times_of p in
      let fit = tables_fit p (tables_of p s e) in
      let k = (lawful p).step asking.step s e refl in
      let first = above_first o (triggers_of p) (accepted_times p fit) (foreseen_frequent p f) (moment_of p s) (tankless p (foreseen_tankless p f) fit s) s.clock.instant (step p s).length k.length l in
      rw (tables_of p s e, f, first, k.instant)

  -- and where the step answers 0 there is no more
  pub none_at_the_end : p.options.duration ≤ s.clock.instant → next_stop p s.clock.instant ≡ Ok None
  unfolding next_stop stops_of times_of
  none_at_the_end l = rw (tables_of p s e, f, above_none (times_of p) (triggers_of p) s.clock.instant l)
