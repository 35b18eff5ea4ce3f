-- The step, of the public call: on a state in order it is accepted and leads to a state in order. What carries it: the length never passes the
-- duration, so the clock moves by it. Assumes nothing.
use mathlib.Core.Path.{◌≡◌, refl, sym, ◌∙◌, subst}
use mathlib.Core.Bool.{Bool, true, false, cond}
use Prim.Native.Nat.{ℕ, ◌+◌, ◌≤◌, ◌<◌}
use native.Mathlib.Omega.{arith}
use borrow.Author.Tests.{eq-eqb, ne_eqb}
use Rattle.clock.proofs.Advanced.{advanced_moves}
use Rattle.clock.proofs.Lengths.{length_within}
use Rattle.clock.proofs.Tests.{eqb_ind}
use Rattle.clock.specs.Steps.{advanced}
use Rattle.clock.specs.declared.hand.Clock.{Clock}
use Rattle.model.specs.declared.project.Project.{Project}
use Rattle.model.specs.declared.state.State.{State}
use Rattle.tables.specs.Fit.{TablesFit}
use Rattle.judge.specs.Fit.{StateFit}
use Rattle.judge.specs.Judgement.{in_order}
use Rattle.state.specs.Tanks.{update_tanks}
use Rattle.simulation.specs.Steps.{times_of, triggers_of, moment_of, length_of, moved_by, next_hydraulic_timestep}
use Rattle.calls.specs.Calls.{step}
use Rattle.calls_sound.proofs.Kept.{tanks_kept}
use Rattle.calls_sound.proofs.Theorem.{kept}

module _ {p : Project} {s : State} (t : TablesFit p) (o : StateFit p s) where
  pub step_within : s.clock.instant + length_of p s ≤ p.options.duration
  unfolding length_of times_of
  step_within = length_within (times_of p) (triggers_of p) (moment_of p s) s.clock.instant o.instant

  -- the clock after a step that is not 0
  pub step_moves : (length : ℕ) → (length ≡ 0 → ⊥) → s.clock.instant + length ≤ p.options.duration
      → advanced s.clock length ≡ record { instant = s.clock.instant + length; count = s.clock.count + 1 }
  step_moves length n l =
      let d = t.options.duration in
      let k = o.count in
      advanced_moves s.clock length n (omega arith) (omega arith)

  moved_kept : (length : ℕ) → s.clock.instant + length ≤ p.options.duration → StateFit p (moved_by p s length)
  unfolding moved_by
  moved_kept length l =
      let d = t.options.duration in
      let k = o.count in
      let u = tanks_kept t length (omega arith) o in
      eqb_ind (λ b. StateFit p (cond b s (record { nodes = (update_tanks p s length).nodes; links = (update_tanks p s length).links; clock = advanced s.clock length }))) length 0
      (λ e. o)
      (λ n. rw (step_moves length n l) (record { instant = l; count = omega arith; node = u.node; link = u.link }))

module _ (p : Project) (s : State) (e : in_order p s ≡ true) where
  pub step_in_order : in_order p (step p s).state ≡ true
  unfolding step next_hydraulic_timestep
  step_in_order = rw e (kept p s _ e (λ t o. moved_kept t o (length_of p s) (step_within t o)))

  pub step_accepted : (step p s).number ≡ 0
  unfolding step
  step_accepted = rw e

  pub step_length_lem : (step p s).length ≡ length_of p s
  unfolding step next_hydraulic_timestep
  step_length_lem = rw e
