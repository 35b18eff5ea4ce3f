-- "from any accepted state it answers and leaves what the driver's step does": where the second clock applies, its call is the step's. What carries it:
-- the walk's seconds are the step's length, and without tanks a step moves nothing but the clock. Assumes nothing.
use mathlib.Core.Path.{◌≡◌, refl}
use mathlib.Core.Bool.{Bool, true, false, cond, not, ◌&&◌, ◌||◌}
use mathlib.Core.Logic.{◌⊎◌, inl, inr}
use Prim.Native.Nat.{ℕ, ◌+◌, ◌≤◌}
use lib.Dec.{leb}
use borrow.Author.Tests.{leb-true, not-true}
use Rattle.clock.proofs.Tests.{eqb_ind}
use Rattle.clock.specs.Steps.{DAY, advanced}
use Rattle.stops.specs.Tankless.{Daily}
use Rattle.stops.proofs.Walk.{walk_is}
use Rattle.model.specs.declared.project.Project.{Project}
use Rattle.model.specs.declared.state.State.{State}
use Rattle.model.proofs.Loops.{both_left, both_right}
use Rattle.tables.specs.Fit.{TablesFit}
use Rattle.tables.proofs.Fits.{tables_fit}
use Rattle.judge.specs.Fit.{StateFit}
use Rattle.judge.specs.Judgement.{in_order}
use Rattle.state.specs.Tanks.{update_tanks}
use Rattle.simulation.specs.Steps.{no_tanks, times_of, triggers_of, moment_of, length_of, moved_by, next_hydraulic_timestep}
use Rattle.simulation.proofs.Accepted.{accepted_times}
use Rattle.simulation.proofs.Hydraulic.{in_force_positive}
use Rattle.calls.specs.Calls.{step}
use Rattle.calls_sound.proofs.Step.{step_within, step_moves}
use Rattle.calls_sound.proofs.Theorem.{tables_of, state_of}
use Rattle.second_clock.specs.SecondClock.{daily, second_applies, second_length, moved_on, second}
use Rattle.second_clock.proofs.Tankless.{tankless, tanks_idle}

-- ---- where it applies
one_daily : (r q h : ℕ) → (leb r DAY || (leb q DAY || leb h DAY)) ≡ true → (r ≤ DAY) ⊎ (q ≤ DAY) ⊎ (h ≤ DAY)
one_daily r q h e = go (leb r DAY) (leb q DAY) refl refl e
  where
    go : (a b : Bool) → leb r DAY ≡ a → leb q DAY ≡ b → (a || (b || leb h DAY)) ≡ true → (r ≤ DAY) ⊎ (q ≤ DAY) ⊎ (h ≤ DAY)
    go true b x y z = inl (leb-true r DAY x)
    go false true x y z = inr (inl (leb-true q DAY y))
    go false false x y z = inr (inr (leb-true h DAY z))

module _ (p : Project) (applies : second_applies p ≡ true) where
  pub none : no_tanks p ≡ true
  unfolding second_applies
  none = both_left (no_tanks p) _ applies

  rest : (not (times_of p).fast && daily (times_of p)) ≡ true
  unfolding second_applies
  rest = both_right (no_tanks p) _ applies

  slow : (times_of p).fast ≡ false
  slow = not-true _ (both_left (not (times_of p).fast) _ rest)

  is_daily : Daily (times_of p)
  unfolding daily times_of
  is_daily = record {
    hydraulic = in_force_positive p;
    one = one_daily _ _ _ (both_right (not (times_of p).fast) _ rest);
  }

  -- ---- the length, and the state
  module _ {s : State} (t : TablesFit p) (o : StateFit p s) where
    pub second_length_lem : second_length p s ≡ length_of p s
    unfolding second_length length_of
    second_length_lem =
        walk_is (times_of p) (triggers_of p) s.clock.instant (accepted_times p t) slow is_daily (moment_of p s) (tankless p none t s)

    pub moved_same : moved_on s (length_of p s) ≡ moved_by p s (length_of p s)
    unfolding moved_on moved_by
    moved_same =
        eqb_ind
        (λ b.
        cond b s (record { nodes = s.nodes; links = s.links; clock = record { instant = s.clock.instant + length_of p s; count = s.clock.count + 1 } })
        ≡ cond b s (record { nodes = (update_tanks p s (length_of p s)).nodes; links = (update_tanks p s (length_of p s)).links; clock = advanced s.clock (length_of p s) }))
        (length_of p s) 0
        (λ e. refl)
        (λ n. rw (tanks_idle p none s (length_of p s), step_moves t o (length_of p s) n (step_within t o)))

  pub second_is_step : (s : State) → in_order p s ≡ true → second p s ≡ step p s
  unfolding second step next_hydraulic_timestep
  second_is_step s e =
      let t = tables_fit p (tables_of p s e) in
      let o = state_of p s e in
      rw (e, applies, second_length_lem t o, moved_same t o)
