-- What holds of every public call, of this one: it keeps a state in order, and gives the numbers that it may. Assumes nothing.
use mathlib.Core.Path.{◌≡◌, refl, ap, ◌∙◌}
use mathlib.Core.Bool.{Bool, true, false, cond}
use Rattle.model.specs.declared.project.Project.{Project}
use Rattle.model.specs.declared.state.State.{State}
use Rattle.judge.specs.Judgement.{in_order}
use Rattle.calls.specs.declared.StepCalled.{StepCalled}
use Rattle.calls_sound.proofs.Step.{step_in_order}
use Rattle.second_clock.specs.SecondClock.{second_applies, second_length, moved_on, refused_step, second}
use Rattle.second_clock.proofs.Same.{second_is_step}

-- refused, it has no length and leaves the state
pub second_refused : (p : Project) (s : State) → second_applies p ≡ false → ((second p s).length ≡ 0) × ((second p s).state ≡ s)
unfolding second
second_refused p s f = rw f (go (in_order p s))
  where
    go : (b : Bool) → ((cond b (refused_step 14 s) (refused_step 10 s)).length ≡ 0) × ((cond b (refused_step 14 s) (refused_step 10 s)).state ≡ s)
    go true = (refl, refl)
    go false = (refl, refl)

module _ (p : Project) (s : State) (e : in_order p s ≡ true) where
  -- "Refused: 14, .. after 10"
  pub second_number : (second p s).number ≡ cond (second_applies p) 0 14
  unfolding second
  second_number = rw e (go (second_applies p))
    where
      go : (b : Bool) → (cond b (record { number = 0; length = second_length p s; state = moved_on s (second_length p s) }) (refused_step 14 s)).number ≡ cond b 0 14
      go true = refl
      go false = refl

  pub second_in_order : in_order p (second p s).state ≡ true
  second_in_order = go (second_applies p) refl
    where
      go : (b : Bool) → second_applies p ≡ b → in_order p (second p s).state ≡ true
      go true a = ap (λ (c : StepCalled). in_order p c.state) (second_is_step p a s e) ∙ step_in_order p s e
      go false f = ap (in_order p) (second_refused p s f).1 ∙ e
