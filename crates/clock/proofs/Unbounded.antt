-- A hydraulic timestep as long as the duration ends no step: each is as long as it is without one. What carries it: where the smallest of a list is cut
-- off at n, a member that is not below n can as well be left out. Assumes nothing.
use Prim.Native.Nat.{ℕ, ◌-◌, ◌≤◌, min}
use mathlib.Core.Path.{◌≡◌, refl, sym, ap, ◌∙◌}
use mathlib.Core.Bool.{Bool, true, false, cond}
use mathlib.Core.List.{List}
use native.Mathlib.Omega.{arith}
use Rattle.number.specs.Constants.{MAX}
use Rattle.clock.specs.declared.length.Times.{Times}
use Rattle.clock.specs.Steps.{smaller_positive, smallest_positive, to_next, calculate_time_step, step_length}
use Rattle.clock.specs.Triggers.{Trigger, Moment, candidate, control_time, length_at}
use Rattle.clock.proofs.Tests.{lt_cases, eqb_ind}
use Rattle.clock.proofs.Lengths.{calculate_fast, calculate_slow, step_is, step_past}

-- the same options with another hydraulic timestep
abbrev pub with_hydraulic : Times → ℕ → Times
with_hydraulic o hydraulic =
    record { duration = o.duration; hydraulic = hydraulic; report = o.report; pattern = o.pattern; start_clock = o.start_clock; fast = o.fast }

left_out : (h x n : ℕ) → n ≤ h → min (smaller_positive h x) n ≡ min x n
left_out h x n l = eqb_ind (λ b. min (cond b x (min h x)) n ≡ min x n) h 0 (λ e. refl) (λ e. omega (arith, l))

min_last : (a x n : ℕ) → min (min a x) n ≡ min a (min x n)
min_last a x n = omega arith

with_one_more : (a x y n : ℕ) → min x n ≡ min y n → min (smaller_positive a x) n ≡ min (smaller_positive a y) n
with_one_more a x y n e =
    eqb_ind (λ b. min (cond b x (min a x)) n ≡ min (cond b y (min a y)) n) a 0
    (λ z. e)
    (λ z. min_last a x n ∙ (ap (min a) e ∙ sym (min_last a y n)))

module _ (o : Times) (tanks controls time : ℕ) (long : o.duration ≤ o.hydraulic) where
  abbrev remainder : ℕ
  remainder = o.duration - time

  calculate_unbounded : min (calculate_time_step o tanks controls time) remainder ≡ min (calculate_time_step (with_hydraulic o 0) tanks controls time) remainder
  unfolding smallest_positive
  calculate_unbounded = go o.fast refl
    where
      go : (b : Bool) → o.fast ≡ b → min (calculate_time_step o tanks controls time) remainder ≡ min (calculate_time_step (with_hydraulic o 0) tanks controls time) remainder
      go true f = rw (calculate_fast o tanks controls time f, calculate_fast (with_hydraulic o 0) tanks controls time f) refl
      go false f =
          rw (calculate_slow o tanks controls time f, calculate_slow (with_hydraulic o 0) tanks controls time f)
          (with_one_more (to_next o.report time) _ _ remainder
          (with_one_more (to_next o.pattern time) _ _ remainder
          (with_one_more tanks _ _ remainder
          (with_one_more controls _ _ remainder
          (left_out o.hydraulic MAX remainder (omega (arith, long)))))))

  step_unbounded : step_length o tanks controls time ≡ step_length (with_hydraulic o 0) tanks controls time
  step_unbounded =
      lt_cases time o.duration
      (λ l. step_is o tanks controls time l ∙ (calculate_unbounded ∙ sym (step_is (with_hydraulic o 0) tanks controls time l)))
      (λ l. step_past o tanks controls time l ∙ sym (step_past (with_hydraulic o 0) tanks controls time l))

pub length_unbounded : {L : Type 0} (o : Times) (ts : List (Trigger L)) (m : Moment L) (time : ℕ) → o.duration ≤ o.hydraulic
    → length_at o ts m time ≡ length_at (with_hydraulic o 0) ts m time
unfolding length_at control_time candidate
length_unbounded o ts m time long = step_unbounded o m.tank (control_time o ts m time) time long
