-- The length of a step is 0 exactly at or past the duration, and never passes it. On the fast path it is the report timestep or the
-- remainder, the smaller; off it the remainder or a candidate, and at most each candidate that is not 0. What carries it: the smallest of five,
-- of which one is the smallest of the controls', is the smallest of all in one list. Assumes nothing.
use Prim.Native.Nat.{ℕ, ◌+◌, ◌-◌, ◌≤◌, ◌<◌, min}
use mathlib.Core.Path.{◌≡◌, refl, ap, ◌∙◌}
use mathlib.Core.Logic.{◌⊎◌, inl, inr, ◌↔◌}
use mathlib.Core.Bool.{Bool, true, false, cond}
use mathlib.Core.List.{List, [], ◌∷◌, map}
use native.Mathlib.Omega.{arith}
use native.Mathlib.Nat.{mod-lt}
use borrow.Author.Tests.{lt-ltb, le-ltb, ne_eqb}
use Rattle.number.specs.Constants.{MAX}
use Rattle.clock.specs.declared.length.Times.{Times}
use Rattle.clock.specs.Steps.{DAY, time_candidate, clock_candidate, smaller_positive, smallest_positive, to_next, calculate_time_step, step_length}
use Rattle.clock.specs.Triggers.{Trigger, Moment, candidate, control_time, length_at}
use Rattle.clock.specs.Lawful.{Accepted}
use Rattle.clock.proofs.Tests.{lt_cases, eqb_ind}
use Rattle.clock.proofs.Smallest.{Member, smallest_positive_lem, smallest_max, smallest_le, smallest_member}

-- ---- a control's candidate
pub time_past : (seconds time : ℕ) → seconds < time → time_candidate seconds time ≡ MAX
unfolding time_candidate
time_past seconds time l = rw (lt-ltb seconds time l)

pub time_later : (seconds time : ℕ) → time ≤ seconds → time_candidate seconds time ≡ seconds - time
unfolding time_candidate
time_later seconds time l = rw (le-ltb seconds time l)

pub clock_tomorrow : (seconds clock : ℕ) → seconds < clock → clock_candidate seconds clock ≡ seconds + DAY - clock
unfolding clock_candidate
clock_tomorrow seconds clock l = rw (lt-ltb seconds clock l)

pub clock_today : (seconds clock : ℕ) → clock ≤ seconds → clock_candidate seconds clock ≡ seconds - clock
unfolding clock_candidate
clock_today seconds clock l = rw (le-ltb seconds clock l)

-- ---- the smallest of some, taken with one more
smallest_with : (h : ℕ) (xs : List ℕ) → smallest_positive (smallest_positive xs ∷ h ∷ []) ≡ smallest_positive (h ∷ xs)
unfolding smallest_positive
smallest_with h xs =
    rw (ne_eqb (smallest_positive xs) 0 (λ e. omega (arith, smallest_positive_lem xs)))
    (eqb_ind (λ b. min (smallest_positive xs) (cond b MAX (min h MAX)) ≡ cond b (smallest_positive xs) (min h (smallest_positive xs))) h 0
    (λ e. omega (arith, smallest_max xs)) (λ e. omega (arith, smallest_max xs)))

smallest_flat : (a b c h : ℕ) (xs : List ℕ) → smallest_positive (a ∷ b ∷ c ∷ smallest_positive xs ∷ h ∷ []) ≡ smallest_positive (a ∷ b ∷ c ∷ h ∷ xs)
unfolding smallest_positive
smallest_flat a b c h xs = ap (λ r. smaller_positive a (smaller_positive b (smaller_positive c r))) (smallest_with h xs)

-- ---- a step from the tanks' and the controls' candidates
module _ (o : Times) (tanks controls time : ℕ) where
  pub calculate_fast : o.fast ≡ true → calculate_time_step o tanks controls time ≡ o.report
  unfolding calculate_time_step
  calculate_fast f = rw f

  pub calculate_slow : o.fast ≡ false
      → calculate_time_step o tanks controls time ≡ smallest_positive (to_next o.report time ∷ to_next o.pattern time ∷ tanks ∷ controls ∷ o.hydraulic ∷ [])
  unfolding calculate_time_step
  calculate_slow f = rw f

  pub calculate_positive : 0 < o.report → 0 < calculate_time_step o tanks controls time
  calculate_positive p = go o.fast refl
    where
      go : (b : Bool) → o.fast ≡ b → 0 < calculate_time_step o tanks controls time
      go true f = rw (calculate_fast f) p
      go false f = rw (calculate_slow f) (smallest_positive_lem _)

  pub step_past : o.duration ≤ time → step_length o tanks controls time ≡ 0
  unfolding step_length
  step_past h = rw (le-ltb time o.duration h)

  pub step_is : time < o.duration → step_length o tanks controls time ≡ min (calculate_time_step o tanks controls time) (o.duration - time)
  unfolding step_length
  step_is h = rw (lt-ltb time o.duration h)

  pub step_positive : 0 < o.report → time < o.duration → 0 < step_length o tanks controls time
  step_positive p h = omega (arith, step_is h, calculate_positive p)

  pub step_zero : 0 < o.report → (o.duration ≤ time) ↔ (step_length o tanks controls time ≡ 0)
  step_zero p = (step_past, λ e. lt_cases time o.duration (λ l. absurd (omega (arith, step_positive p l))) (λ l. l))

  pub step_within : time ≤ o.duration → time + step_length o tanks controls time ≤ o.duration
  step_within h = lt_cases time o.duration (λ l. omega (arith, step_is l)) (λ l. omega (arith, step_past l))

  pub step_fast : o.fast ≡ true → step_length o tanks controls time ≡ min o.report (o.duration - time)
  step_fast f = lt_cases time o.duration (λ l. omega (arith, step_is l, calculate_fast f)) (λ l. omega (arith, step_past l))

-- ---- a step at a moment
-- all that calls for its end
unfoldable pub candidates : {L : Type 0} → Times → List (Trigger L) → Moment L → ℕ → List ℕ
candidates o ts m time =
    to_next o.report time ∷ to_next o.pattern time ∷ m.tank ∷ o.hydraulic ∷ map (candidate o m time) ts

module _ {L : Type 0} (o : Times) (ts : List (Trigger L)) (m : Moment L) (time : ℕ) where
  abbrev controls : ℕ
  controls = control_time o ts m time

  abbrev uncapped : ℕ
  uncapped = calculate_time_step o m.tank controls time

  uncapped_slow : o.fast ≡ false → uncapped ≡ smallest_positive (candidates o ts m time)
  unfolding control_time candidates
  uncapped_slow f =
      calculate_slow o m.tank controls time f
      ∙ smallest_flat (to_next o.report time) (to_next o.pattern time) m.tank o.hydraulic (map (candidate o m time) ts)

  pub length_is : time < o.duration → length_at o ts m time ≡ min uncapped (o.duration - time)
  unfolding length_at
  length_is = step_is o m.tank controls time

  pub length_past : o.duration ≤ time → length_at o ts m time ≡ 0
  unfolding length_at
  length_past = step_past o m.tank controls time

  pub length_within : time ≤ o.duration → time + length_at o ts m time ≤ o.duration
  unfolding length_at
  length_within = step_within o m.tank controls time

  pub length_fast : o.fast ≡ true → length_at o ts m time ≡ min o.report (o.duration - time)
  unfolding length_at
  length_fast = step_fast o m.tank controls time

  pub length_le : {n : ℕ} → o.fast ≡ false → 0 < n → Member n (candidates o ts m time) → length_at o ts m time ≤ n
  length_le f p h =
      lt_cases time o.duration
      (λ l. omega (arith, length_is l, uncapped_slow f, smallest_le (candidates o ts m time) p h))
      (λ l. omega (arith, length_past l))

  module _ (ok : Accepted o ts) where
    pub length_positive : time < o.duration → 0 < length_at o ts m time
    unfolding length_at
    length_positive = step_positive o m.tank controls time ok.report

    pub length_zero : (o.duration ≤ time) ↔ (length_at o ts m time ≡ 0)
    unfolding length_at
    length_zero = step_zero o m.tank controls time ok.report

    pub length_report : o.fast ≡ false → length_at o ts m time ≤ to_next o.report time
    unfolding candidates
    length_report f = length_le f (omega (arith, mod-lt time ok.report)) (inl refl)

    pub length_pattern : o.fast ≡ false → length_at o ts m time ≤ to_next o.pattern time
    unfolding candidates
    length_pattern f = length_le f (omega (arith, mod-lt time ok.pattern)) (inr (inl refl))

    pub length_member : {n : ℕ} → o.fast ≡ false → time < o.duration → n ≡ length_at o ts m time
        → (n ≡ o.duration - time) ⊎ Member n (candidates o ts m time)
    length_member {n} f l e =
        lt_cases uncapped (o.duration - time)
        (λ h. by (smallest_member (candidates o ts m time) (e ∙ (length_is l ∙ omega (arith, uncapped_slow f)))))
        (λ h. inl (omega (arith, length_is l)))
      where
        by : (n ≡ MAX) ⊎ Member n (candidates o ts m time) → (n ≡ o.duration - time) ⊎ Member n (candidates o ts m time)
        by (inl q) = absurd (omega (arith, length_is l))
        by (inr h) = inr h
