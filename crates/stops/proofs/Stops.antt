-- Off the fast path a step passes no instant that is a stop, and without tanks it ends at one or is as long as the hydraulic timestep. What carries
-- it: a step's length is the remainder or a candidate, and at most every candidate that is not 0 (clock/proofs/Lengths.antt). Assumes nothing.
use Prim.Native.Nat.{ℕ, suc, ◌+◌, ◌*◌, ◌-◌, ◌/◌, ◌%◌, ◌≤◌, ◌<◌}
use mathlib.Core.Path.{◌≡◌, refl, ap, ◌∙◌}
use mathlib.Core.Logic.{◌⊎◌, inl, inr}
use mathlib.Core.Bool.{Bool, true, false, ◌||◌}
use mathlib.Core.List.{List, [], ◌∷◌, map}
use native.Mathlib.Omega.{arith}
use native.Mathlib.Nat.{mod-lt, div-add-mod', div-lt_iff_lt-mul, mul-le-mul_right, mul-mod_left}
use lib.Dec.{eqb}
use borrow.Author.Tests.{eq-eqb, ne_eqb}
use Rattle.number.specs.Constants.{MAX}
use Rattle.clock.specs.Lawful.{Accepted, ClockInDay, Each}
use Rattle.clock.specs.Steps.{DAY, clock_time, to_next}
use Rattle.clock.specs.Triggers.{Trigger, at_time, at_clock, at_level, untimed, Moment, candidate, length_at}
use Rattle.clock.specs.declared.length.Times.{Times}
use Rattle.clock.proofs.Lengths.{time_past, time_later, clock_tomorrow, clock_today, candidates, length_positive, length_within, length_le, length_report, length_pattern, length_member}
use Rattle.clock.proofs.Smallest.{Member}
use Rattle.clock.proofs.Tests.{lt_cases}
use Rattle.stops.specs.Stops.{calls_at, called_at, stops_at}
use Rattle.stops.specs.Tankless.{NoLevelTime, NoTankTime}

-- ---- one of two
pub or_left : (a b : Bool) → a ≡ true → (a || b) ≡ true
or_left a b e = rw e

pub or_right : (a b : Bool) → b ≡ true → (a || b) ≡ true
or_right true b e = refl
or_right false b e = e

pub or_none : (a b : Bool) → a ≡ false → b ≡ false → (a || b) ≡ false
or_none a b e f = rw (e, f)

-- ---- multiples: none lies before the next, and that is one
not_passed : (k t n u : ℕ) → 0 < k → n ≤ to_next k t → t < u → u < t + n → u % k ≡ 0 → ⊥
not_passed k t n u p l a b e =
    let q : suc (t / k) ≤ u / k = (div-lt_iff_lt-mul p).1 (omega (arith, div-add-mod' u k)) in
    omega (arith, mul-le-mul_right k q, div-add-mod' t k, div-add-mod' u k, mod-lt t p)

met : (k t n : ℕ) → 0 < k → n ≡ to_next k t → (t + n) % k ≡ 0
met k t n p e =
    let a : t + n ≡ suc (t / k) * k = omega (arith, div-add-mod' t k, mod-lt t p) in
    ap (λ (x : ℕ). x % k) a ∙ mul-mod_left (suc (t / k)) k

-- ---- controls: one whose candidate the step is as long as calls at its end
module _ {L : Type 0} (o : Times) (m : Moment L) (t n : ℕ) (p : 0 < n) (short : t + n < MAX) where
  called : (c : Trigger L) → ClockInDay c → NoLevelTime m c → n ≡ candidate o m t c → calls_at o (t + n) c ≡ true
  unfolding candidate
  called (at_time s) d v e =
      lt_cases s t
      (λ l. absurd (omega (arith, time_past s t l)))
      (λ l. eq-eqb (t + n) s (omega (arith, time_later s t l)))
  called (at_clock s) d v e =
      lt_cases s (clock_time o.start_clock t)
      (λ l. eq-eqb (clock_time o.start_clock (t + n)) s (omega (arith, clock_tomorrow s _ l)))
      (λ l. eq-eqb (clock_time o.start_clock (t + n)) s (omega (arith, clock_today s _ l)))
  called (at_level l) d v e = absurd (omega arith)
  called untimed d v e = absurd (omega arith)

  any_called : (ts : List (Trigger L)) → Each ClockInDay ts → Each (NoLevelTime m) ts → Member n (map (candidate o m t) ts) → called_at o ts (t + n) ≡ true
  unfolding called_at
  any_called [] d v h = absurd h
  any_called (c ∷ ts) d v (inl e) = or_left (calls_at o (t + n) c) (called_at o ts (t + n)) (called c d.0 v.0 e)
  any_called (c ∷ ts) d v (inr h) = or_right (calls_at o (t + n) c) (called_at o ts (t + n)) (any_called ts d.1 v.1 h)

-- and in a step of at most a day, no longer than any candidate that is not 0, none calls before its end
module _ {L : Type 0} (o : Times) (m : Moment L) (t n u : ℕ) (day : n ≤ DAY) (a : t < u) (b : u < t + n) where
  not_called : (c : Trigger L) → ClockInDay c → (0 < candidate o m t c → n ≤ candidate o m t c) → calls_at o u c ≡ false
  unfolding candidate
  not_called (at_time s) d q =
      ne_eqb u s
      (λ e. lt_cases s t (λ l. omega arith) (λ l. omega (arith, time_later s t l, q (omega (arith, time_later s t l)))))
  not_called (at_clock s) d q =
      let now : ℕ = clock_time o.start_clock t in
      ne_eqb (clock_time o.start_clock u) s
      (λ e.
      lt_cases s now
      (λ l. omega (arith, clock_tomorrow s now l, q (omega (arith, clock_tomorrow s now l))))
      (λ l. lt_cases now s (λ k. omega (arith, clock_today s now l, q (omega (arith, clock_today s now l)))) (λ k. omega arith)))
  not_called (at_level l) d q = refl
  not_called untimed d q = refl

  none_called : (ts : List (Trigger L)) → Each ClockInDay ts → ((x : ℕ) → 0 < x → Member x (map (candidate o m t) ts) → n ≤ x) → called_at o ts u ≡ false
  unfolding called_at
  none_called [] d q = refl
  none_called (c ∷ ts) d q =
      or_none (calls_at o u c) (called_at o ts u)
      (not_called c d.0 (λ z. q (candidate o m t c) z (inl refl)))
      (none_called ts d.1 (λ x z h. q x z (inr h)))

-- ---- one step
module _ {L : Type 0} (o : Times) (ts : List (Trigger L)) (ok : Accepted o ts) (slow : o.fast ≡ false) (m : Moment L) (t n : ℕ) (e : n ≡ length_at o ts m t) where
  to_report : n ≤ to_next o.report t
  to_report = omega (arith, length_report o ts m t ok slow)

  to_pattern : n ≤ to_next o.pattern t
  to_pattern = omega (arith, length_pattern o ts m t ok slow)

  pub to_hydraulic : 0 < o.hydraulic → n ≤ o.hydraulic
  unfolding candidates
  to_hydraulic p = omega (arith, length_le o ts m t slow p (inr (inr (inr (inl refl)))))

  pub in_a_day : (o.report ≤ DAY) ⊎ (o.pattern ≤ DAY) → n ≤ DAY
  in_a_day (inl d) = omega (arith, to_report)
  in_a_day (inr d) = omega (arith, to_pattern)

  -- no stop is passed
  pub misses : n ≤ DAY → t ≤ o.duration → (u : ℕ) → t < u → u < t + n → stops_at o ts u ≡ false
  unfolding stops_at candidates
  misses d l u a b =
      or_none (eqb (u % o.report) 0) _ (ne_eqb (u % o.report) 0 (not_passed o.report t n u ok.report to_report a b))
      (or_none (eqb (u % o.pattern) 0) _ (ne_eqb (u % o.pattern) 0 (not_passed o.pattern t n u ok.pattern to_pattern a b))
      (or_none (called_at o ts u) _
      (none_called o m t n u d a b ts ok.clocks (λ x z h. omega (arith, length_le o ts m t slow z (inr (inr (inr (inr h)))))))
      (ne_eqb u o.duration (λ z. omega (arith, length_within o ts m t l)))))

  at_report : n ≡ to_next o.report t → stops_at o ts (t + n) ≡ true
  unfolding stops_at
  at_report q = or_left (eqb ((t + n) % o.report) 0) _ (eq-eqb ((t + n) % o.report) 0 (met o.report t n ok.report q))

  at_pattern : n ≡ to_next o.pattern t → stops_at o ts (t + n) ≡ true
  unfolding stops_at
  at_pattern q =
      or_right (eqb ((t + n) % o.report) 0) _
      (or_left (eqb ((t + n) % o.pattern) 0) _ (eq-eqb ((t + n) % o.pattern) 0 (met o.pattern t n ok.pattern q)))

  -- without tanks it ends at a stop, or is as long as the hydraulic timestep
  pub hits : NoTankTime ts m → t < o.duration → (stops_at o ts (t + n) ≡ true) ⊎ (n ≡ o.hydraulic)
  unfolding stops_at candidates
  hits still l = by (length_member o ts m t ok slow l e)
    where
      p : 0 < n
      p = omega (arith, length_positive o ts m t ok l)

      short : t + n < MAX
      short = omega (arith, length_within o ts m t (omega arith), ok.duration)

      past : (called_at o ts (t + n) || eqb (t + n) o.duration) ≡ true → stops_at o ts (t + n) ≡ true
      past q = or_right (eqb ((t + n) % o.report) 0) _ (or_right (eqb ((t + n) % o.pattern) 0) _ q)

      by : (n ≡ o.duration - t) ⊎ Member n (candidates o ts m t) → (stops_at o ts (t + n) ≡ true) ⊎ (n ≡ o.hydraulic)
      by (inl q) = inl (past (or_right (called_at o ts (t + n)) _ (eq-eqb (t + n) o.duration (omega arith))))
      by (inr (inl q)) = inl (at_report q)
      by (inr (inr (inl q))) = inl (at_pattern q)
      by (inr (inr (inr (inl q)))) = absurd (omega (arith, still.tank, short))
      by (inr (inr (inr (inr (inl q))))) = inr q
      by (inr (inr (inr (inr (inr h))))) =
          inl (past (or_left (called_at o ts (t + n)) _ (any_called o m t n p short ts ok.clocks still.level h)))

  -- and so at a stop, where the hydraulic timestep is at least the report's or the pattern's
  pub hits_stop : (o.report ≤ o.hydraulic) ⊎ (o.pattern ≤ o.hydraulic) → NoTankTime ts m → t < o.duration → stops_at o ts (t + n) ≡ true
  hits_stop hydraulic still l = by hydraulic (hits still l)
    where
      by : (o.report ≤ o.hydraulic) ⊎ (o.pattern ≤ o.hydraulic) → (stops_at o ts (t + n) ≡ true) ⊎ (n ≡ o.hydraulic) → stops_at o ts (t + n) ≡ true
      by h (inl q) = q
      by (inl y) (inr q) = at_report (omega (arith, to_report))
      by (inr y) (inr q) = at_pattern (omega (arith, to_pattern))
