-- The bound on the count, by a potential: a number of the instant that no step lowers, and that each step which moves the clock raises, unless
-- the step is as long as its moment's tank time or a level control's. Assumes nothing.
use Prim.Native.Nat.{ℕ, zero, suc, ◌+◌, ◌*◌, ◌-◌, ◌/◌, ◌≤◌, ◌<◌}
use mathlib.Core.Path.{◌≡◌, refl, ap, ◌∙◌}
use mathlib.Core.Logic.{◌⊎◌, inl, inr}
use mathlib.Core.Bool.{Bool, true, false, cond, ◌||◌}
use mathlib.Core.List.{List, [], ◌∷◌, map}
use native.Mathlib.Omega.{arith}
use native.Mathlib.Nat.{mod-lt, div-zero, le-div_iff_mul-le, div-mul-le_self, div-add-mod'}
use lib.Dec.{leb, eqb}
use borrow.Author.Tests.{lt-ltb, eq-eqb, le-leb, lt-leb}
use Rattle.number.specs.Constants.{MAX}
use Rattle.clock.specs.declared.length.Times.{Times}
use Rattle.clock.specs.Steps.{DAY, clock_time, to_next}
use Rattle.clock.specs.Triggers.{Trigger, at_time, at_clock, at_level, untimed, Moment, candidate, length_at}
use Rattle.clock.specs.Machine.{bit, is_level_time, is_some_level_time, as_long}
use Rattle.clock.specs.Demand3.{whole, is_timed, is_clocked, count_of, bound}
use Rattle.clock.specs.Lawful.{ClockInDay, Each, Accepted}
use Rattle.clock.proofs.Tests.{lt_cases, leb_ind, eqb_ind}
use Rattle.clock.proofs.Smallest.{Member}
use Rattle.clock.proofs.Lengths.{time_past, time_later, clock_tomorrow, clock_today, candidates, length_positive, length_within, length_member}

-- ---- quotients and tests
div_mono : (k : ℕ) {a b : ℕ} → a ≤ b → a / k ≤ b / k
div_mono zero {a} {b} h = omega (arith, div-zero a, div-zero b)
div_mono (suc k) {a} {b} h = (le-div_iff_mul-le {k = suc k} {x = a / suc k} {y = b} (omega arith)).1 (omega (arith, div-mul-le_self a (suc k)))

-- the quotient rises up to the next multiple
div_next : (k t n : ℕ) → 0 < k → n ≡ to_next k t → suc (t / k) ≤ (t + n) / k
div_next k t n p e = (le-div_iff_mul-le p).1 (omega (arith, div-add-mod' t k, mod-lt t p))

-- and by as much as the divisor
div_step : (k t n : ℕ) → 0 < n → n ≡ k → suc (t / k) ≤ (t + n) / k
div_step k t n p e = (le-div_iff_mul-le {k = k} {x = suc (t / k)} {y = t + n} (omega arith)).1 (omega (arith, div-mul-le_self t k))

whole_div : (n k : ℕ) → n / k ≡ whole n k
unfolding whole
whole_div n k = eqb_ind (λ b. n / k ≡ cond b 0 (n / k)) k 0 (λ e. rw e (div-zero n)) (λ e. refl)

bit_le : (b : Bool) → bit b ≤ 1
bit_le true = omega arith
bit_le false = omega arith

bit_or_left : (a b : Bool) → bit a ≤ bit (a || b)
bit_or_left true b = omega arith
bit_or_left false b = omega arith

bit_or_right : (a b : Bool) → bit b ≤ bit (a || b)
bit_or_right true b = bit_le b
bit_or_right false b = omega arith

bit_leb_mono : (d : ℕ) {t u : ℕ} → t ≤ u → bit (leb d t) ≤ bit (leb d u)
bit_leb_mono d {t} {u} h = leb_ind (λ b. bit b ≤ bit (leb d u)) d t (λ l. rw (le-leb d u (omega arith)) (omega arith)) (λ l. omega arith)

-- ---- how often the controls have called for a stop, up to an instant
module _ {L : Type 0} (o : Times) where
  abbrev called : Trigger L → ℕ → ℕ
  called (at_time s) t = bit (leb s t)
  called (at_clock s) t = (t + (o.start_clock + (DAY - s))) / DAY
  called (at_level l) t = 0
  called untimed t = 0

  calls : List (Trigger L) → ℕ → ℕ
  calls [] t = 0
  calls (c ∷ cs) t = called c t + calls cs t

  called_mono : (c : Trigger L) {t u : ℕ} → t ≤ u → called c t ≤ called c u
  called_mono (at_time s) h = bit_leb_mono s h
  called_mono (at_clock s) h = omega arith
  called_mono (at_level l) h = omega arith
  called_mono untimed h = omega arith

  calls_mono : (cs : List (Trigger L)) {t u : ℕ} → t ≤ u → calls cs t ≤ calls cs u
  unfolding calls
  calls_mono [] h = omega arith
  calls_mono (c ∷ cs) h = omega (arith, called_mono c h, calls_mono cs h)

  called_top : (c : Trigger L) (u k : ℕ) → u / DAY ≤ k → called c u ≤ called c 0 + bit (is_timed c) + bit (is_clocked c) * (k + 1)
  called_top (at_time s) u k h = omega (arith, bit_le (leb s u))
  called_top (at_clock s) u k h = omega arith
  called_top (at_level l) u k h = omega arith
  called_top untimed u k h = omega arith

  calls_top : (cs : List (Trigger L)) (u k : ℕ) → u / DAY ≤ k → calls cs u ≤ calls cs 0 + count_of is_timed cs + count_of is_clocked cs * (k + 1)
  unfolding calls count_of
  calls_top [] u k h = omega arith
  calls_top (c ∷ cs) u k h = omega (arith, called_top c u k h, calls_top cs u k h)

  module _ (m : Moment L) (t n : ℕ) (short : t + n < MAX) (p : 0 < n) where
    called_rise : (c : Trigger L) → ClockInDay c → n ≡ candidate o m t c → suc (called c t) ≤ called c (t + n) + bit (is_level_time m n c)
    unfolding candidate
    called_rise (at_time s) d e =
        lt_cases s t
        (λ l. absurd (omega (arith, time_past s t l)))
        (λ l.
        let q : n ≡ s - t = e ∙ time_later s t l in
        rw (lt-leb s t (omega arith), le-leb s (t + n) (omega arith)) (omega arith))
    called_rise (at_clock s) d e =
        lt_cases s (clock_time o.start_clock t)
        (λ l. omega (arith, clock_tomorrow s _ l))
        (λ l. omega (arith, clock_today s _ l))
    called_rise (at_level l) d e = rw (eq-eqb n (m.level l) e) (omega arith)
    called_rise untimed d e = absurd (omega arith)

    calls_rise : (cs : List (Trigger L)) → Each ClockInDay cs → Member n (map (candidate o m t) cs) → suc (calls cs t) ≤ calls cs (t + n) + bit (is_some_level_time cs m n)
    unfolding calls is_some_level_time
    calls_rise [] d h = absurd h
    calls_rise (c ∷ cs) d (inl e) =
        omega (arith, called_rise c d.0 e, calls_mono cs {t = t} {u = t + n} (omega arith), bit_or_left (is_level_time m n c) (is_some_level_time cs m n))
    calls_rise (c ∷ cs) d (inr h) =
        omega (arith, calls_rise cs d.1 h, called_mono c {t = t} {u = t + n} (omega arith), bit_or_right (is_level_time m n c) (is_some_level_time cs m n))

module _ {L : Type 0} (ts : List (Trigger L)) (m : Moment L) (n : ℕ) (p : 0 < n) where
  long_tank : n ≡ m.tank → 1 ≤ bit (as_long ts m n)
  unfolding as_long
  long_tank e = rw (lt-ltb 0 n p, eq-eqb n m.tank e) (omega arith)

  long_level : bit (is_some_level_time ts m n) ≤ bit (as_long ts m n)
  unfolding as_long
  long_level = rw (lt-ltb 0 n p) (bit_or_right (eqb n m.tank) (is_some_level_time ts m n))

-- ---- the potential
module _ {L : Type 0} (o : Times) (ts : List (Trigger L)) where
  pub potential : ℕ → ℕ
  potential t = t / o.report + t / o.pattern + t / o.hydraulic + calls o ts t + bit (leb o.duration t)

  -- what it gains in a run is within the bound
  pub potential_top : (t steps : ℕ) → t ≤ o.duration → potential t + steps ≤ potential 0 + bound o ts steps
  unfolding potential bound
  potential_top t steps h =
      omega (
        arith,
        div_mono o.report h,
        div_mono o.pattern h,
        div_mono o.hydraulic h,
        whole_div o.duration o.report,
        whole_div o.duration o.pattern,
        whole_div o.duration o.hydraulic,
        calls_top o ts t (whole o.duration DAY) (omega (arith, whole_div o.duration DAY, div_mono DAY h)),
        bit_le (leb o.duration t),
      )

  -- a step before the duration raises it by 1, or is as long as a tank's or a level control's time
  module _ (ok : Accepted o ts) (m : Moment L) (t : ℕ) where
    pub potential_rise : {n : ℕ} → o.fast ≡ false → t < o.duration → n ≡ length_at o ts m t → suc (potential t) ≤ potential (t + n) + bit (as_long ts m n)
    unfolding potential candidates
    potential_rise {n} f l e = by (length_member o ts m t ok f l e)
      where
        p : 0 < n
        p = omega (arith, length_positive o ts m t ok l)

        within : t + n ≤ o.duration
        within = omega (arith, length_within o ts m t (omega arith))

        up : t ≤ t + n
        up = omega arith

        -- no part falls
        r : t / o.report ≤ (t + n) / o.report
        r = div_mono o.report up

        q : t / o.pattern ≤ (t + n) / o.pattern
        q = div_mono o.pattern up

        y : t / o.hydraulic ≤ (t + n) / o.hydraulic
        y = div_mono o.hydraulic up

        c : calls o ts t ≤ calls o ts (t + n)
        c = calls_mono o ts up

        d : bit (leb o.duration t) ≤ bit (leb o.duration (t + n))
        d = bit_leb_mono o.duration up

        -- and the part that the step's length comes from rises
        by : (n ≡ o.duration - t) ⊎ Member n (candidates o ts m t) → suc (potential t) ≤ potential (t + n) + bit (as_long ts m n)
        by (inl e) = omega (arith, r, q, y, c, ap bit (lt-leb o.duration t l), ap bit (le-leb o.duration (t + n) (omega arith)))
        by (inr (inl e)) = omega (arith, div_next o.report t n ok.report e, q, y, c, d)
        by (inr (inr (inl e))) = omega (arith, r, div_next o.pattern t n ok.pattern e, y, c, d)
        by (inr (inr (inr (inl e)))) = omega (arith, r, q, y, c, d, long_tank ts m n p e)
        by (inr (inr (inr (inr (inl e))))) = omega (arith, r, q, div_step o.hydraulic t n p e, c, d)
        by (inr (inr (inr (inr (inr h))))) =
            omega (arith, r, q, y, d, calls_rise o m t n (omega (arith, within)) p ts ok.clocks h, long_level ts m n p)
