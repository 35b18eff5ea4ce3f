-- Demand 3 holds of every list of calls. What carries it: each call leaves the clock or moves it by a step's length, and the numbers that the
-- claim speaks of add up along the list. Assumes nothing.
use Prim.Native.Nat.{ℕ, suc, ◌+◌, ◌-◌, ◌/◌, ◌≤◌, ◌<◌, min}
use mathlib.Core.Path.{◌≡◌, refl, sym, ◌∙◌, ap}
use mathlib.Core.Logic.{◌↔◌}
use mathlib.Core.Bool.{Bool, true, false, cond, not, ◌&&◌}
use mathlib.Core.List.{List, [], ◌∷◌}
use native.Mathlib.Omega.{arith}
use native.Mathlib.Nat.{mod-lt, div-add-mod', div-lt_iff_lt-mul, div-eq_of_lt, add-div_right, mul-le-mul_right}
use lib.Dec.{eqb}
use borrow.Author.Tests.{lt-ltb, le-ltb, eq-eqb, ne_eqb}
use Rattle.clock.specs.declared.length.Times.{Times}
use Rattle.clock.specs.Steps.{to_next}
use Rattle.clock.specs.Triggers.{Trigger, length_at}
use Rattle.clock.specs.Machine.{Machine, bit, as_long, final, Along, asked, answered, times_moved, state_steps}
use Rattle.clock.specs.Demand3.{whole_up, PassesNo, Claim}
use Rattle.clock.specs.Lawful.{Accepted, Stepping, Lawful, Start}
use Rattle.clock.proofs.Tests.{lt_cases}
use Rattle.clock.proofs.Lengths.{length_past, length_positive, length_zero, length_within, length_fast, length_report, length_pattern}
use Rattle.clock.proofs.Bound.{potential, potential_top, potential_rise}

-- ---- timesteps rounded up
up_none : (n k : ℕ) → 0 < k → n ≡ 0 → whole_up n k ≡ 0
unfolding whole_up
up_none n k p e = div-eq_of_lt (omega arith)

up_next : (n k s : ℕ) → 0 < k → 0 < n → s ≡ min k n → whole_up n k ≡ suc (whole_up (n - s) k)
unfolding whole_up
up_next n k s p q e =
    let a : n + (k - 1) ≡ (n - 1) + k = omega arith in
    let b : (n - 1) / k ≡ (n - s + (k - 1)) / k =
    lt_cases n k
    (λ l. div-eq_of_lt (omega arith) ∙ sym (div-eq_of_lt (omega arith)))
    (λ l. ap (λ x. x / k) (omega arith)) in
    omega (arith, ap (λ x. x / k) a, add-div_right (n - 1) p)

-- ---- multiples
passes_no : (k from length : ℕ) → 0 < k → length ≤ to_next k from → PassesNo k from length
passes_no k from length p l =
    record {
      none =
          λ i a b.
          let q : suc (from / k) ≤ i = (div-lt_iff_lt-mul p).1 a in
          omega (arith, mul-le-mul_right k q, div-add-mod' from k, mod-lt from p);
    }

-- ---- a change of the instant, counted
abbrev changed : ℕ → ℕ → ℕ
changed t u = bit (not (eqb u t))

unchanged : (t u : ℕ) → u ≡ t → changed t u ≡ 0
unchanged t u e = rw (eq-eqb u t e)

changed_later : (t u : ℕ) → t < u → changed t u ≡ 1
changed_later t u l = rw (ne_eqb u t (λ e. omega arith))

-- ---- calls from the state s to the state z: `asks` of them for a step, with answers of `sum` seconds; `moves` of them moved the clock, and
-- `long` were as long as a tank's or a level control's time
record Run {L : Type 0} (M : Machine L) (o : Times) (ts : List (Trigger L)) (s z : M.State) (asks sum moves long : ℕ) : Type 0 where
  sound : M.Sound z
  within : M.instant z ≤ o.duration
  sums : M.instant z ≡ M.instant s + sum
  done : min o.duration (M.instant s + asks) ≤ M.instant z
  counts : M.count z ≡ M.count s + moves
  fast : o.fast ≡ true → moves ≡ min asks (whole_up (o.duration - M.instant s) o.report)
  ahead : o.fast ≡ true → moves + whole_up (o.duration - M.instant z) o.report ≡ whole_up (o.duration - M.instant s) o.report
  bounded : o.fast ≡ false → moves + potential o ts (M.instant s) ≤ potential o ts (M.instant z) + long

module _ {L : Type 0} (M : Machine L) (o : Times) (ts : List (Trigger L)) where
  run_none : (s : M.State) → M.Sound s → M.instant s ≤ o.duration → Run M o ts s s 0 0 0 0
  run_none s k l =
      record {
        sound = k;
        within = l;
        sums = omega arith;
        done = omega arith;
        counts = omega arith;
        fast = λ f. omega arith;
        ahead = λ f. omega arith;
        bounded = λ f. omega arith;
      }

  run_then : {s u z : M.State} {a b c d a' b' c' d' : ℕ} → Run M o ts s u a b c d → Run M o ts u z a' b' c' d'
      → Run M o ts s z (a + a') (b + b') (c + c') (d + d')
  run_then r q =
      record {
        sound = q.sound;
        within = q.within;
        sums = omega arith;
        done = omega arith;
        counts = omega arith;
        fast = λ f. omega (arith, r.fast f, r.ahead f, q.fast f);
        ahead = λ f. omega (arith, r.ahead f, q.ahead f);
        bounded = λ f. omega (arith, r.bounded f, q.bounded f);
      }

  module _ (ok : Accepted o ts) (law : Lawful M o ts) where
    module _ (c : M.Call) (s : M.State) (k : M.Sound s) where
      abbrev z : M.State
      z = M.after c s

      -- the clock stays: no step is asked, or nothing remains
      run_stays : {a n long : ℕ} → M.instant s ≤ o.duration → M.instant z ≡ M.instant s → M.count z ≡ M.count s
          → min a (o.duration - M.instant s) ≡ 0 → n ≡ 0 → Run M o ts s z a n (changed (M.instant s) (M.instant z)) long
      run_stays {a} l i e r q =
          let v : changed (M.instant s) (M.instant z) ≡ 0 = unchanged (M.instant s) (M.instant z) i in
          record {
            sound = law.sound c s k;
            within = omega arith;
            sums = omega arith;
            done = omega arith;
            counts = omega arith;
            fast =
                λ f.
                lt_cases 0 a
                (λ x. omega (arith, up_none (o.duration - M.instant s) o.report ok.report (omega arith)))
                (λ x. omega arith);
            ahead = λ f. omega (arith, ap (λ t. whole_up (o.duration - t) o.report) i);
            bounded = λ f. omega (arith, ap (potential o ts) i);
          }

      -- a step before the duration moves it
      run_moves : M.instant s < o.duration → Stepping M o ts c s
          → Run M o ts s z 1 (M.answer c s) (changed (M.instant s) (M.instant z)) (bit (as_long ts (M.moment s) (M.answer c s)))
      run_moves l e =
          let p : 0 < M.answer c s = omega (arith, length_positive o ts (M.moment s) (M.instant s) ok l) in
          let v : changed (M.instant s) (M.instant z) ≡ 1 = changed_later (M.instant s) (M.instant z) (omega arith) in
          record {
            sound = law.sound c s k;
            within = omega (arith, length_within o ts (M.moment s) (M.instant s) (omega arith));
            sums = e.instant;
            done = omega arith;
            counts = omega (arith, ap bit (lt-ltb 0 (M.answer c s) p));
            fast = λ f. omega (arith, next f);
            ahead = λ f. omega (arith, next f, ap (λ t. whole_up t o.report) remains);
            bounded = λ f. omega (arith, potential_rise o ts ok (M.moment s) (M.instant s) f l e.length, ap (potential o ts) e.instant);
          }
        where
          next : o.fast ≡ true → whole_up (o.duration - M.instant s) o.report ≡ suc (whole_up (o.duration - M.instant s - M.answer c s) o.report)
          next f =
              up_next (o.duration - M.instant s) o.report (M.answer c s) ok.report (omega arith)
              (e.length ∙ length_fast o ts (M.moment s) (M.instant s) f)

          remains : o.duration - M.instant z ≡ o.duration - M.instant s - M.answer c s
          remains = omega arith

      run_step : M.instant s ≤ o.duration → Stepping M o ts c s
          → Run M o ts s z 1 (M.answer c s) (changed (M.instant s) (M.instant z)) (bit (as_long ts (M.moment s) (M.answer c s)))
      run_step l e =
          lt_cases (M.instant s) o.duration
          (λ h. run_moves h e)
          (λ h.
          let n : M.answer c s ≡ 0 = e.length ∙ length_past o ts (M.moment s) (M.instant s) h in
          run_stays l (omega arith) (omega (arith, ap bit (le-ltb 0 (M.answer c s) (omega arith)))) (omega arith) n)

      run_call : M.instant s ≤ o.duration
          → Run M o ts s z (bit (M.is_step c)) (cond (M.is_step c) (M.answer c s) 0) (changed (M.instant s) (M.instant z))
          (bit (M.is_step c && as_long ts (M.moment s) (M.answer c s)))
      run_call l = go (M.is_step c) refl
        where
          go : (b : Bool) → M.is_step c ≡ b
              → Run M o ts s z (bit b) (cond b (M.answer c s) 0) (changed (M.instant s) (M.instant z))
              (bit (b && as_long ts (M.moment s) (M.answer c s)))
          go true e = run_step l (law.step c s k e)
          go false e = run_stays l (law.quiet c s k e).instant (law.quiet c s k e).count (omega arith) refl

    run : (calls : List M.Call) (s : M.State) → M.Sound s → M.instant s ≤ o.duration
        → Run M o ts s (final M calls s) (asked M calls) (answered M calls s) (times_moved M calls s) (state_steps M ts calls s)
    unfolding final asked answered times_moved state_steps
    run [] s k l = run_none s k l
    run (c ∷ calls) s k l = let r : _ = run_call c s k l in run_then r (run calls (M.after c s) r.sound r.within)

    -- what holds of each call on a sound state holds along a list
    along : (P : M.Call → M.State → Type 0) → ((c : M.Call) (u : M.State) → M.Sound u → P c u)
        → (calls : List M.Call) (s : M.State) → M.Sound s → Along M P calls s
    along P f [] s k = tt
    along P f (c ∷ calls) s k = (f c s k, along P f calls (M.after c s) (law.sound c s k))

    pub demand3 : (s : M.State) → Start M s → (calls : List M.Call) → Claim M o ts calls s (final M calls s)
    demand3 s b calls =
        let r : Run M o ts s (final M calls s) (asked M calls) (answered M calls s) (times_moved M calls s) (state_steps M ts calls s) =
        run calls s b.sound (omega arith) in
        let d : o.duration - M.instant s ≡ o.duration = omega arith in
        record {
          left = refl;
          sums = omega arith;
          within = r.within;
          ends = ends (final M calls s) r.sound r.within;
          done = λ l. omega arith;
          counts = omega arith;
          fast = λ f. omega (arith, r.fast f, ap (λ t. whole_up t o.report) d);
          passes = λ f. along _ (passes f) calls s b.sound;
          bounded =
              λ f.
              omega (
                arith,
                r.bounded f,
                ap (potential o ts) b.instant,
                potential_top o ts (M.instant (final M calls s)) (state_steps M ts calls s) r.within,
              );
          lengths = along _ answers calls s b.sound;
          numbers = along _ law.number calls s b.sound;
        }
      where
        answers : (c : M.Call) (u : M.State) → M.Sound u → M.is_step c ≡ true → M.answer c u ≡ length_at o ts (M.moment u) (M.instant u)
        answers c u k e = (law.step c u k e).length

        ends : (z : M.State) → M.Sound z → M.instant z ≤ o.duration → (c : M.Call) → M.is_step c ≡ true → (M.instant z ≡ o.duration) ↔ (M.answer c z ≡ 0)
        ends z k l c e =
            let a : M.answer c z ≡ length_at o ts (M.moment z) (M.instant z) = answers c z k e in
            let w : (o.duration ≤ M.instant z) ↔ (length_at o ts (M.moment z) (M.instant z) ≡ 0) = length_zero o ts (M.moment z) (M.instant z) ok in
            (λ q. a ∙ w.0 (omega arith), λ q. omega (arith, w.1 (omega arith)))

        passes : o.fast ≡ false → (c : M.Call) (u : M.State) → M.Sound u → M.is_step c ≡ true
            → PassesNo o.report (M.instant u) (M.answer c u) × PassesNo o.pattern (M.instant u) (M.answer c u)
        passes f c u k e =
            let a : M.answer c u ≡ length_at o ts (M.moment u) (M.instant u) = answers c u k e in (
              passes_no o.report (M.instant u) (M.answer c u) ok.report (rw a (length_report o ts (M.moment u) (M.instant u) ok f)),
              passes_no o.pattern (M.instant u) (M.answer c u) ok.pattern (rw a (length_pattern o ts (M.moment u) (M.instant u) ok f)),
            )
