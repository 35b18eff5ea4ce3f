-- The walk, second by second. What the controls of a table wait for, asked one after the other, are the triggers of the definition. Assumes nothing.
use mathlib.Core.Path.{◌≡◌, refl, sym, ap, ◌∙◌}
use mathlib.Core.Bool.{Bool, true, false, cond, ◌||◌, or-false, or_assoc}
use mathlib.Core.List.{List, [], ◌∷◌, ◌++◌}
use Prim.Native.Nat.{ℕ, zero, suc, ◌+◌, ◌-◌, ◌^◌, ◌≤◌, ◌<◌}
use native.Mathlib.Omega.{arith}
use lib.Dec.{eqb}
use lib.ListN.{get_or, replicate}
use borrow.Author.Tests.{lt-ltb, ne_eqb}
use Rattle.std.specs.Prelude.{Option, None}
use Rattle.clock.specs.Steps.{clock_time}
use Rattle.clock.specs.Triggers.{Trigger, at_time, at_clock, at_level, untimed}
use Rattle.clock.specs.declared.length.Times.{Times}
use Rattle.stops.specs.Stops.{calls_now, calls_at, called_at, stops_at}
use Rattle.stops.specs.Walk.{stops_after, walked, walk}
use Rattle.stops.proofs.Walk.{walked_same, walk_within}
use Rattle.model.specs.Loops.{through}
use Rattle.model.proofs.Pointwise.{each_at}
use Rattle.model.specs.declared.control.Control.{Control}
use Rattle.model.specs.declared.project.Project.{Project}
use Rattle.model.specs.declared.state.State.{State}
use Rattle.tables.specs.Fit.{TablesFit}
use Rattle.tables.proofs.Fits.{tables_fit}
use Rattle.judge.specs.Judgement.{in_order}
use Rattle.calls_sound.proofs.Theorem.{tables_of, state_of}
use Rattle.simulation.specs.Steps.{Level, listed, times_of, triggers_of}
use Rattle.awaited.specs.Awaited.{time_of, clock_of, trigger_in, triggers_in, notes, awaited_by}
use Rattle.awaited.specs.declared.Awaited.{Awaited}
use Rattle.awaited.proofs.Notes.{notes_at}
use Rattle.second_clock.specs.Walks.{NEVER, or_never, words_of, any_calls, stops_then, stops_by, TimesFit}

-- ---- what a control waits for
-- it waits for an instant or a clock time exactly if it calls for a stop there
called_one : (t : Trigger Level) (u clock : ℕ) → u < NEVER → clock < NEVER → (eqb u (or_never (time_of t)) || eqb clock (or_never (clock_of t))) ≡ calls_now u clock t
called_one (at_time s) u clock a b = rw (ne_eqb clock NEVER (λ e. omega arith)) (or-false (eqb u s))
called_one (at_clock s) u clock a b = rw (ne_eqb u NEVER (λ e. omega arith))
called_one (at_level l) u clock a b = rw (ne_eqb u NEVER (λ e. omega arith), ne_eqb clock NEVER (λ e. omega arith))
called_one untimed u clock a b = rw (ne_eqb u NEVER (λ e. omega arith), ne_eqb clock NEVER (λ e. omega arith))

-- the words of a list
words_at : (seconds : List (Option ℕ)) (i : ℕ) → i < 64 → get_or (words_of seconds) i 0 ≡ or_never (get_or seconds i None)
unfolding words_of
words_at seconds i l = each_at 0 64 (λ k x. or_never (get_or seconds k None)) (replicate 64 NEVER) (omega arith) i ∙ rw (lt-ltb i 64 l)

-- ---- the controls
called_last : (o : Times) (ts : List (Trigger Level)) (t : Trigger Level) (u : ℕ) → called_at o (ts ++ (t ∷ [])) u ≡ (called_at o ts u || calls_at o u t)
unfolding called_at
called_last o [] t u = or-false (calls_at o u t)
called_last o (x ∷ ts) t u = rw (called_last o ts t u) (sym (or_assoc (calls_at o u x) (called_at o ts u) (calls_at o u t)))

module _ (o : Times) (controls : List Control) (count u clock : ℕ) (most : count ≤ 64) (early : u < NEVER) (now : clock ≡ clock_time o.start_clock u) where
  any_called : (n : ℕ) → n ≤ count → any_calls (words_of (notes time_of controls count)) (words_of (notes clock_of controls count)) n u clock ≡ called_at o (triggers_in controls n) u
  unfolding any_calls through listed called_at
  any_called zero l = refl
  any_called (suc n) l =
      rw (
        any_called n (omega arith),
        words_at (notes time_of controls count) n (omega arith),
        words_at (notes clock_of controls count) n (omega arith),
        notes_at time_of controls count n most (omega arith),
        notes_at clock_of controls count n most (omega arith),
        called_one (trigger_in controls n) u clock early (omega arith),
      )
      (ap (λ c. called_at o (triggers_in controls n) u || calls_now u c (trigger_in controls n)) now
      ∙ sym (called_last o (triggers_in controls n) (trigger_in controls n) u))

-- the tests of a second are the definition's
stops_same : (o : Times) (controls : List Control) (count from : ℕ) → TimesFit o → count ≤ 64 → (n : ℕ) → from + n ≤ o.duration
    → stops_by o (words_of (notes time_of controls count)) (words_of (notes clock_of controls count)) count from n ≡ stops_after o (triggers_in controls count) from n
unfolding stops_after stops_at
stops_same o controls count from fit most n l =
    rw (any_called o controls count (from + n) (clock_time o.start_clock (from + n)) most (omega (arith, fit.duration)) refl count (omega arith))

-- and so is the walk by the two lists
pub walk_by_is : (o : Times) (controls : List Control) (count from : ℕ) (w : Awaited) {times clocks : List ℕ} → TimesFit o → count ≤ 64 → w ≡ awaited_by controls count
    → times ≡ words_of w.times → clocks ≡ words_of w.clocks → walked (stops_by o times clocks count from) 0 (o.duration - from) ≡ walk o (triggers_in controls count) from
unfolding walk
walk_by_is o controls count from w fit most e t k =
    rw (t, k, e)
    (walked_same _ (stops_after o (triggers_in controls count) from) 0 (o.duration - from) (λ n a b. stops_same o controls count from fit most n (omega arith)))

-- ---- the walk so far: what is left of it gives the whole
pub record Going (stops : ℕ → Bool) (duration from instant seconds : ℕ) : Type 0 where
  pub at : instant ≡ from + seconds
  pub left : walked stops 0 (duration - from) ≡ walked stops seconds (duration - instant)

module _ {stops : ℕ → Bool} {duration from : ℕ} where
  pub going_begun : Going stops duration from from 0
  going_begun = record { at = omega arith; left = refl }

  module _ {instant seconds : ℕ} (g : Going stops duration from instant seconds) (l : instant < duration) where
    next : walked stops 0 (duration - from) ≡ cond (stops (suc seconds)) (suc seconds) (walked stops (suc seconds) (duration - suc instant))
    unfolding walked
    next =
        let e : duration - instant ≡ suc (duration - suc instant) = omega arith in
        g.left ∙ ap (walked stops seconds) e

    pub going_stops : {b : Bool} → b ≡ stops (seconds + 1) → b ≡ true → seconds + 1 ≡ walked stops 0 (duration - from)
    going_stops e t = let q : seconds + 1 ≡ suc seconds = omega arith in sym (next ∙ rw (← q, ← e, t))

    pub going_turned : {b : Bool} → b ≡ stops (seconds + 1) → b ≡ false → Going stops duration from (instant + 1) (seconds + 1)
    going_turned e f =
        let i : suc instant ≡ instant + 1 = omega arith in
        let q : suc seconds ≡ seconds + 1 = omega arith in
        record {
          at = omega (arith, g.at);
          left = next ∙ rw (q, i, ← e, f);
        }

  pub going_ended : {instant seconds : ℕ} → Going stops duration from instant seconds → duration ≤ instant → seconds ≡ walked stops 0 (duration - from)
  unfolding walked
  going_ended {instant} {seconds} g l = let z : duration - instant ≡ 0 = omega arith in sym (g.left ∙ rw z)

-- the code's test at the next second
pub stop_told : (o : Times) (times clocks : List ℕ) (count from instant seconds : ℕ) {called b : Bool} → instant ≡ from + seconds
    → called ≡ any_calls times clocks count (instant + 1) (clock_time o.start_clock (instant + 1)) → b ≡ stops_then o called (instant + 1) (seconds + 1)
    → b ≡ stops_by o times clocks count from (seconds + 1)
stop_told o times clocks count from instant seconds at k e =
    let i : instant + 1 ≡ from + (seconds + 1) = omega (arith, at) in
    e ∙ rw (k, i)

-- ---- of a project's tables
pub times_fit : (p : Project) → TablesFit p → TimesFit (times_of p)
unfolding times_of
times_fit p t = record { duration = t.options.duration; clock = t.options.clock; report = t.options.report; pattern = t.options.pattern }

pub walk_of : (p : Project) (o : Times) (from n : ℕ) → o ≡ times_of p → n ≡ walk o (triggers_in p.controls p.counts.controls) from → n ≡ walk (times_of p) (triggers_of p) from
unfolding triggers_of
walk_of p o from n e w = w ∙ ap (λ (x : Times). walk x (triggers_of p) from) e

-- the clock has room for the walk
pub room : (p : Project) (s : State) → in_order p s ≡ true → (n : ℕ) → n ≡ walk (times_of p) (triggers_of p) s.clock.instant
    → (s.clock.instant + n < 2 ^ 32) × (s.clock.count + 1 < 2 ^ 32)
unfolding times_of
room p s e n q =
    let o = state_of p s e in
    let t = tables_fit p (tables_of p s e) in
    let w = walk_within (times_of p) (triggers_of p) s.clock.instant o.instant in
    (omega (arith, o.instant, t.options.duration, w), omega (arith, o.instant, o.count, t.options.duration))
