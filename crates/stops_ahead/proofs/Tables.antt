-- Of a project's tables: where its stops are foreseen, its times and controls are what the stops ahead ask for; and the first of its stops is what a
-- list of one is filled with. Assumes nothing.
use Prim.Native.Nat.{ℕ, ◌≤◌}
use mathlib.Core.Path.{◌≡◌, refl, sym, subst}
use mathlib.Core.Logic.{◌⊎◌, inl, inr}
use mathlib.Core.Bool.{Bool, true, false, cond, not, ◌&&◌, ◌||◌}
use mathlib.Core.List.{List, [], ◌∷◌}
use lib.Dec.{leb}
use lib.ListN.{length, take, get_or}
use borrow.Author.Tests.{leb-true, not-true}
use Rattle.std.specs.Prelude.{Ok, Err}
use Rattle.clock.specs.Steps.{DAY}
use Rattle.clock.specs.declared.length.Times.{Times}
use Rattle.model.specs.declared.project.Project.{Project}
use Rattle.model.proofs.Loops.{both_left, both_right}
use Rattle.tables.specs.Fit.{TablesFit}
use Rattle.tables.specs.Tables.{tables_ok}
use Rattle.simulation.specs.Steps.{no_tanks, times_of, triggers_of}
use Rattle.simulation.proofs.Accepted.{accepted_times}
use Rattle.stops.specs.Stops.{stops_above}
use Rattle.stops.specs.Tankless.{Frequent}
use Rattle.awaited.specs.Awaited.{triggers_in}
use Rattle.stops_ahead.specs.Ahead.{first_in, Timely}
use Rattle.stops_ahead.specs.Foreseen.{StopAnswer, StopsAnswer, frequent, stops_foreseen, stops_of, first_of, next_stop, next_stops, stops_given, fronted, stops_written, stop_number, stop_counts, stop_instants, stops_number, stops_counts, number_of_stops, counts_of_stops}
use Rattle.stops_ahead.specs.declared.next.NoStops.TheVariants.{Unforeseen, Refused}

-- ---- the tests
one_of : (a b c : ℕ) → (leb a c || leb b c) ≡ true → (a ≤ c) ⊎ (b ≤ c)
one_of a b c e = go (leb a c) refl e
  where
    go : (x : Bool) → leb a c ≡ x → (x || leb b c) ≡ true → (a ≤ c) ⊎ (b ≤ c)
    go true q z = inl (leb-true a c q)
    go false q z = inr (leb-true b c z)

module _ (p : Project) (e : stops_foreseen p ≡ true) where
  pub foreseen_tankless : no_tanks p ≡ true
  unfolding stops_foreseen
  foreseen_tankless = both_left (no_tanks p) _ e

  pub foreseen_frequent : Frequent (times_of p)
  unfolding stops_foreseen frequent
  foreseen_frequent =
      let o = times_of p in
      let rest = both_right (no_tanks p) _ e in
      let two = both_right (not o.fast) _ rest in
      let wide = leb o.report o.hydraulic || leb o.pattern o.hydraulic in
      let daily = leb o.report DAY || leb o.pattern DAY in
      record {
        slow = not-true o.fast (both_left (not o.fast) _ rest);
        hydraulic = one_of o.report o.pattern o.hydraulic (both_left wide daily two);
        day = one_of o.report o.pattern DAY (both_right wide daily two);
      }

-- ---- the controls
pub timely : (p : Project) → TablesFit p → stops_foreseen p ≡ true → (o : Times) → o ≡ times_of p → Timely o p.controls p.counts.controls
unfolding times_of triggers_of
timely p t e o same = subst (λ (x : Times). Timely x p.controls p.counts.controls) (sym same) (record {
  few = t.few.controls;
  duration = t.options.duration;
  accepted = accepted_times p t;
  frequent = foreseen_frequent p e;
})

-- ---- a list of one
pub first_written : (p : Project) (instant : ℕ) → first_in (next_stops p instant 1) (get_or (stops_written p instant (0 ∷ [])) 0 0) ≡ next_stop p instant
unfolding next_stop next_stops stops_given stops_written
first_written p instant = go (tables_ok p) (stops_foreseen p) (stops_of p instant)
  where
    go : (a b : Bool) (us : List ℕ)
        → first_in (cond a (cond b (Ok (length (take 1 us))) (Err Unforeseen)) (Err (Refused 10))) (get_or (fronted (cond (a && b) (take 1 us) []) (0 ∷ [])) 0 0)
        ≡ cond a (cond b (first_of us) (Err Unforeseen)) (Err (Refused 10))
    go true true [] = refl
    go true true (u ∷ us) = refl
    go true false us = refl
    go false b us = refl

-- ---- what is answered, by its number and values
pub stop_answers : (p : Project) (instant : ℕ) {r : StopAnswer} → r ≡ next_stop p instant
    → (stop_number r ≡ number_of_stops p) × (stop_counts r ≡ counts_of_stops p instant 1) × (stop_instants r ≡ stops_given p instant 1)
unfolding next_stop number_of_stops counts_of_stops stops_given
stop_answers p instant e = rw e (go (tables_ok p) (stops_foreseen p) (stops_of p instant))
  where
    answer : Bool → Bool → List ℕ → StopAnswer
    answer a b us = cond a (cond b (first_of us) (Err Unforeseen)) (Err (Refused 10))

    go : (a b : Bool) (us : List ℕ)
        → (stop_number (answer a b us) ≡ cond a 0 10)
        × (stop_counts (answer a b us) ≡ cond (a && b) (length (take 1 us) ∷ []) [])
        × (stop_instants (answer a b us) ≡ cond (a && b) (take 1 us) [])
    go true true [] = (refl, refl, refl)
    go true true (u ∷ us) = (refl, refl, refl)
    go true false us = (refl, refl, refl)
    go false b us = (refl, refl, refl)

stops_answers : (p : Project) (instant room : ℕ) {r : StopsAnswer} → r ≡ next_stops p instant room
    → (stops_number r ≡ number_of_stops p) × (stops_counts r ≡ counts_of_stops p instant room)
unfolding next_stops number_of_stops counts_of_stops
stops_answers p instant room e = rw e (go (tables_ok p) (stops_foreseen p))
  where
    answer : Bool → Bool → StopsAnswer
    answer a b = cond a (cond b (Ok (length (take room (stops_of p instant)))) (Err Unforeseen)) (Err (Refused 10))

    go : (a b : Bool) → (stops_number (answer a b) ≡ cond a 0 10) × (stops_counts (answer a b) ≡ cond (a && b) (length (take room (stops_of p instant)) ∷ []) [])
    go true true = (refl, refl)
    go true false = (refl, refl)
    go false b = (refl, refl)

-- ---- what is answered and written
module _ (p : Project) (instant : ℕ) (old : List ℕ) where
  abbrev Written : StopsAnswer → List ℕ → Type 0
  Written r out =
      (r ≡ next_stops p instant (length old))
      × (((stops_number r ≡ number_of_stops p) × (stops_counts r ≡ counts_of_stops p instant (length old))) × (out ≡ stops_written p instant old))

  written : {r : StopsAnswer} {out : List ℕ} → r ≡ next_stops p instant (length old) → out ≡ stops_written p instant old → Written r out
  written e q = (e, (stops_answers p instant (length old) e, q))

  pub refused_written : tables_ok p ≡ false → Written (Err (Refused 10)) old
  unfolding next_stops stops_given stops_written
  refused_written e = written (rw e) (rw e)

  pub unforeseen_written : tables_ok p ≡ true → stops_foreseen p ≡ false → Written (Err Unforeseen) old
  unfolding next_stops stops_given stops_written
  unforeseen_written e f = written (rw (e, f)) (rw (e, f))

  pub stops_written_lem : {o : Times} {n : ℕ} {out : List ℕ} → tables_ok p ≡ true → stops_foreseen p ≡ true → o ≡ times_of p
      → n ≡ length (take (length old) (stops_above o (triggers_in p.controls p.counts.controls) instant))
      → out ≡ fronted (take (length old) (stops_above o (triggers_in p.controls p.counts.controls) instant)) old
      → Written (Ok n) out
  unfolding next_stops stops_given stops_written stops_of triggers_of
  stops_written_lem e f same a b = written (rw (e, f, ← same, a)) (rw (e, f, ← same, b))
