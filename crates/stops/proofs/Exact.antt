-- Along any list of calls the clock is moved to the stops, and to no other instant: a step that moves it goes from one stop to the next, and what lies
-- between two instants is what lies up to any in between and from there on. Assumes nothing.
use Prim.Native.Nat.{ℕ, ◌+◌, ◌≤◌, ◌<◌}
use mathlib.Core.Path.{◌≡◌, refl, sym, ap, ◌∙◌}
use mathlib.Core.Bool.{Bool, true, false, cond, not}
use mathlib.Core.List.{List, [], ◌∷◌, ◌++◌}
use native.Mathlib.Omega.{arith}
use lib.Dec.{eqb}
use lib.ListN.{length}
use borrow.Author.Tests.{eq-eqb, ne_eqb}
use Rattle.clock.specs.Lawful.{Accepted, Lawful, Start, Stepping}
use Rattle.clock.specs.Machine.{Machine, bit, final, times_moved}
use Rattle.clock.specs.Triggers.{Trigger}
use Rattle.clock.specs.declared.length.Times.{Times}
use Rattle.clock.proofs.Demand3.{demand3}
use Rattle.clock.proofs.Lengths.{length_past, length_positive, length_within}
use Rattle.clock.proofs.Tests.{lt_cases}
use Rattle.stops.specs.Exact.{visited, Exact}
use Rattle.stops.specs.Stops.{stops}
use Rattle.stops.specs.Tankless.{Foreseen}
use Rattle.stops.proofs.Lists.{step_stops, stops_append}

-- how often the clock moved is how many instants it was moved to
pub visits_moved : {L : Type 0} (M : Machine L) (calls : List M.Call) (s : M.State) → times_moved M calls s ≡ length (visited M calls s)
unfolding times_moved visited
visits_moved M [] s = refl
visits_moved M (c ∷ calls) s = go (visits_moved M calls (M.after c s)) (eqb (M.instant (M.after c s)) (M.instant s))
  where
    v : List ℕ
    v = visited M calls (M.after c s)

    go : times_moved M calls (M.after c s) ≡ length v → (b : Bool) → bit (not b) + times_moved M calls (M.after c s) ≡ length (cond b v (M.instant (M.after c s) ∷ v))
    go i true = omega arith
    go i false = omega arith

module _ {L : Type 0} (M : Machine L) (o : Times) (ts : List (Trigger L)) (ok : Accepted o ts) (law : Lawful M o ts) (f : Foreseen M o ts) where
  -- ---- one call: the stops between its two instants are the instant that it moves the clock to, or none
  module _ (c : M.Call) (s : M.State) (k : M.Sound s) (l : M.instant s ≤ o.duration) where
    abbrev t : ℕ
    t = M.instant s

    abbrev u : ℕ
    u = M.instant (M.after c s)

    record Moves (n : ℕ) : Type 0 where
      to : u ≡ t + n
      within : u ≤ o.duration
      new : (rest : List ℕ) → cond (eqb u t) rest (u ∷ rest) ≡ stops o ts t n ++ rest

    stays : u ≡ t → Moves 0
    stays e = record { to = omega arith; within = omega arith; new = λ rest. unfold stops in rw (eq-eqb u t e) }

    moves : Stepping M o ts c s → Moves (M.answer c s)
    moves e = lt_cases t o.duration on done
      where
        n : ℕ
        n = M.answer c s

        on : t < o.duration → Moves n
        on h =
            let p : 0 < n = omega (arith, e.length, length_positive o ts (M.moment s) t ok h) in
            record {
              to = e.instant;
              within = omega (arith, e.instant, e.length, length_within o ts (M.moment s) t l);
              new = λ rest. rw (ne_eqb u t (λ q. omega (arith, e.instant)), step_stops o ts ok f.times (M.moment s) (f.tankless s k) t n e.length h, ← e.instant);
            }

        done : o.duration ≤ t → Moves n
        done h =
            let z : n ≡ 0 = e.length ∙ length_past o ts (M.moment s) t h in
            rw z (stays (omega (arith, e.instant)))

    record Goes : Type 0 where
      far : ℕ
      by : Moves far

    call_goes : Goes
    call_goes = go (M.is_step c) refl
      where
        go : (b : Bool) → M.is_step c ≡ b → Goes
        go true e = record { far = M.answer c s; by = moves (law.step c s k e) }
        go false e = record { far = 0; by = stays (law.quiet c s k e).instant }

  -- ---- a list
  record Seen (calls : List M.Call) (s : M.State) : Type 0 where
    far : ℕ
    to : M.instant (final M calls s) ≡ M.instant s + far
    all : visited M calls s ≡ stops o ts (M.instant s) far

  seen : (calls : List M.Call) (s : M.State) → M.Sound s → M.instant s ≤ o.duration → Seen calls s
  unfolding final visited stops
  seen [] s k l = record { far = 0; to = omega arith; all = refl }
  seen (c ∷ calls) s k l =
      let g = call_goes c s k l in
      let r = seen calls (M.after c s) (law.sound c s k) g.by.within in
      record {
        far = g.far + r.far;
        to = omega (arith, g.by.to, r.to);
        all =
            g.by.new (visited M calls (M.after c s))
            ∙ ap (λ (xs : List ℕ). stops o ts (M.instant s) g.far ++ xs) (r.all ∙ ap (λ (v : ℕ). stops o ts v r.far) g.by.to)
            ∙ sym (stops_append o ts (M.instant s) g.far r.far);
      }

  pub exact : (s : M.State) → Start M s → (calls : List M.Call) → Exact M o ts calls s (final M calls s)
  exact s b calls =
      let r = seen calls s b.sound (omega (arith, b.instant)) in
      let z = M.instant (final M calls s) in
      let far : r.far ≡ z = omega (arith, r.to, b.instant) in
      let v : visited M calls s ≡ stops o ts 0 z =
      r.all ∙ ap (λ (t : ℕ). stops o ts t r.far) b.instant ∙ ap (stops o ts 0) far in
      record {
        visits = v;
        counts = (demand3 M o ts ok law s b calls).counts ∙ visits_moved M calls s ∙ ap length v;
      }
