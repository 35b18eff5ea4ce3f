-- Document 02, R-14, of the driver's listing: where the stops are foreseen, its steps end at these and at no other instants, whatever is loaded; and a
-- listing that is finished has come to all of them. Assumes nothing.
use Prim.Native.Nat.{ℕ, suc, ◌+◌, ◌-◌, ◌≤◌}
use mathlib.Core.Path.{◌≡◌, refl, sym, ap, ◌∙◌}
use mathlib.Core.Bool.{true, false, true≢false}
use mathlib.Core.List.{List, [], ◌∷◌, ◌++◌}
use native.Mathlib.Omega.{arith}
use lib.ListN.{length, length-append}
use Rattle.clock.proofs.Lengths.{length_within}
use Rattle.listing.specs.Listing.{Line}
use Rattle.stops.specs.Stops.{stops, stops_above}
use Rattle.stops.proofs.Lists.{stops_append, step_stops}
use Rattle.model.specs.declared.project.Project.{Project}
use Rattle.model.specs.declared.state.State.{State}
use Rattle.judge.specs.Judgement.{in_order}
use Rattle.tables.specs.Tables.{tables_ok}
use Rattle.tables.proofs.Fits.{tables_fit}
use Rattle.simulation.specs.Steps.{times_of, triggers_of, moment_of}
use Rattle.simulation.proofs.Accepted.{accepted_times}
use Rattle.calls_sound.proofs.Theorem.{tables_of}
use Rattle.second_clock.proofs.Tankless.{tankless}
use Rattle.stops_ahead.specs.Foreseen.{stops_foreseen, stops_of}
use Rattle.stops_ahead.proofs.Tables.{foreseen_tankless, foreseen_frequent}
use Rattle.demand3.proofs.Lawful.{started}
use Rattle.driver_turn.specs.Turns.{Turn, turn}
use Rattle.driver_chunk.specs.Runs.{Run, joined}
use Rattle.driver_chunk.proofs.Turning.{Step, Printed, known}
use Rattle.driver_printed.specs.Printed.{lines_from}
use Rattle.driver_printed.specs.Printed as whole
use Rattle.driver_printed.proofs.Whole.{along, run_ends}

-- the instants at which the steps of some lines end
abbrev pub ends : List Line → List ℕ
ends [] = []
ends (Line.step from seconds ∷ ls) = (from + seconds) ∷ ends ls
ends (Line.finished n ∷ ls) = ends ls
ends (Line.refused n ∷ ls) = ends ls

ends_append : (ls ms : List Line) → ends (ls ++ ms) ≡ ends ls ++ ends ms
ends_append [] ms = refl
ends_append (Line.step from seconds ∷ ls) ms = ap (λ (us : List ℕ). (from + seconds) ∷ us) (ends_append ls ms)
ends_append (Line.finished n ∷ ls) ms = ends_append ls ms
ends_append (Line.refused n ∷ ls) ms = ends_append ls ms

-- a listing that is finished has stopped at all of them, and counts them; one that ends at a fault, at those up to some instant
pub data Visited (p : Project) : List Line → Type 0 where
  finished : (ls : List Line) → ends ls ≡ stops_of p 0 → Visited p (ls ++ (Line.finished (length (stops_of p 0)) ∷ []))
  refused : (ls : List Line) (number instant : ℕ) → ends ls ≡ stops (times_of p) (triggers_of p) 0 instant → Visited p (ls ++ (Line.refused number ∷ []))

module _ (p : Project) (e : stops_foreseen p ≡ true) where
  -- a run so far
  record Stopped (r : Run) : Type 0 where
    within : r.state.clock.instant ≤ p.options.duration
    all : ends r.lines ≡ stops (times_of p) (triggers_of p) 0 r.state.clock.instant
    count : r.state.clock.count ≡ length (ends r.lines)

  record Going (r : Run) : Type 0 where
    ordered : in_order p r.state ≡ true
    going : r.over ≡ false → Stopped r
    ended : r.over ≡ true → Visited p r.lines

  -- a step from the instant that it has come to goes to the next stop
  stepped : (r : Run) → Stopped r → (q : State) (taken from seconds : ℕ) → Step p r.state q from seconds
      → Stopped (joined r (record { state = q; taken = taken; line = Line.step from seconds; last = false }))
  unfolding times_of
  stepped r h q taken from seconds k =
      let o = times_of p in
      let ts = triggers_of p in
      let m = moment_of p k.moment in
      let fit = tables_fit p (tables_of p k.moment k.ordered) in
      let one = step_stops o ts (accepted_times p fit) (foreseen_frequent p e) m (tankless p (foreseen_tankless p e) fit k.moment) from seconds k.long k.before in
      let line : ends (r.lines ++ (Line.step from seconds ∷ [])) ≡ ends r.lines ++ ((from + seconds) ∷ []) = ends_append r.lines (Line.step from seconds ∷ []) in
      let z : 0 + from ≡ from = omega arith in
      record {
        within = omega (arith, k.ends, k.long, length_within o ts m from (omega (arith, k.before)));
        all =
            line
            ∙ rw (h.all, ← k.begins, ← one, k.ends, stops_append o ts 0 from seconds, z);
        count = k.counted ∙ rw (h.count, line) (omega (arith, length-append (ends r.lines) ((from + seconds) ∷ [])));
      }

  -- at the duration it has come to all of them
  done : (r : Run) → Stopped r → p.options.duration ≤ r.state.clock.instant → Visited p (r.lines ++ (Line.finished r.state.clock.count ∷ []))
  unfolding stops_of stops_above times_of
  done r h l =
      let d : r.state.clock.instant ≡ p.options.duration - 0 = omega (arith, h.within) in
      let all : ends r.lines ≡ stops_of p 0 = h.all ∙ ap (stops (times_of p) (triggers_of p) 0) d in
      rw (h.count, ap length all) (finished r.lines all)

  turned : (r : Run) → Going r → r.over ≡ false → (t : Turn) → in_order p t.state ≡ true → Printed p r.state t → Going (joined r t)
  turned r g z t o (Printed.stepped q taken from seconds k) =
      record { ordered = o; going = λ _. stepped r (g.going z) q taken from seconds k; ended = λ w. absurd (true≢false (sym w)) }
  turned r g z t o (Printed.finished q l) =
      record { ordered = o; going = λ w. absurd (true≢false w); ended = λ _. done r (g.going z) l }
  turned r g z t o (Printed.refused q number) =
      record { ordered = o; going = λ w. absurd (true≢false w); ended = λ _. refused r.lines number r.state.clock.instant (g.going z).all }

  turn_gone : (r : Run) → Going r → r.over ≡ false → Going (joined r (turn p r.state r.left))
  turn_gone r g z =
      let t = known p r.state r.left g.ordered in
      turned r g z (turn p r.state r.left) t.ordered t.printed

  -- of any project whose tables are in order and whose stops are foreseen, on any bytes behind its image
  pub listing_stops : tables_ok p ≡ true → (bytes : List ℕ) → Visited p (lines_from p (whole.started p bytes))
  unfolding lines_from stops
  listing_stops f bytes =
      let b = started p f in
      let r = whole.started p bytes in
      let first : Stopped r = record { within = omega (arith, b.instant); all = sym (ap (stops (times_of p) (triggers_of p) 0) b.instant); count = b.count } in
      let h : Going r = record { ordered = b.sound; going = λ _. first; ended = λ w. absurd (true≢false (sym w)) } in
      (along p Going turn_gone r h (suc p.options.duration)).ended (run_ends p r b.sound)
