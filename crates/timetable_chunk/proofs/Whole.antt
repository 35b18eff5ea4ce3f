-- The texts of the chunks, one after the other, are the timetable. What carries it: the stops above an instant are the first of them and those above
-- the last of these. Assumes nothing.
use Prim.Native.Nat.{ℕ, zero, suc, ◌+◌, ◌-◌, ◌^◌, ◌≤◌, ◌<◌}
use mathlib.Core.Path.{◌≡◌, refl, sym, ap, ◌∙◌}
use mathlib.Core.Bool.{Bool, true, false, cond, true≢false}
use mathlib.Core.List.{List, [], ◌∷◌, ◌++◌, append_assoc}
use native.Mathlib.Omega.{arith}
use lib.ListN.{length, take, length-append, length-take}
use borrow.Author.Tests.{lt-ltb}
use Rattle.std.specs.Prelude.{None}
use Rattle.listing.specs.Listing.{Line, steps_line, refused_line}
use Rattle.listing.proofs.Listing.{line_short}
use Rattle.clock.specs.Triggers.{Trigger}
use Rattle.clock.specs.declared.length.Times.{Times}
use Rattle.stops.specs.Stops.{stops_at, stops, stops_above}
use Rattle.model.specs.declared.project.Project.{Project}
use Rattle.tables.specs.Tables.{tables_ok}
use Rattle.tables.proofs.Fits.{tables_fit}
use Rattle.simulation.specs.Steps.{times_of, triggers_of}
use Rattle.image.specs.declared.walk.Decoded.{Decoded}
use Rattle.stops_ahead.specs.Foreseen.{stops_foreseen, stops_of}
use Rattle.timetable_chunk.specs.Timetable.{lines_text, none_line, stops_text, timetable, printed}
use Rattle.timetable_chunk.specs.Chunks.{last_of, counted, given_text, last_chunk, given_chunk, given, chunk_text, chunk_of, Chunked, last, more}
use Rattle.timetable_chunk.proofs.Lines.{lines_append, lines_short}

-- ---- the first k of some stops, and those above the last of these
module _ {L : Type 0} (o : Times) (ts : List (Trigger L)) where
  record Parted (t n k : ℕ) (us : List ℕ) : Type 0 where
    most : last_of t (take k us) ≤ t + n
    far : t + length (take k us) ≤ last_of t (take k us)
    split : us ≡ take k us ++ stops o ts (last_of t (take k us)) (t + n - last_of t (take k us))

  none_parted : (t n k : ℕ) (us : List ℕ) → us ≡ stops o ts t n → take k us ≡ [] → Parted t n k us
  unfolding last_of
  none_parted t n k us e z =
      let q : t + n - t ≡ n = omega arith in
      record { most = rw z (omega arith); far = rw z (omega arith); split = rw z (rw q e) }

  found : (t n k : ℕ) (us : List ℕ) → Parted (suc t) n k us → Parted t (suc n) (suc k) (suc t ∷ us)
  unfolding last_of
  found t n k us h =
      let z = last_of (suc t) (take k us) in
      let q : t + suc n - z ≡ suc t + n - z = omega arith in
      record {
        most = omega (arith, h.most);
        far = omega (arith, h.far);
        split = ap (λ (vs : List ℕ). suc t ∷ vs) (h.split ∙ rw q);
      }

  passed : (t n k : ℕ) (us : List ℕ) → us ≡ stops o ts t (suc n) → Parted (suc t) n (suc k) us → Parted t (suc n) (suc k) us
  unfolding last_of
  passed t n k [] e h = none_parted t (suc n) (suc k) [] e refl
  passed t n k (u ∷ us) e h =
      let z = last_of u (take k us) in
      let q : t + suc n - z ≡ suc t + n - z = omega arith in
      record { most = omega (arith, h.most); far = omega (arith, h.far); split = h.split ∙ rw q }

  parted : (t n k : ℕ) → Parted t n k (stops o ts t n)
  unfolding stops
  parted t n zero = none_parted t n zero (stops o ts t n) refl refl
  parted t zero (suc k) = none_parted t zero (suc k) [] refl refl
  parted t (suc n) (suc k) = go (parted (suc t) n k) (parted (suc t) n (suc k)) (stops_at o ts (suc t)) refl
    where
      next : List ℕ
      next = stops o ts (suc t) n

      go : Parted (suc t) n k next → Parted (suc t) n (suc k) next → (b : Bool) → stops_at o ts (suc t) ≡ b → Parted t (suc n) (suc k) (cond b (suc t ∷ next) next)
      go one all true e = found t n k next one
      go one all false e = passed t n k next (rw e) all

-- ---- one chunk
module _ (p : Project) (t n : ℕ) where
  over_text : (chunk_of p t n).over ≡ true → chunk_text p t n ≡ timetable p t n
  unfolding chunk_of chunk_text timetable stops_text lines_text
  over_text = go (tables_ok p) (stops_foreseen p) (stops_of p t)
    where
      go : (a b : Bool) (us : List ℕ)
          → (cond a (cond b (given_chunk (take 4096 us) t n) (last_chunk (length none_line) t n)) (last_chunk (length (refused_line 10)) t n)).over ≡ true
          → cond a (cond b (given_text (take 4096 us) n) none_line) (refused_line 10) ≡ cond a (cond b (lines_text us ++ steps_line (n + length us)) none_line) (refused_line 10)
      go true true [] e = let q : n ≡ n + 0 = omega arith in ap steps_line q
      go true true (u ∷ us) e = absurd (true≢false (sym e))
      go true false us e = refl
      go false b us e = refl

  record Served : Type 0 where
    tables : tables_ok p ≡ true
    foreseen : stops_foreseen p ≡ true
    going : (given_chunk (given p t) t n).over ≡ false

  served : (chunk_of p t n).over ≡ false → Served
  unfolding chunk_of
  served = go (tables_ok p) (stops_foreseen p) refl refl
    where
      go : (a b : Bool) → tables_ok p ≡ a → stops_foreseen p ≡ b
          → (cond a (cond b (given_chunk (given p t) t n) (last_chunk (length none_line) t n)) (last_chunk (length (refused_line 10)) t n)).over ≡ false → Served
      go true true e f g = record { tables = e; foreseen = f; going = g }
      go true false e f g = absurd (true≢false g)
      go false b e f g = absurd (true≢false g)

record Going (us : List ℕ) (t n : ℕ) : Type 0 where
  some : 0 < length us
  instant : (given_chunk us t n).instant ≡ last_of t us
  count : (given_chunk us t n).count ≡ counted n (length us)
  text : given_text us n ≡ lines_text us

going_given : (us : List ℕ) (t n : ℕ) → (given_chunk us t n).over ≡ false → Going us t n
unfolding last_of
going_given [] t n e = absurd (true≢false e)
going_given (u ∷ us) t n e = record { some = omega arith; instant = refl; count = refl; text = refl }

-- some stops, and then the rest of the timetable
joined : (all us rest text : List ℕ) (n count : ℕ) → all ≡ us ++ rest → text ≡ lines_text us → count ≡ n + length us
    → text ++ (lines_text rest ++ steps_line (count + length rest)) ≡ lines_text all ++ steps_line (n + length all)
joined all us rest text n count e q c =
    let k : count + length rest ≡ n + length all = omega (arith, c, ap length e, length-append us rest) in
    rw (q, k) (sym (append_assoc (lines_text us) (lines_text rest) (steps_line (n + length all))))
    ∙ ap (λ (x : List ℕ). x ++ steps_line (n + length all)) (sym (lines_append us rest) ∙ ap lines_text (sym e))

-- what a chunk writes, and what is then left to write, are what was left before; and no more stops lie up to an instant than it has seconds
record Onward (p : Project) (t n : ℕ) : Type 0 where
  text : chunk_text p t n ++ timetable p (chunk_of p t n).instant (chunk_of p t n).count ≡ timetable p t n
  few : (chunk_of p t n).count ≤ (chunk_of p t n).instant

onward : (p : Project) (t n : ℕ) → n ≤ t → Served p t n → Onward p t n
unfolding chunk_text chunk_of timetable stops_text stops_of stops_above times_of
onward p t n few s =
    let o = times_of p in
    let h = parted o (triggers_of p) t (o.duration - t) 4096 in
    let g = going_given (given p t) t n s.going in
    let early : t < o.duration = omega (arith, h.far, h.most, g.some) in
    let left : t + (o.duration - t) - last_of t (given p t) ≡ o.duration - last_of t (given p t) = omega arith in
    let count : counted n (length (given p t)) ≡ n + length (given p t) =
    rw (lt-ltb (n + length (given p t)) (2 ^ 32) (omega (arith, h.far, h.most, (tables_fit p s.tables).options.duration))) in
    record {
      text = rw (s.tables, s.foreseen, g.instant)
          (joined (stops_of p t) (given p t) (stops_of p (last_of t (given p t))) (given_text (given p t) n) n (given_chunk (given p t) t n).count (h.split ∙ rw left) g.text (g.count ∙ count));
      few = rw (s.tables, s.foreseen, g.instant, g.count, count) (omega (arith, h.far));
    }

-- a chunk with more after it has come further, and no further than a run lasts
pub chunk_later : (p : Project) (t n : ℕ) → (chunk_of p t n).over ≡ false → (t < (chunk_of p t n).instant) × ((chunk_of p t n).instant ≤ 315360000)
unfolding chunk_of stops_of stops_above times_of
chunk_later p t n e =
    let s = served p t n e in
    let h = parted (times_of p) (triggers_of p) t ((times_of p).duration - t) 4096 in
    let g = going_given (given p t) t n s.going in
    rw (s.tables, s.foreseen, g.instant)
    (omega (arith, h.far, g.some), omega (arith, h.far, h.most, g.some, (tables_fit p s.tables).options.duration))

-- and it fits the buffer
given_short : (us : List ℕ) (t n : ℕ) → length us ≤ 4096 → (given_chunk us t n).written ≤ 65536
given_short [] t n l = omega (arith, line_short (Line.finished n))
given_short (u ∷ us) t n l = omega (arith, lines_short (u ∷ us))

pub chunk_short : (p : Project) (t n : ℕ) → (chunk_of p t n).written ≤ 65536
unfolding chunk_of
chunk_short p t n = go (tables_ok p) (stops_foreseen p)
  where
    go : (a b : Bool) → (cond a (cond b (given_chunk (given p t) t n) (last_chunk (length none_line) t n)) (last_chunk (length (refused_line 10)) t n)).written ≤ 65536
    go true true = given_short (given p t) t n (omega (arith, length-take 4096 (stops_of p t)))
    go true false = omega arith
    go false b = omega (arith, line_short (Line.refused 10))

-- ---- all of them
pub chunks_are : (p : Project) {instant count : ℕ} {text : List ℕ} → Chunked p instant count text → count ≤ instant → text ≡ timetable p instant count
chunks_are p (last {instant} {count} e) few = over_text p instant count e
chunks_are p (more {instant} {count} {text} e rest) few =
    let w = onward p instant count few (served p instant count e) in
    ap (λ (x : List ℕ). chunk_text p instant count ++ x) (chunks_are p rest w.few) ∙ w.text

-- of an accepted image, from the start: what the program writes is what it is to print
pub printed_is : (d : Decoded) {text : List ℕ} → d.fault ≡ None → Chunked d.project 0 0 text → text ≡ printed d
unfolding printed
printed_is d e c = chunks_are d.project c (omega arith) ∙ rw e
