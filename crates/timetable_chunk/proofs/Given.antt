-- The chunk of some stops, and of an answer for a list of them. Assumes nothing.
use Prim.Native.Nat.{ℕ, ◌-◌, ◌≤◌}
use mathlib.Core.Path.{◌≡◌, refl, ◌∙◌}
use mathlib.Core.Bool.{Bool, true, false, cond, ◌&&◌}
use mathlib.Core.List.{List, [], ◌∷◌}
use native.Mathlib.Omega.{arith}
use lib.ListN.{length, take, drop, get_or, length-append, length-drop, length-take}
use lib.Seq.{take_at}
use Rattle.listing.specs.Listing.{steps_line, refused_line}
use Rattle.listing.specs.Text.{put, after, pasted}
use Rattle.listing.proofs.Pasting.{put_fits}
use Rattle.model.specs.declared.project.Project.{Project}
use Rattle.tables.specs.Tables.{tables_ok}
use Rattle.stops_ahead.specs.Foreseen.{stops_foreseen, stops_of, next_stops, stops_given, fronted, stops_written}
use Rattle.std.specs.Prelude.{Ok, Err}
use Rattle.stops_ahead.specs.declared.next.NoStops.TheVariants.{Unforeseen, Refused}
use Rattle.timetable_chunk.specs.Timetable.{lines_text, none_line}
use Rattle.timetable_chunk.specs.Answers.{Within, answer_text, answer_chunk}
use Rattle.timetable_chunk.specs.Chunks.{last_of, counted, last_chunk, given_text, given_chunk, chunk_text, chunk_of}
use Rattle.timetable_chunk.specs.declared.Chunk.{Chunk}

-- ---- one line, with room
pub line_put : (text before : List ℕ) {now : List ℕ} {k : ℕ} → length text ≤ 22 → 22 ≤ length before → k ≡ after before 0 text → now ≡ put before 0 text
    → (k ≡ length text) × (now ≡ pasted before 0 text)
line_put text before l room e q = let p = put_fits {buf = before} {at = 0} text (omega arith) e q in (p.place ∙ omega arith, p.made)

-- ---- some stops
last_at : (u : ℕ) (us : List ℕ) → get_or (u ∷ us) (length us) 0 ≡ last_of u us
unfolding last_of
last_at u [] = refl
last_at u (v ∷ us) = last_at v us

module _ (us : List ℕ) (instant count : ℕ) (before : List ℕ) {k : ℕ} {now : List ℕ} where
  pub none_given : {r : Chunk} → length us ≡ 0 → r ≡ last_chunk k instant count → k ≡ length (steps_line count) → now ≡ pasted before 0 (steps_line count)
      → (r ≡ given_chunk us instant count) × (now ≡ pasted before 0 (given_text us count))
  none_given {r} z e a b = go us z
    where
      go : (us : List ℕ) → length us ≡ 0 → (r ≡ given_chunk us instant count) × (now ≡ pasted before 0 (given_text us count))
      go [] z = (e ∙ rw a, b)
      go (u ∷ us) z = absurd (omega arith)

  pub some_given : {c : ℕ} → (length us ≡ 0 → ⊥) → c ≡ counted count (length us) → k ≡ length (lines_text us) → now ≡ pasted before 0 (lines_text us)
      → (record { written = k; instant = get_or us (length us - 1) 0; count = c; over = false } ≡ given_chunk us instant count) × (now ≡ pasted before 0 (given_text us count))
  some_given {c} n e a b = go us n e a b
    where
      go : (us : List ℕ) → (length us ≡ 0 → ⊥) → c ≡ counted count (length us) → k ≡ length (lines_text us) → now ≡ pasted before 0 (lines_text us)
          → (record { written = k; instant = get_or us (length us - 1) 0; count = c; over = false } ≡ given_chunk us instant count) × (now ≡ pasted before 0 (given_text us count))
      go [] n e a b = absurd (n refl)
      go (u ∷ us) n e a b = let q : length (u ∷ us) - 1 ≡ length us = omega arith in (rw (e, a, q, last_at u us), b)

-- ---- an answer for a list
module _ (p : Project) (instant : ℕ) (old : List ℕ) where
  pub answered_within : Within (next_stops p instant (length old)) (stops_written p instant old)
  unfolding next_stops stops_given stops_written
  answered_within = go (tables_ok p) (stops_foreseen p) (stops_of p instant)
    where
      go : (a b : Bool) (us : List ℕ)
          → Within (cond a (cond b (Ok (length (take (length old) us))) (Err Unforeseen)) (Err (Refused 10))) (fronted (cond (a && b) (take (length old) us) []) old)
      go true true us = omega (arith, length-append (take (length old) us) (drop (length (take (length old) us)) old))
      go true false us = tt
      go false b us = tt

  -- the list that is lent keeps its length
  pub written_same : length (stops_written p instant old) ≡ length old
  unfolding stops_given stops_written
  written_same = go (tables_ok p && stops_foreseen p)
    where
      us : List ℕ
      us = take (length old) (stops_of p instant)

      go : (b : Bool) → length (fronted (cond b us []) old) ≡ length old
      go true = omega (arith, length-append us (drop (length us) old), length-drop (length us) old, length-take (length old) (stops_of p instant))
      go false = refl

  module _ (count : ℕ) (full : length old ≡ 4096) where
    pub answered_text : answer_text (next_stops p instant (length old)) (stops_written p instant old) count ≡ chunk_text p instant count
    unfolding next_stops stops_given stops_written chunk_text
    answered_text = rw (← full) (go (tables_ok p) (stops_foreseen p) (stops_of p instant))
      where
        go : (a b : Bool) (us : List ℕ)
            → answer_text (cond a (cond b (Ok (length (take (length old) us))) (Err Unforeseen)) (Err (Refused 10))) (fronted (cond (a && b) (take (length old) us) []) old) count
            ≡ cond a (cond b (given_text (take (length old) us) count) none_line) (refused_line 10)
        go true true us = rw (take_at (take (length old) us) (drop (length (take (length old) us)) old) (length (take (length old) us)) refl)
        go true false us = refl
        go false b us = refl

    pub answered_chunk : answer_chunk (next_stops p instant (length old)) (stops_written p instant old) instant count ≡ chunk_of p instant count
    unfolding next_stops stops_given stops_written chunk_of
    answered_chunk = rw (← full) (go (tables_ok p) (stops_foreseen p) (stops_of p instant))
      where
        go : (a b : Bool) (us : List ℕ)
            → answer_chunk (cond a (cond b (Ok (length (take (length old) us))) (Err Unforeseen)) (Err (Refused 10))) (fronted (cond (a && b) (take (length old) us) []) old) instant count
            ≡ cond a (cond b (given_chunk (take (length old) us) instant count) (last_chunk (length none_line) instant count)) (last_chunk (length (refused_line 10)) instant count)
        go true true us = rw (take_at (take (length old) us) (drop (length (take (length old) us)) old) (length (take (length old) us)) refl)
        go true false us = refl
        go false b us = refl
