-- What the program prints for a whole input, put together from what its chunks promise. What carries it: turns in a row are turns at once, and the
-- run is over after duration + 1 of them. Assumes nothing.
use Prim.Native.Nat.{ℕ, zero, suc, ◌+◌, ◌-◌, ◌*◌, ◌≤◌, ◌<◌}
use mathlib.Core.Path.{◌≡◌, refl, sym, ap, ◌∙◌}
use mathlib.Core.Bool.{Bool, true, false, cond}
use mathlib.Core.List.{List, [], ◌++◌, append_assoc}
use native.Mathlib.Nat.{add_comm, add-suc, add-zero}
use native.Mathlib.Omega.{arith}
use borrow.Author.Tests.{lt-ltb, le-ltb, eq-eqb, ne_eqb}
use lib.ListN.{length, take, drop, length-append, get_or-append}
use lib.Seq.{drop_at}
use Rattle.std.specs.Prelude.{None}
use Rattle.listing.specs.Listing.{Line, header, text_of, refused_line}
use Rattle.listing.proofs.Listing.{text_append}
use Rattle.listing.proofs.Pasting.{pasted_take}
use Rattle.words.specs.Words.{first_words}
use Rattle.words.proofs.Filling.{words_more}
use Rattle.model.specs.declared.project.Project.{Project}
use Rattle.model.specs.declared.state.State.{State}
use Rattle.judge.specs.Judgement.{in_order}
use Rattle.image.specs.Image.{decode, number_of}
use Rattle.image.proofs.Turns.{none_of}
use Rattle.image_accepted.proofs.Accepted.{accepted}
use Rattle.calls.specs.Calls.{start}
use Rattle.calls_sound.proofs.Theorem.{state_of, start_in_order}
use Rattle.demand3.proofs.Lawful.{start_accepted}
use Rattle.driver_image.specs.Opening.{image_words}
use Rattle.driver_turn.specs.Turns.{turn}
use Rattle.driver_chunk.specs.declared.Chunk.{Chunk}
use Rattle.driver_chunk.specs.Runs.{Run, joined, next, turns}
use Rattle.driver_chunk.specs.Chunks.{TurnsRan, Chunked}
use Rattle.driver_chunk.proofs.Turning.{Known, known}
use Rattle.driver_printed.specs.Printed.{lines_from, opened, printed}

module _ (p : Project) where
  -- a run that is over stays as it is
  stays : (n : ℕ) (r : Run) → r.over ≡ true → turns n p r ≡ r
  unfolding turns
  stays zero r e = refl
  stays (suc n) r e = rw (stays n r e, e)

  front : (n : ℕ) (r : Run) → turns (suc n) p r ≡ turns n p (next p r)
  unfolding turns
  front zero r = refl
  front (suc n) r = ap (next p) (front n r)

  more_turns : (m n : ℕ) (r : Run) → turns n p (turns m p r) ≡ turns (m + n) p r
  unfolding turns
  more_turns m zero r = rw add-zero
  more_turns m (suc n) r = rw add-suc (ap (next p) (more_turns m n r))

  ends_from : (n : ℕ) (r : Run) → in_order p r.state ≡ true → p.options.duration - r.state.clock.instant < suc n
      → ((q : Run) → in_order p q.state ≡ true → p.options.duration - q.state.clock.instant < n → (turns n p q).over ≡ true) → (turns (suc n) p r).over ≡ true
  ends_from n r h l ih = by_over r.over refl
    where
      k : Known p r.state (length r.left) (turn p r.state r.left)
      k = known p r.state r.left h

      by_last : (b : Bool) → (turn p r.state r.left).last ≡ b → (turns n p (joined r (turn p r.state r.left))).over ≡ true
      by_last true e = ap (λ (x : Run). x.over) (stays n (joined r (turn p r.state r.left)) e) ∙ e
      by_last false e =
          ih (joined r (turn p r.state r.left)) k.ordered
          (omega (arith, k.moves e, (state_of p (turn p r.state r.left).state k.ordered).instant))

      by_over : (b : Bool) → r.over ≡ b → (turns (suc n) p r).over ≡ true
      by_over true e = ap (λ (x : Run). x.over) (stays (suc n) r e) ∙ e
      by_over false e = rw (front n r, e) (by_last (turn p r.state r.left).last refl)

  -- the run ends: each turn but the last moves the clock
  ends : (n : ℕ) (r : Run) → in_order p r.state ≡ true → p.options.duration - r.state.clock.instant < n → (turns n p r).over ≡ true
  ends zero r h l = absurd (omega arith)
  ends (suc n) r h l = ends_from n r h l (ends n)

  -- what holds of a run and of every turn more that it makes, holds of any number of turns
  pub along : (P : Run → Type 0) → ((r : Run) → P r → r.over ≡ false → P (joined r (turn p r.state r.left))) → (r : Run) → P r → (n : ℕ) → P (turns n p r)
  unfolding turns
  along P step r h zero = h
  along P step r h (suc n) = by_over (turns n p r) (along P step r h n) (turns n p r).over refl
    where
      by_over : (q : Run) → P q → (b : Bool) → q.over ≡ b → P (cond b q (joined q (turn p q.state q.left)))
      by_over q k true e = k
      by_over q k false e = step q k e

  pub run_ends : (r : Run) → in_order p r.state ≡ true → (turns (suc p.options.duration) p r).over ≡ true
  run_ends r h = ends (suc p.options.duration) r h (omega arith)

  over_lines : (r : Run) → r.over ≡ true → lines_from p r ≡ r.lines
  unfolding lines_from
  over_lines r e = ap (λ (x : Run). x.lines) (stays (suc p.options.duration) r e)

  -- turns change nothing of the lines in all
  turns_lines : (n : ℕ) (r : Run) → in_order p r.state ≡ true → lines_from p (turns n p r) ≡ lines_from p r
  unfolding lines_from
  turns_lines n r h =
      let last : ℕ = suc p.options.duration in
      let over : (turns last p r).over ≡ true = run_ends r h in
      ap (λ (x : Run). x.lines)
      (more_turns n last r ∙ ap (λ (m : ℕ). turns m p r) (add_comm n last) ∙ sym (more_turns last n r) ∙ stays n (turns last p r) over)

  module _ {s : State} {input : List ℕ} {whole : Bool} {before after : List ℕ} {r : Chunk} (a : TurnsRan p s input whole before after r) where
    -- a chunk: the lines of the whole run are those that it had, those in the buffer, and those from there on
    chunk_lines : in_order p s ≡ true → (rest : List ℕ) (had : List Line) → (whole ≡ true → rest ≡ [])
        → lines_from p (record { state = s; left = input ++ rest; lines = had; over = false })
        ≡ lines_from p (record { state = r.state; left = drop r.used input ++ rest; lines = had ++ a.lines; over = r.over })
    chunk_lines h rest had w =
        sym (turns_lines a.count (record { state = s; left = input ++ rest; lines = had; over = false }) h) ∙ ap (lines_from p) (a.ran rest had w)

    -- what it writes is the text of its lines
    chunk_text_lem : take r.written after ≡ text_of a.lines
    chunk_text_lem =
        let fits : 0 + length (text_of a.lines) ≤ length before = omega (arith, a.written, a.room) in
        let all : r.written ≡ 0 + length (text_of a.lines) = omega (arith, a.written) in
        ap (take r.written) a.made ∙ rw all (pasted_take before 0 (text_of a.lines) fits)

  -- in whatever chunks the run is made, the texts join up
  chunks_join : {s : State} {bytes text : List ℕ} → Chunked p s bytes text → in_order p s ≡ true → (had : List Line)
      → text_of (lines_from p (record { state = s; left = bytes; lines = had; over = false })) ≡ text_of had ++ text
  chunks_join {s} (Chunked.last {input = input} {rest = rest} {r = r} a w z) h had =
      ap text_of (chunk_lines a h rest had w ∙ over_lines (record { state = r.state; left = drop r.used input ++ rest; lines = had ++ a.lines; over = r.over }) z)
      ∙ text_append had a.lines
      ∙ rw (chunk_text_lem a)
  chunks_join {s} (Chunked.more {input = input} {rest = rest} {r = r} {text = text} a w z c) h had =
      ap text_of
      (chunk_lines a h rest had w
      ∙ ap (λ (o : Bool). lines_from p (record { state = r.state; left = drop r.used input ++ rest; lines = had ++ a.lines; over = o })) z)
      ∙ chunks_join c a.ordered (had ++ a.lines)
      ∙ rw (text_append had a.lines, append_assoc, chunk_text_lem a)

-- ---- the count and the image
-- what is refused at the first four bytes, or at an image that is cut, prints one line
pub count_refused : (input : List ℕ) → image_words input ≡ 0 → printed input ≡ refused_line 1
unfolding printed
count_refused input e = rw (eq-eqb (image_words input) 0 e)

pub image_cut : (input : List ℕ) → length input < 4 + image_words input * 4 → (image_words input ≡ 0 → ⊥) → printed input ≡ refused_line 1
unfolding printed
image_cut input h e = rw (ne_eqb (image_words input) 0 e, lt-ltb (length input) (4 + image_words input * 4) h)

-- the count is told by the first four bytes
count_front : (head rest : List ℕ) → length head ≡ 4 → image_words (head ++ rest) ≡ image_words head
unfolding image_words
count_front head rest e =
    let a : 0 < length head = omega arith in
    let b : 1 < length head = omega arith in
    let c : 2 < length head = omega arith in
    let d : 3 < length head = omega arith in
    let n : 4 ≤ length head = omega arith in
    let m : 4 ≤ length (head ++ rest) = omega (arith, length-append head rest) in
    rw (le-ltb (length head) 4 n, le-ltb (length (head ++ rest)) 4 m, get_or-append head rest 0 0 a, get_or-append head rest 0 1 b, get_or-append head rest 0 2 c, get_or-append head rest 0 3 d)

module _ (head image rest : List ℕ) (e : length head ≡ 4) (z : image_words head ≡ 0 → ⊥) (k : length image ≡ image_words head * 4) where
  -- an image that is whole: the program goes on with what comes after it
  image_whole : printed (head ++ (image ++ rest)) ≡ opened (decode (first_words (image_words head) image)) rest
  unfolding printed
  image_whole =
      let input : List ℕ = head ++ (image ++ rest) in
      let n : image_words input ≡ image_words head = count_front head (image ++ rest) e in
      let long : 4 + image_words head * 4 ≤ length input = omega (arith, length-append head (image ++ rest), length-append image rest) in
      let words : image_words head * 4 ≤ length image = omega arith in
      let after-head : drop 4 input ≡ image ++ rest = drop_at head (image ++ rest) 4 e in
      let size : length (head ++ image) ≡ 4 + image_words head * 4 = omega (arith, length-append head image) in
      let after-image : drop (4 + image_words head * 4) input ≡ rest =
      ap (drop (4 + image_words head * 4)) (sym (append_assoc head image rest)) ∙ drop_at (head ++ image) rest (4 + image_words head * 4) size in
      rw (n, ne_eqb (image_words head) 0 z, le-ltb (length input) (4 + image_words head * 4) long, after-head, after-image, words_more (image_words head) image rest words)

  pub image_refused : ((decode (first_words (image_words head) image)).fault ≡ None → ⊥)
      → printed (head ++ (image ++ rest)) ≡ refused_line (number_of (decode (first_words (image_words head) image)).fault)
  unfolding opened
  image_refused f =
      let fault = (decode (first_words (image_words head) image)).fault in
      image_whole ∙ rw (ne_eqb (number_of fault) 0 (λ z. f (none_of fault z)))

  -- the header and the texts of the chunks from the start on
  pub image_accepted : (decode (first_words (image_words head) image)).fault ≡ None → {text : List ℕ}
      → Chunked (decode (first_words (image_words head) image)).project (start (decode (first_words (image_words head) image)).project).state rest text
      → printed (head ++ (image ++ rest)) ≡ header ++ text
  unfolding opened text_of
  image_accepted f {text} c =
      let d = decode (first_words (image_words head) image) in
      let o = start_in_order d.project (start_accepted d.project (accepted (first_words (image_words head) image) f)) in
      image_whole ∙ rw f (ap (λ (t : List ℕ). header ++ t) (chunks_join d.project c o []))
