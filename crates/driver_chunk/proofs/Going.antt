-- A run of turns on the input at hand, its text put into a buffer. What carries it: a turn looks at no more than what is at hand, and every turn
-- but the last moves the clock. Assumes nothing.
use Prim.Native.Nat.{ℕ, suc, ◌+◌, ◌-◌, ◌≤◌, ◌<◌}
use mathlib.Core.Path.{◌≡◌, refl, sym, ap, ◌∙◌, subst}
use mathlib.Core.Bool.{Bool, true, false, cond, true≢false}
use mathlib.Core.List.{List, [], ◌∷◌, ◌++◌, append-nil, append_assoc}
use mathlib.Core.Logic.{◌⊎◌, inl, inr, ⊎_elim}
use native.Mathlib.Omega.{arith}
use borrow.Author.Tests.{le-leb, le-ltb, ltb-false, leb-true, eqb-true}
use lib.Dec.{ltb, leb, eqb}
use lib.ListN.{length, take, drop, length-drop}
use lib.Seq.{drop-append-le, drop-drop, take_all}
use Rattle.clock.specs.declared.hand.Clock.{Clock}
use Rattle.listing.specs.Listing.{Line, line_text, text_of}
use Rattle.listing.proofs.Pasting.{Put, put_begun, put_then, put_same, put_as}
use Rattle.listing.proofs.Listing.{text_more}
use Rattle.model.specs.declared.project.Project.{Project}
use Rattle.model.specs.declared.state.State.{State}
use Rattle.judge.specs.Judgement.{in_order}
use Rattle.calls_sound.proofs.Theorem.{state_of}
use Rattle.driver_load.specs.Sizes.{load_bytes}
use Rattle.driver_turn.specs.Turns.{Turn, turn}
use Rattle.driver_turn.specs.Turned.{Turned, TurnedAs}
use Rattle.driver_chunk.specs.Runs.{turns}
use Rattle.driver_chunk.specs.Chunks.{wants_input, can_turn, TurnsRan}
use Rattle.driver_chunk.proofs.Turning.{Known, known, turn_more, turn_done}

-- what a turn may count on
pub record Ready (over : Bool) (wants room : ℕ) : Type 0 where
  pub going : over ≡ false
  pub input : wants ≡ 0
  pub fits : 22 ≤ room

pub ready : (over : Bool) (wants room : ℕ) → can_turn over wants room ≡ true → Ready over wants room
ready true wants room e = absurd (true≢false (sym e))
ready false wants room e = tested (eqb wants 0) refl e
  where
    tested : (b : Bool) → eqb wants 0 ≡ b → cond b (leb 22 room) false ≡ true → Ready false wants room
    tested true z q = record { going = refl; input = eqb-true wants 0 z; fits = leb-true 22 room q }
    tested false z q = absurd (true≢false (sym q))

stopped : (over : Bool) (wants room : ℕ) → over ≡ false → 22 ≤ room → can_turn over wants room ≡ false → wants ≡ 0 → ⊥
stopped over wants room z k q w = true≢false (sym (rw (z, w) (le-leb 22 room k)) ∙ q)

-- where a turn waits for nothing
wants_none : (whole : Bool) (duration instant left size : ℕ) → wants_input duration instant whole left size ≡ 0 → (whole ≡ true) ⊎ ((duration ≤ instant) ⊎ (size ≤ left))
wants_none true duration instant left size e = inl refl
wants_none false duration instant left size e = inr (timed (ltb instant duration) refl e)
  where
    measured : (b : Bool) → ltb left size ≡ b → cond b size 0 ≡ 0 → size ≤ left
    measured true l q = omega arith
    measured false l q = ltb-false left size l

    timed : (b : Bool) → ltb instant duration ≡ b → cond b (cond (ltb left size) size 0) 0 ≡ 0 → (duration ≤ instant) ⊎ (size ≤ left)
    timed true l q = inr (measured (ltb left size) refl q)
    timed false l q = inl (ltb-false instant duration l)

-- a turn waits for nothing, or for a load
pub wants_load : (whole : Bool) (duration instant left size : ℕ) → (wants_input duration instant whole left size ≡ 0) ⊎ (wants_input duration instant whole left size ≡ size)
wants_load true duration instant left size = inl refl
wants_load false duration instant left size = tested (ltb instant duration) (ltb left size)
  where
    tested : (b c : Bool) → (cond b (cond c size 0) 0 ≡ 0) ⊎ (cond b (cond c size 0) 0 ≡ size)
    tested true true = inr refl
    tested true false = inl refl
    tested false c = inl refl

enough : (whole : Bool) (duration instant left size : ℕ) → (whole ≡ true) ⊎ (size ≤ left) → wants_input duration instant whole left size ≡ 0
enough true duration instant left size h = refl
enough false duration instant left size (inl z) = absurd (true≢false (sym z))
enough false duration instant left size (inr k) = rw (le-ltb left size k) (same (ltb instant duration))
  where
    same : (b : Bool) → ◌≡◌ {A = ℕ} (cond b 0 0) 0
    same true = refl
    same false = refl

-- the turn that comes next looks at no more than what is at hand
at_hand : (p : Project) (s : State) (bytes more : List ℕ) (whole : Bool) → (whole ≡ true) ⊎ ((p.options.duration ≤ s.clock.instant) ⊎ (load_bytes p ≤ length bytes))
    → (whole ≡ true → more ≡ []) → turn p s (bytes ++ more) ≡ turn p s bytes
at_hand p s bytes more whole (inl w) e = ap (λ (x : List ℕ). turn p s (bytes ++ x)) (e w) ∙ ap (turn p s) (append-nil bytes)
at_hand p s bytes more whole (inr (inl d)) e = turn_done p s (bytes ++ more) bytes d
at_hand p s bytes more whole (inr (inr k)) e = turn_more p s bytes more k

-- the turns so far
pub record Going (p : Project) (s : State) (input : List ℕ) (whole : Bool) (before after : List ℕ) (state : State) (used written : ℕ) (over : Bool) (wants : ℕ) : Type 0 where
  pub count : ℕ
  pub lines : List Line
  pub put : Put before 0 (text_of lines) after written
  pub inside : used ≤ length input
  pub ran :
      (more : List ℕ) (had : List Line) → (whole ≡ true → more ≡ []) →
      turns count p (record { state = s; left = input ++ more; lines = had; over = false })
      ≡ record { state = state; left = drop used input ++ more; lines = had ++ lines; over = over }
  pub ordered : in_order p state ≡ true
  pub waits : wants ≡ wants_input p.options.duration state.clock.instant whole (length input - used) (load_bytes p)
  pub moved : over ≡ false → (s.clock.instant < state.clock.instant) ⊎ ((used ≡ 0) × (written ≡ 0) × (s.clock.instant ≡ state.clock.instant))

put_none : {buf : List ℕ} {at : ℕ} → at ≤ length buf → Put buf at (text_of []) buf at
unfolding text_of
put_none h = put_begun h

pub going_begun : {p : Project} {s : State} {input : List ℕ} {whole : Bool} {before : List ℕ} → in_order p s ≡ true → {size : ℕ} → size ≡ load_bytes p
    → {wants : ℕ} → wants ≡ wants_input p.options.duration s.clock.instant whole (length input) size
    → Going p s input whole before before s 0 0 false wants
unfolding turns
going_begun {p} {s} {input} {whole} {before} h {size} e w =
    let z : length input - 0 ≡ length input = omega arith in
    record {
      count = 0;
      lines = [];
      put = put_none (omega arith);
      inside = omega arith;
      ran = λ more had e. ap (λ (x : List Line). record { state = s; left = input ++ more; lines = x; over = false }) (sym (append-nil had));
      ordered = h;
      waits = w ∙ rw (z, e);
      moved = λ _. inr (refl, refl, refl);
    }

module _ {p : Project} {s : State} {input : List ℕ} {whole : Bool} {before after : List ℕ} {state : State} {used written : ℕ} {over : Bool} {wants : ℕ}
    (g : Going p s input whole before after state used written over wants) where
  pub going_length : length after ≡ length before
  going_length = put_same g.put

  module _ (c : Ready over wants (length after - written)) {later : List ℕ} {r : Turned} (t : TurnedAs (turn p state (drop used input)) written after later r) where
    facts : Known p state (length (drop used input)) (turn p state (drop used input))
    facts = known p state (drop used input) g.ordered

    at_hand_now : (whole ≡ true) ⊎ ((p.options.duration ≤ state.clock.instant) ⊎ (load_bytes p ≤ length (drop used input)))
    at_hand_now =
        ⊎_elim (λ w. inl w) (λ o. inr (⊎_elim (λ d. inl d) (λ k. inr (omega (arith, length-drop used input))) o))
        (wants_none whole p.options.duration state.clock.instant (length input - used) (load_bytes p) (sym g.waits ∙ c.input))

    pub going_inside : used + r.taken ≤ length input
    going_inside = omega (arith, facts.taken, t.taken, length-drop used input, g.inside)

    pub going_less : cond r.last 0 1 + (p.options.duration - r.state.clock.instant) < cond over 0 1 + (p.options.duration - state.clock.instant)
    going_less = rw (c.going, t.last, t.state) (by_last (turn p state (drop used input)).last refl)
      where
        by_last : (b : Bool) → (turn p state (drop used input)).last ≡ b
            → cond b 0 1 + (p.options.duration - (turn p state (drop used input)).state.clock.instant) < 1 + (p.options.duration - state.clock.instant)
        by_last true z = omega (arith, ap (λ (x : Clock). x.instant) (facts.stays z))
        by_last false z = omega (arith, facts.moves z, (state_of p (turn p state (drop used input)).state facts.ordered).instant)

    one_more : (more : List ℕ) (had : List Line) → (whole ≡ true → more ≡ [])
        → turns (suc g.count) p (record { state = s; left = input ++ more; lines = had; over = false })
        ≡ record { state = r.state; left = drop (used + r.taken) input ++ more; lines = had ++ (g.lines ++ ((turn p state (drop used input)).line ∷ [])); over = r.last }
    unfolding turns
    one_more more had w =
        let u : Turn = turn p state (drop used input) in
        let n : u.taken ≤ length (drop used input) = facts.taken in
        rw (g.ran more had w, c.going, at_hand p state (drop used input) more whole at_hand_now w, t.state, t.taken, t.last, drop-append-le u.taken (drop used input) more n, drop-drop, append_assoc)

    pub going_turn : {size : ℕ} → size ≡ load_bytes p → {later-wants : ℕ}
        → later-wants ≡ wants_input p.options.duration r.state.clock.instant whole (length input - (used + r.taken)) size
        → Going p s input whole before later r.state (used + r.taken) r.at r.last later-wants
    going_turn {size} e q =
        record {
          count = suc g.count;
          lines = g.lines ++ ((turn p state (drop used input)).line ∷ []);
          put = put_as (text_more g.lines (turn p state (drop used input)).line) (put_then g.put (line_text (turn p state (drop used input)).line) t.text t.place t.room);
          inside = going_inside;
          ran = one_more;
          ordered = rw t.state facts.ordered;
          waits = q ∙ rw e;
          moved = λ z. inl (past z);
        }
      where
        past : r.last ≡ false → s.clock.instant < r.state.clock.instant
        past z =
            let m = facts.moves (sym t.last ∙ z) in
            rw t.state (⊎_elim (λ b. omega (arith, b, m)) (λ b. omega (arith, b.2, m)) (g.moved c.going))

  -- where it can make no turn and has made none, it waits for input
  pub going_ended : can_turn over wants (length after - written) ≡ false
      → TurnsRan p s input whole before after (record { state = state; used = used; written = written; over = over; wants = wants })
  going_ended stop =
      record {
        count = g.count;
        lines = g.lines;
        made = g.put.made;
        written = omega (arith, g.put.place);
        room = g.put.room;
        used = g.inside;
        ran = g.ran;
        ordered = g.ordered;
        wants = g.waits;
        goes = λ z big. ⊎_elim (λ m. inl m) (λ m. inr (waiting z big m, m.2)) (g.moved z);
        moves = λ z big h. ⊎_elim (λ m. m) (λ m. absurd (waiting z big m (served m h))) (g.moved z);
      }
    where
      waiting : over ≡ false → 22 ≤ length before → (used ≡ 0) × (written ≡ 0) × (s.clock.instant ≡ state.clock.instant) → wants ≡ 0 → ⊥
      waiting z big m = stopped over wants (length after - written) z (omega (arith, m.1, going_length)) stop

      served : (used ≡ 0) × (written ≡ 0) × (s.clock.instant ≡ state.clock.instant) → (whole ≡ true) ⊎ (load_bytes p ≤ length input) → wants ≡ 0
      served m h =
          g.waits
          ∙ enough whole p.options.duration state.clock.instant (length input - used) (load_bytes p) (⊎_elim (λ w. inl w) (λ k. inr (omega (arith, m.0))) h)

-- a turn on the part of the input that is left
pub on_part : (p : Project) (s : State) (input : List ℕ) (used : ℕ) {at : ℕ} {before after : List ℕ} {r : Turned}
    → TurnedAs (turn p s (take (length input - used) (drop used input))) at before after r → TurnedAs (turn p s (drop used input)) at before after r
on_part p s input used {at} {before} {after} {r} t =
    let k : length (drop used input) ≤ length input - used = omega (arith, length-drop used input) in
    subst (λ (x : List ℕ). TurnedAs (turn p s x) at before after r) (take_all (length input - used) (drop used input) k) t
