-- A turn case by case, as the code makes it: with the calls' inner functions, and the line that it has put. Assumes nothing.
use Prim.Native.Nat.{ℕ, ◌+◌, ◌*◌, ◌≤◌, ◌<◌}
use mathlib.Core.Path.{◌≡◌, refl, sym, ap, ◌∙◌, subst}
use mathlib.Core.Bool.{true, false}
use mathlib.Core.List.{List}
use native.Mathlib.Omega.{arith}
use borrow.Author.Tests.{lt-ltb, le-ltb, eq-eqb, ne_eqb}
use lib.ListN.{length}
use Rattle.listing.specs.Listing.{Line, line_text}
use Rattle.listing.specs.Text as text
use Rattle.listing.proofs.Listing.{line_short}
use Rattle.listing.proofs.Pasting.{Put, put_fits}
use Rattle.words.specs.Words.{first_words}
use Rattle.model.specs.declared.project.Project.{Project}
use Rattle.model.specs.declared.state.State.{State}
use Rattle.judge.specs.Judgement.{in_order}
use Rattle.solver.specs.Closing.{update_tank_links}
use Rattle.simulation.specs.Steps.{next_hydraulic_timestep}
use Rattle.simulation.specs.declared.step.Stepped.{Stepped}
use Rattle.calls.specs.Calls.{load, tank_links, step}
use Rattle.calls.specs.declared.Called.{Called}
use Rattle.calls_sound.proofs.Theorem.{tank_links_in_order, load_in_order}
use Rattle.driver_load.specs.Sizes.{load_words, load_bytes}
use Rattle.driver_turn.specs.Turns.{Turn, prepared, step_turn, end_turn, finished_turn, refused_turn, load_turn, input_turn, turn}
use Rattle.driver_turn.specs.Turned.{Turned, TurnedAs}
use Rattle.driver_turn.proofs.Inner.{tank_links_inner, step_length_inner, step_state_inner}

-- ---- which turn it is
module _ (p : Project) (s : State) (bytes : List ℕ) where
  pub turn_finished : p.options.duration ≤ s.clock.instant → turn p s bytes ≡ finished_turn s
  unfolding turn
  turn_finished l = rw (le-ltb s.clock.instant p.options.duration l)

  pub turn_goes : s.clock.instant < p.options.duration → {ready : State} → ready ≡ prepared p s → turn p s bytes ≡ input_turn p ready bytes
  unfolding turn
  turn_goes l {ready} e = rw (lt-ltb s.clock.instant p.options.duration l) (ap (λ (x : State). input_turn p x bytes) (sym e))

  pub input_none : length bytes ≡ 0 → input_turn p s bytes ≡ step_turn p s 0
  unfolding input_turn
  input_none z = rw (eq-eqb (length bytes) 0 z)

  module _ (some : length bytes ≡ 0 → ⊥) {words : ℕ} (n : words ≡ load_words p) where
    pub input_cut : length bytes < words * 4 → input_turn p s bytes ≡ refused_turn s 7
    unfolding input_turn
    input_cut k =
        let cut : length bytes < load_bytes p = rw (← n) k in
        rw (ne_eqb (length bytes) 0 some, lt-ltb (length bytes) (load_bytes p) cut)

    module _ (k : words * 4 ≤ length bytes) {answer : Called} (m : answer ≡ load p (first_words (load_words p) bytes) s) where
      input_load : input_turn p s bytes ≡ load_turn p answer
      unfolding input_turn
      input_load =
          let whole : load_bytes p ≤ length bytes = rw (← n) k in
          rw (ne_eqb (length bytes) 0 some, le-ltb (length bytes) (load_bytes p) whole) (ap (load_turn p) (sym m))

      pub input_taken : answer.number ≡ 0 → input_turn p s bytes ≡ step_turn p answer.state (words * 4)
      unfolding load_turn
      input_taken z = input_load ∙ rw (eq-eqb answer.number 0 z) (ap (λ (x : ℕ). step_turn p answer.state (x * 4)) (sym n))

      pub input_refused : (answer.number ≡ 0 → ⊥) → input_turn p s bytes ≡ refused_turn answer.state answer.number
      unfolding load_turn
      input_refused z = input_load ∙ rw (ne_eqb answer.number 0 z)

      pub answer_in_order : in_order p s ≡ true → in_order p answer.state ≡ true
      answer_in_order e = rw m (load_in_order p s e (first_words (load_words p) bytes))

-- ---- a turn that was made, and its line
pub turned_as : {t u : Turn} {at : ℕ} {before after : List ℕ} {r : Turned} → t ≡ u → TurnedAs u at before after r → TurnedAs t at before after r
turned_as {t} {u} {at} {before} {after} {r} e h = subst (λ (x : Turn). TurnedAs x at before after r) (sym e) h

module _ {at : ℕ} {before after : List ℕ} {end : ℕ} (room : at + 22 ≤ length before) where
  line_put : (l : Line) → end ≡ text.after before at (line_text l) → after ≡ text.put before at (line_text l) → Put before at (line_text l) after end
  line_put l e q = put_fits (line_text l) (omega (arith, line_short l)) e q

  pub ended_as : (s : State) (l : Line) → end ≡ text.after before at (line_text l) → after ≡ text.put before at (line_text l)
      → TurnedAs (end_turn s l) at before after (record { state = s; taken = 0; at = end; last = true })
  ended_as s l e q =
      let v = line_put l e q in
      record { state = refl; taken = refl; last = refl; text = v.made; place = v.place; room = v.room }

  pub stepped_as : (s : State) (taken : ℕ) (l : Line) → end ≡ text.after before at (line_text l) → after ≡ text.put before at (line_text l)
      → TurnedAs (record { state = s; taken = taken; line = l; last = false }) at before after (record { state = s; taken = taken; at = end; last = false })
  stepped_as s taken l e q =
      let v = line_put l e q in
      record { state = refl; taken = refl; last = refl; text = v.made; place = v.place; room = v.room }

-- the state that a step is asked on
pub closed_is : (p : Project) (s : State) → in_order p s ≡ true → {closed : State} → closed ≡ update_tank_links p s → (tank_links p s).state ≡ closed
closed_is p s e {closed} c = tank_links_inner p s e ∙ sym c

pub closed_in_order : (p : Project) (s : State) → in_order p s ≡ true → {closed : State} → closed ≡ update_tank_links p s → in_order p closed ≡ true
closed_in_order p s e {closed} c = subst (λ (x : State). in_order p x ≡ true) (closed_is p s e c) (tank_links_in_order p s e)

pub step_turn_is : (p : Project) (s : State) (taken : ℕ) → in_order p s ≡ true → {closed : State} → closed ≡ update_tank_links p s → {t : Stepped} → t ≡ next_hydraulic_timestep p closed
    → step_turn p s taken ≡ record { state = t.state; taken = taken; line = Line.step closed.clock.instant t.length; last = false }
unfolding step_turn
step_turn_is p s taken e {closed} c {t} d =
    let o = closed_in_order p s e c in
    let a : (step p closed).state ≡ t.state = step_state_inner p closed o ∙ ap (λ (x : Stepped). x.state) (sym d) in
    let b : (step p closed).length ≡ t.length = step_length_inner p closed o ∙ ap (λ (x : Stepped). x.length) (sym d) in
    ap (λ (x : State). record { state = (step p x).state; taken = taken; line = Line.step x.clock.instant (step p x).length; last = false }) (closed_is p s e c)
    ∙ ap (λ (x : State). record { state = x; taken = taken; line = Line.step closed.clock.instant (step p closed).length; last = false }) a
    ∙ ap (λ (n : ℕ). record { state = t.state; taken = taken; line = Line.step closed.clock.instant n; last = false }) b

pub step_made : (p : Project) (s : State) (taken : ℕ) → in_order p s ≡ true → {closed : State} → closed ≡ update_tank_links p s → {t : Stepped} → t ≡ next_hydraulic_timestep p closed
    → {at : ℕ} {before after : List ℕ} {end : ℕ} → at + 22 ≤ length before
    → end ≡ text.after before at (line_text (Line.step closed.clock.instant t.length)) → after ≡ text.put before at (line_text (Line.step closed.clock.instant t.length))
    → TurnedAs (step_turn p s taken) at before after (record { state = t.state; taken = taken; at = end; last = false })
step_made p s taken e {closed} c {t} d room q w =
    turned_as (step_turn_is p s taken e c d) (stepped_as room t.state taken (Line.step closed.clock.instant t.length) q w)
