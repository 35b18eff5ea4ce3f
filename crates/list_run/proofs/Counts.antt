-- What a list's run counts is what demand 3 counts along the list, and fits its words: the sum of the steps is the instant, the moves are the count.
-- Assumes nothing.
use mathlib.Core.Path.{◌≡◌, refl, sym, ap, ◌∙◌}
use mathlib.Core.Bool.{Bool, true, false, cond, not, true≢false}
use mathlib.Core.List.{List, [], ◌∷◌}
use Prim.Native.Nat.{ℕ, ◌+◌, ◌≤◌, ◌<◌, ◌^◌}
use mir.Val.{bool_byte}
use native.Mathlib.Omega.{arith}
use lib.Dec.{eqb, ltb}
use borrow.Author.Tests.{eq-eqb, ne_eqb}
use lib.ListN.{length, drop, length-drop}
use Rattle.clock.proofs.Tests.{ltb_ind}
use Rattle.clock.specs.Machine.{bit, final, asked, answered, times_moved}
use Rattle.model.specs.declared.project.Project.{Project}
use Rattle.model.specs.declared.state.State.{State}
use Rattle.model.proofs.Loops.{both_left, both_right}
use Rattle.tables.specs.Tables.{tables_ok}
use Rattle.tables.proofs.Fits.{tables_fit}
use Rattle.judge.specs.Judgement.{in_order}
use Rattle.calls_sound.proofs.Theorem.{tables_of, state_of}
use Rattle.calls.specs.Calls as calls
use Rattle.calls.specs.Calls.{start}
use Rattle.std.specs.Prelude.{Result, Ok, Err}
use Rattle.calls.specs.declared.refusal.Refusal.{Refusal}
use Rattle.second_clock.specs.SecondClock.{second_applies}
use Rattle.second_clock.proofs.Laws.{second_refused}
use Rattle.list_words.specs.Calls.{Call, patterns, controls, load, tank_links, pressure, premise, step, second, tank_links_by_table, is_step}
use Rattle.list_words.specs.Lists.{call_of, call_length, call_ok, calls_of, list_ok}
use Rattle.list_words.proofs.Lists.{calls_more, ok_more, ok_whole, length_some}
use Rattle.demand3.specs.Calls.{asked as asked_of, outcome}
use Rattle.demand3.specs.Machine.{machine}
use Rattle.demand3.specs.declared.Outcome.{Outcome}
use Rattle.demand3.proofs.Lawful.{lawful}
use Rattle.demand3.proofs.Quiet.{quiet}
use Rattle.demand3.proofs.Theorem.{demand3_of_tables}
use Rattle.list_run.specs.Runs.{none_run, counted, counted_all, Answers}
use Rattle.list_run.specs.declared.ListRun.{ListRun}

-- ---- one call
asked_length : (a : Result Bool Refusal) (s : State) → (asked_of a s).length ≡ 0
asked_length (Ok b) s = refl
asked_length (Err r) s = refl

length_quiet : (p : Project) (c : Call) (s : State) → is_step (second_applies p) c ≡ false → (outcome p c s).length ≡ 0
unfolding outcome
length_quiet p patterns s e = refl
length_quiet p controls s e = refl
length_quiet p (load words) s e = refl
length_quiet p tank_links s e = refl
length_quiet p pressure s e = refl
length_quiet p (premise i) s e = asked_length (calls.premise p i s) s
length_quiet p step s e = absurd (true≢false e)
length_quiet p second s e = (second_refused p s e).0
length_quiet p tank_links_by_table s e = refl

abbrev move_of : ℕ → ℕ → ℕ
move_of after before = bit (not (eqb after before))

still : (after before : ℕ) → after ≡ before → move_of after before ≡ 0
still after before e = rw (eq-eqb after before e)

-- by a length, as a step moves it
moving : (after before length : ℕ) → after ≡ before + length → move_of after before ≡ bit (ltb 0 length)
moving after before length e =
    ltb_ind (λ b. move_of after before ≡ bit b) 0 length (λ l. rw (ne_eqb after before (λ q. omega arith))) (λ l. still after before (omega arith))

module _ (p : Project) (c : Call) (s : State) (k : in_order p s ≡ true) where
  after_instant : (outcome p c s).state.clock.instant ≡ s.clock.instant + (outcome p c s).length
  after_instant = go (is_step (second_applies p) c) refl
    where
      go : (b : Bool) → is_step (second_applies p) c ≡ b → (outcome p c s).state.clock.instant ≡ s.clock.instant + (outcome p c s).length
      go true e = ((lawful p).step c s k e).instant
      go false e = omega (arith, ((lawful p).quiet c s k e).instant, length_quiet p c s e)

  after_count : (outcome p c s).state.clock.count ≡ s.clock.count + move_of (outcome p c s).state.clock.instant s.clock.instant
  after_count = go (is_step (second_applies p) c) refl
    where
      go : (b : Bool) → is_step (second_applies p) c ≡ b → (outcome p c s).state.clock.count ≡ s.clock.count + move_of (outcome p c s).state.clock.instant s.clock.instant
      go true e = omega (arith, ((lawful p).step c s k e).count, moving (outcome p c s).state.clock.instant s.clock.instant (outcome p c s).length after_instant)
      go false e = omega (arith, ((lawful p).quiet c s k e).count, still (outcome p c s).state.clock.instant s.clock.instant ((lawful p).quiet c s k e).instant)

  after_within : (outcome p c s).state.clock.instant ≤ 315360000
  after_within =
      let e = (lawful p).sound c s k in
      let t = tables_fit p (tables_of p (outcome p c s).state e) in
      omega (arith, (state_of p (outcome p c s).state e).instant, t.options.duration)

  after_few : (outcome p c s).state.clock.count ≤ (outcome p c s).state.clock.instant
  after_few = (state_of p (outcome p c s).state ((lawful p).sound c s k)).count

-- a call counted, from its parts
pub counted_is :
    (p : Project) (c : Call) (r : ListRun) (o : Outcome) (n m : ℕ) → o ≡ outcome p c r.state → n ≡ bit (is_step (second_applies p) c)
    → m ≡ r.moves + move_of o.state.clock.instant r.state.clock.instant
    → record { number = r.number; state = o.state; asked = r.asked + n; answered = r.answered + o.length; moves = m } ≡ counted p c r
unfolding counted
counted_is p c r o n m e a q = rw (q, a, e)

-- a truth as a number
pub byte : (b : Bool) → bool_byte b ≡ bit b
byte true = refl
byte false = refl

pub bit_most : (b : Bool) → bit b ≤ 1
bit_most true = omega arith
bit_most false = omega arith

-- the words hold the counts
module _ (p : Project) (c : Call) (r : ListRun) (k : in_order p r.state ≡ true) where
  pub sum_fits : r.answered ≤ r.state.clock.instant → r.answered + (outcome p c r.state).length < 2 ^ 32
  sum_fits l = omega (arith, after_instant p c r.state k, after_within p c r.state k)

  pub moves_fit : r.moves ≤ r.state.clock.count → r.moves + move_of (outcome p c r.state).state.clock.instant r.state.clock.instant < 2 ^ 32
  moves_fit l = omega (arith, after_count p c r.state k, after_few p c r.state k, after_within p c r.state k)

-- ---- the run so far, of the words that are left
pub record Running (p : Project) (r₀ : ListRun) (words rest : List ℕ) (r : ListRun) : Type 0 where
  pub short : length rest ≤ length words
  pub room : r.asked + length rest ≤ length words
  pub whole : list_ok 0 rest ≡ true
  pub order : in_order p r.state ≡ true
  pub sum : r.answered ≤ r.state.clock.instant
  pub moving : r.moves ≤ r.state.clock.count
  pub same : counted_all p (calls_of 0 words) r₀ ≡ counted_all p (calls_of 0 rest) r

pub running : {p : Project} {s : State} {words : List ℕ} {r : ListRun} → in_order p s ≡ true → list_ok 0 words ≡ true → r ≡ none_run 0 s → Running p r words words r
running {p} {s} {words} k e q = rw q (record { short = omega arith; room = omega arith; whole = e; order = k; sum = omega arith; moving = omega arith; same = refl })

module _ {p : Project} {r₀ : ListRun} {words rest : List ℕ} {r : ListRun} (g : Running p r₀ words rest r) (some : 0 < length rest) where
  pub call_whole : call_ok rest ≡ true
  call_whole = both_left _ (list_ok 0 (drop (call_length rest) rest)) (sym (ok_more rest some) ∙ g.whole)

  pub ran_more : {u : ListRun} → u ≡ counted p (call_of rest) r → Running p r₀ words (drop (call_length rest) rest) u
  unfolding counted_all counted
  ran_more {u} e = rw e (
      let fits = ok_whole rest call_whole in
      let left = length-drop (call_length rest) rest in
      let one = length_some rest in
      record {
        short = omega (arith, g.short, left);
        room = omega (arith, g.room, left, one, fits, bit_most (is_step (second_applies p) (call_of rest)));
        whole = both_right (call_ok rest) _ (sym (ok_more rest some) ∙ g.whole);
        order = (lawful p).sound (call_of rest) r.state g.order;
        sum = omega (arith, g.sum, after_instant p (call_of rest) r.state g.order);
        moving = omega (arith, g.moving, after_count p (call_of rest) r.state g.order);
        same = g.same ∙ ap (λ cs. counted_all p cs r) (calls_more rest some);
      })

none_left : (p : Project) (r : ListRun) (ws : List ℕ) → length ws ≡ 0 → counted_all p (calls_of 0 ws) r ≡ r
unfolding counted_all calls_of
none_left p r [] e = refl
none_left p r (w ∷ ws) e = absurd (omega arith)

pub ran_all : {p : Project} {r₀ : ListRun} {words rest : List ℕ} {r : ListRun} → Running p r₀ words rest r → length rest ≡ 0 → r ≡ counted_all p (calls_of 0 words) r₀
ran_all {p} {r₀} {words} {rest} {r} g h = sym (g.same ∙ none_left p r rest h)

-- ---- what was counted along a list
module _ (p : Project) where
  all_state : (cs : List Call) (r : ListRun) → (counted_all p cs r).state ≡ final (machine p) cs r.state
  unfolding counted_all counted final
  all_state [] r = refl
  all_state (c ∷ cs) r = all_state cs (counted p c r)

  all_asked : (cs : List Call) (r : ListRun) → (counted_all p cs r).asked ≡ r.asked + asked (machine p) cs
  unfolding counted_all counted asked
  all_asked [] r = omega arith
  all_asked (c ∷ cs) r = omega (arith, all_asked cs (counted p c r))

  all_answered : (cs : List Call) (r : ListRun) → (counted_all p cs r).answered ≡ r.answered + answered (machine p) cs r.state
  unfolding counted_all counted answered
  all_answered [] r = omega arith
  all_answered (c ∷ cs) r = omega (arith, all_answered cs (counted p c r), answer_is (is_step (second_applies p) c) refl)
    where
      answer_is : (b : Bool) → is_step (second_applies p) c ≡ b → cond b (outcome p c r.state).length 0 ≡ (outcome p c r.state).length
      answer_is true e = refl
      answer_is false e = sym (length_quiet p c r.state e)

  all_moves : (cs : List Call) (r : ListRun) → (counted_all p cs r).moves ≡ r.moves + times_moved (machine p) cs r.state
  unfolding counted_all counted times_moved
  all_moves [] r = omega arith
  all_moves (c ∷ cs) r = omega (arith, all_moves cs (counted p c r))

  pub answers : (cs : List Call) (z : ListRun) → tables_ok p ≡ true → z ≡ counted_all p cs (none_run 0 (start p).state) → Answers p cs z
  answers cs z e q = rw q (record {
    claim = rw (all_state cs (none_run 0 (start p).state)) (demand3_of_tables p e cs);
    asks = omega (arith, all_asked cs (none_run 0 (start p).state));
    sum = omega (arith, all_answered cs (none_run 0 (start p).state));
    moving = omega (arith, all_moves cs (none_run 0 (start p).state));
  })
