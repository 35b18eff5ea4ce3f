-- What is known of every turn: by soundness it leaves a state in order, and every turn but the last moves the clock. Assumes nothing.
use Prim.Native.Nat.{ℕ, ◌+◌, ◌-◌, ◌≤◌, ◌<◌}
use mathlib.Core.Path.{◌≡◌, refl, sym, ap, ◌∙◌}
use mathlib.Core.Bool.{true, false, cond, true≢false}
use mathlib.Core.List.{List, ◌++◌}
use native.Mathlib.Omega.{arith}
use borrow.Author.Tests.{lt-ltb, le-ltb, ne_eqb}
use lib.Dec.{ltb}
use lib.ListN.{length, length-append}
use Rattle.clock.proofs.Lengths.{length_positive}
use Rattle.clock.proofs.Tests.{ltb_ind, eqb_ind}
use Rattle.clock.specs.Triggers.{length_at}
use Rattle.clock.specs.declared.hand.Clock.{Clock}
use Rattle.listing.specs.Listing.{Line}
use Rattle.words.specs.Words.{first_words}
use Rattle.words.proofs.Filling.{words_more}
use Rattle.model.specs.declared.project.Project.{Project}
use Rattle.model.specs.declared.state.State.{State}
use Rattle.judge.specs.Judgement.{in_order}
use Rattle.simulation.specs.Steps.{times_of, triggers_of, moment_of}
use Rattle.simulation.proofs.Accepted.{accepted_times}
use Rattle.calls.specs.Calls.{patterns, controls, load, tank_links, step}
use Rattle.calls_sound.proofs.Theorem.{load_in_order, tank_links_in_order}
use Rattle.calls_sound.proofs.Step.{step_in_order}
use Rattle.list_words.specs.Calls as asking
use Rattle.demand3.specs.Calls.{outcome}
use Rattle.demand3.proofs.Quiet.{quiet}
use Rattle.demand3.proofs.Lawful.{lawful}
use Rattle.driver_load.specs.Sizes.{load_words, load_bytes}
use Rattle.driver_load.proofs.Inner.{fit}
use Rattle.driver_turn.specs.Turns.{Turn, prepared, step_turn, end_turn, load_turn, input_turn, turn}
use Rattle.driver_turn.proofs.Inner.{prepared_in_order}

-- ---- the calls keep the clock, all but the step
pub prepared_clock : (p : Project) (s : State) → (prepared p s).clock ≡ s.clock
unfolding prepared outcome
prepared_clock p s = quiet p asking.controls (patterns p s).state refl ∙ quiet p asking.patterns s refl

load_clock : (p : Project) (words : List ℕ) (s : State) → (load p words s).state.clock ≡ s.clock
unfolding outcome
load_clock p words s = quiet p (asking.load words) s refl

closed_clock : (p : Project) (s : State) → (tank_links p s).state.clock ≡ s.clock
unfolding outcome
closed_clock p s = quiet p asking.tank_links s refl

-- a step from the instant of s by so many seconds to the state q: what the clock's definition gives at a moment of a state in order
pub record Step (p : Project) (s q : State) (from seconds : ℕ) : Type 0 where
  pub begins : from ≡ s.clock.instant
  pub before : from < p.options.duration
  pub ends : q.clock.instant ≡ from + seconds
  pub some : 0 < seconds
  pub counted : q.clock.count ≡ s.clock.count + 1
  pub moment : State
  pub ordered : in_order p moment ≡ true
  pub long : seconds ≡ length_at (times_of p) (triggers_of p) (moment_of p moment) from

-- a step before the duration is one, from any state with the clock of s
step_moves : (p : Project) (s u : State) → u.clock ≡ s.clock → in_order p u ≡ true → s.clock.instant < p.options.duration
    → Step p s (step p u).state u.clock.instant (step p u).length
unfolding outcome times_of
step_moves p s u same e l =
    let i : u.clock.instant ≡ s.clock.instant = ap (λ (x : Clock). x.instant) same in
    let n : u.clock.count ≡ s.clock.count = ap (λ (x : Clock). x.count) same in
    let k = (lawful p).step asking.step u e refl in
    let m = length_positive (times_of p) (triggers_of p) (moment_of p u) u.clock.instant (accepted_times p (fit p u e)) (omega arith) in
    let some : 0 < (step p u).length = omega (arith, k.length, m) in
    record {
      begins = i;
      before = omega arith;
      ends = k.instant;
      some = some;
      counted = (k.count ∙ rw (lt-ltb 0 (step p u).length some)) ∙ ap (λ (c : ℕ). c + 1) n;
      moment = u;
      ordered = e;
      long = k.length;
    }

-- ---- a turn
-- its line: a step; or at the duration the end, with the count; or the end at a fault
pub data Printed (p : Project) (s : State) : Turn → Type 0 where
  stepped : (q : State) (taken from seconds : ℕ) → Step p s q from seconds → Printed p s (record { state = q; taken = taken; line = Line.step from seconds; last = false })
  finished : (q : State) → p.options.duration ≤ s.clock.instant → Printed p s (end_turn q (Line.finished s.clock.count))
  refused : (q : State) (number : ℕ) → Printed p s (end_turn q (Line.refused number))

pub record Known (p : Project) (s : State) (size : ℕ) (t : Turn) : Type 0 where
  pub ordered : in_order p t.state ≡ true
  pub taken : t.taken ≤ size
  pub moves : t.last ≡ false → s.clock.instant < t.state.clock.instant
  pub stays : t.last ≡ true → t.state.clock ≡ s.clock
  pub printed : Printed p s t

module _ {p : Project} (s q : State) (e : in_order p q ≡ true) (same : q.clock ≡ s.clock) where
  known_step : (size taken : ℕ) → s.clock.instant < p.options.duration → taken ≤ size → Known p s size (step_turn p q taken)
  unfolding step_turn
  known_step size taken l k =
      let closed = (tank_links p q).state in
      let o = tank_links_in_order p q e in
      let m = step_moves p s closed (closed_clock p q ∙ same) o l in
      record {
        ordered = step_in_order p closed o;
        taken = k;
        moves = λ _. omega (arith, m.begins, m.ends, m.some);
        stays = λ z. absurd (true≢false (sym z));
        printed = stepped (step p closed).state taken closed.clock.instant (step p closed).length m;
      }

  known_end : (size : ℕ) (end : Line) → Printed p s (end_turn q end) → Known p s size (end_turn q end)
  known_end size end t = record { ordered = e; taken = omega arith; moves = λ z. absurd (true≢false z); stays = λ _. same; printed = t }

known_load : {p : Project} {s : State} (q : State) (e : in_order p q ≡ true) → q.clock ≡ s.clock → s.clock.instant < p.options.duration
    → (size : ℕ) (words : List ℕ) → load_bytes p ≤ size → Known p s size (load_turn p (load p words q))
unfolding load_turn
known_load {p} {s} q e same l size words k =
    let answer = load p words q in
    let o = load_in_order p q e words in
    let c = load_clock p words q ∙ same in
    eqb_ind (λ b. Known p s size (cond b (step_turn p answer.state (load_bytes p)) (end_turn answer.state (Line.refused answer.number)))) answer.number 0
    (λ _. known_step s answer.state o c size (load_bytes p) l k)
    (λ _. known_end s answer.state o c size (Line.refused answer.number) (refused answer.state answer.number))

known_input : {p : Project} {s : State} (q : State) → in_order p q ≡ true → q.clock ≡ s.clock → s.clock.instant < p.options.duration
    → (bytes : List ℕ) → Known p s (length bytes) (input_turn p q bytes)
unfolding input_turn
known_input {p} {s} q e same l bytes =
    let words = first_words (load_words p) bytes in
    eqb_ind (λ b. Known p s (length bytes) (cond b (step_turn p q 0) (cond (ltb (length bytes) (load_bytes p)) (end_turn q (Line.refused 7)) (load_turn p (load p words q))))) (length bytes) 0
    (λ _. known_step s q e same (length bytes) 0 l (omega arith))
    (λ _.
    ltb_ind (λ b. Known p s (length bytes) (cond b (end_turn q (Line.refused 7)) (load_turn p (load p words q)))) (length bytes) (load_bytes p)
    (λ _. known_end s q e same (length bytes) (Line.refused 7) (refused q 7))
    (λ k. known_load q e same l (length bytes) words k))

pub known : (p : Project) (s : State) (bytes : List ℕ) → in_order p s ≡ true → Known p s (length bytes) (turn p s bytes)
unfolding turn
known p s bytes e =
    ltb_ind (λ b. Known p s (length bytes) (cond b (input_turn p (prepared p s) bytes) (end_turn s (Line.finished s.clock.count)))) s.clock.instant p.options.duration
    (λ l. known_input (prepared p s) (prepared_in_order p s e) (prepared_clock p s) l bytes)
    (λ l. known_end s s e refl (length bytes) (Line.finished s.clock.count) (finished s l))

-- ---- what a turn does not look at
-- a turn that has its load at hand does not look further
load_bytes_lem : (p : Project) → 4 ≤ load_bytes p
unfolding load_words
load_bytes_lem p = omega arith

pub turn_more : (p : Project) (s : State) (bytes more : List ℕ) → load_bytes p ≤ length bytes → turn p s (bytes ++ more) ≡ turn p s bytes
unfolding turn input_turn
turn_more p s bytes more k =
    let four = load_bytes_lem p in
    let longer : length (bytes ++ more) ≡ length bytes + length more = length-append bytes more in
    let some : length bytes ≡ 0 → ⊥ = λ z. omega arith in
    let some' : length (bytes ++ more) ≡ 0 → ⊥ = λ z. omega arith in
    let k' : load_bytes p ≤ length (bytes ++ more) = omega arith in
    rw (ne_eqb (length bytes) 0 some, ne_eqb (length (bytes ++ more)) 0 some', le-ltb (length bytes) (load_bytes p) k, le-ltb (length (bytes ++ more)) (load_bytes p) k', words_more (load_words p) bytes more k)

-- at the duration a turn looks at none
pub turn_done : (p : Project) (s : State) (bytes more : List ℕ) → p.options.duration ≤ s.clock.instant → turn p s bytes ≡ turn p s more
unfolding turn
turn_done p s bytes more l = rw (le-ltb s.clock.instant p.options.duration l)
