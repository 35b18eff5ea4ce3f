-- A list filled from its start with the stops above an instant. Assumes nothing.
use Prim.Native.Nat.{ℕ, suc, ◌+◌, ◌≤◌, ◌<◌}
use mathlib.Core.Path.{◌≡◌, refl, sym, ◌∙◌}
use mathlib.Core.Logic.{◌⊎◌, inl, inr}
use mathlib.Core.List.{List, [], ◌∷◌, ◌++◌, append-nil}
use mathlib.Core.Bool.{Bool, true, false, ◌&&◌}
use native.Mathlib.Numerals.{add-one}
use native.Mathlib.Omega.{arith}
use lib.Dec.{ltb}
use borrow.Author.Tests.{ltb-true, ltb-false}
use lib.ListN.{length, take, drop, set, get_or, length-append, length-set}
use lib.Seq.{take_all, take_at, drop-cons, set_at, append_snoc}
use Rattle.std.specs.Prelude.{Option}
use Rattle.clock.specs.declared.length.Times.{Times}
use Rattle.model.specs.declared.control.Control.{Control}
use Rattle.model.proofs.Loops.{both_left, both_right}
use Rattle.awaited.specs.Awaited.{time_of, clock_of, triggers_in, notes}
use Rattle.stops.specs.Stops.{stops_above}
use Rattle.stops.proofs.Lists.{above_none}
use Rattle.stops_ahead.specs.Ahead.{next_after, Timely}
use Rattle.stops_ahead.specs.Foreseen.{fronted}
use Rattle.stops_ahead.proofs.Following.{next_is}

-- n of all have been written to the front of a list, and the others are left
pub record Filling (all left before out : List ℕ) (n : ℕ) : Type 0 where
  pub had : List ℕ
  pub count : length had ≡ n
  pub whole : all ≡ had ++ left
  pub room : n ≤ length before
  pub made : out ≡ had ++ drop n before

filling_begun : {all before : List ℕ} → Filling all all before before 0
filling_begun = record { had = []; count = refl; whole = refl; room = omega arith; made = refl }

filling_turned : {all left before out : List ℕ} {n u : ℕ} {rest : List ℕ} → Filling all left before out n → left ≡ u ∷ rest → n < length before
    → Filling all rest before (set out n u) (n + 1)
filling_turned {all} {left} {before} {out} {n} {u} {rest} f e l = record {
  had = f.had ++ (u ∷ []);
  count = omega (arith, f.count, length-append f.had (u ∷ []));
  whole = f.whole ∙ rw e (sym (append_snoc f.had u rest));
  room = omega arith;
  made =
      rw (f.made, add-one n, drop-cons before n 0 l, set_at f.had (get_or before n 0) (drop (suc n) before) u n f.count)
      (sym (append_snoc f.had u (drop (suc n) before)));
}

filling_ended : {all left before out : List ℕ} {n : ℕ} → Filling all left before out n → (left ≡ []) ⊎ (length before ≤ n)
    → (n ≡ length (take (length before) all)) × (out ≡ fronted (take (length before) all) before)
filling_ended {all} {left} {before} {out} {n} f why = (rw (taken why) (sym f.count), rw (taken why, f.count) f.made)
  where
    taken : (left ≡ []) ⊎ (length before ≤ n) → take (length before) all ≡ f.had
    taken (inl e) =
        let same : all ≡ f.had = f.whole ∙ rw e (append-nil f.had) in
        rw same (take_all (length before) f.had (omega (arith, f.count, f.room)))
    taken (inr l) =
        let q : length before ≡ n = omega (arith, f.room) in
        rw (q, f.whole) (take_at f.had left n f.count)

-- ---- the loop's test
pub goes_on : (a b c d : ℕ) → (ltb a b && ltb c d) ≡ true → (a < b) × (c < d)
goes_on a b c d e = (ltb-true a b (both_left (ltb a b) (ltb c d) e), ltb-true c d (both_right (ltb a b) (ltb c d) e))

pub goes_off : (a b c d : ℕ) → (ltb a b && ltb c d) ≡ false → (b ≤ a) ⊎ (d ≤ c)
goes_off a b c d e = by (ltb a b) refl e
  where
    by : (t : Bool) → ltb a b ≡ t → (t && ltb c d) ≡ false → (b ≤ a) ⊎ (d ≤ c)
    by true q z = inr (ltb-false c d z)
    by false q z = inl (ltb-false a b q)

-- ---- of the stops: what is said of the lists that the controls were read into holds of any controls that they were read from
pub record Known (o : Times) (times clocks : List (Option ℕ)) (count : ℕ) (controls : List Control) : Type 0 where
  pub timely : Timely o controls count
  pub noted : (times ≡ notes time_of controls count) × (clocks ≡ notes clock_of controls count)

pub record Stops (o : Times) (times clocks : List (Option ℕ)) (count from : ℕ) (before out : List ℕ) (time n : ℕ) : Type 0 where
  pub same : length out ≡ length before
  pub of :
      (controls : List Control) → Known o times clocks count controls
      → Filling (stops_above o (triggers_in controls count) from) (stops_above o (triggers_in controls count) time) before out n

module _ {o : Times} {times clocks : List (Option ℕ)} {count from : ℕ} {before : List ℕ} where
  pub stops_begun : Stops o times clocks count from before before from 0
  stops_begun = record { same = refl; of = λ controls k. filling_begun }

  module _ {out : List ℕ} {time n : ℕ} (f : Stops o times clocks count from before out time n) where
    pub stops_turned : (next : ℕ) → next ≡ next_after o times clocks count time → time < o.duration → n < length out
        → Stops o times clocks count from before (set out n next) next (n + 1)
    stops_turned next e t l = record {
      same = simp length-set f.same;
      of = λ controls k. filling_turned (f.of controls k) (next_is k.timely time next (rw (← k.noted.0, ← k.noted.1) e) t) (omega (arith, f.same));
    }

    module _ {controls : List Control} (k : Known o times clocks count controls) where
      pub stops_ended : (o.duration ≤ time) ⊎ (length out ≤ n)
          → (n ≡ length (take (length before) (stops_above o (triggers_in controls count) from)))
          × (out ≡ fronted (take (length before) (stops_above o (triggers_in controls count) from)) before)
      stops_ended (inl l) = filling_ended (f.of controls k) (inl (above_none o (triggers_in controls count) time l))
      stops_ended (inr l) = filling_ended (f.of controls k) (inr (omega (arith, f.same)))
