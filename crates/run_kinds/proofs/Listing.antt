-- The seconds of one kind of controls, listed in the order of the table: each turn adds what one control has. Assumes nothing.
use Prim.Native.Nat.{ℕ, zero, suc, ◌+◌, ◌≤◌, ◌<◌}
use mathlib.Core.Path.{◌≡◌, refl, sym, ap, ◌∙◌}
use mathlib.Core.List.{List, [], ◌∷◌, ◌++◌, append-nil}
use mathlib.Core.Logic.{⊎_elim}
use native.Mathlib.Nat.{eq-or-lt_of_le}
use native.Mathlib.Numerals.{add-one}
use native.Mathlib.Omega.{arith}
use lib.ListN.{get_or, set, length, length-set, length-append, get_or-append}
use lib.Seq.{get_or-set_same, get_or-set_other, get_or-append_seam}
use Rattle.std.specs.Prelude.{Option, None, Some, filter_map}
use Rattle.std.proofs.lemmas.List.Elements.{filter_map-append}
use Rattle.clock.specs.Triggers.{Trigger, at_time, at_clock, at_level, untimed}
use Rattle.control.specs.Controls.{Level}
use Rattle.model.specs.declared.control.Control.{Control}
use Rattle.run_kinds.specs.Calls.{time_of, clock_of, times_in, clocks_in, Laid}
use Rattle.run_kinds.specs.Triggers.{listed, trigger_in, triggers_in}

-- ---- one entry more
more : {array xs : List ℕ} {count : ℕ} (x : ℕ) → Laid array count xs → count < length array → Laid (set array count x) (count + 1) (xs ++ (x ∷ []))
more {array} {xs} {count} x h room = record {
  count = omega (arith, h.count, length-append xs (x ∷ []));
  each = λ k l.
      ⊎_elim
      (λ s. rw s (get_or-set_same array count x 0 room ∙ sym (ap (λ (m : ℕ). get_or (xs ++ (x ∷ [])) m 0) h.count ∙ get_or-append_seam xs x [] 0)))
      (λ s. get_or-set_other array count k x 0 (λ r. omega arith) ∙ h.each k s ∙ sym (get_or-append xs (x ∷ []) 0 k (omega (arith, h.count))))
      (eq-or-lt_of_le (omega arith));
}

-- ---- the loop over the controls
-- what a pick finds in the first i is listed
pub record Listing (of : Trigger Level → Option ℕ) (controls : List Control) (i : ℕ) (array : List ℕ) (count : ℕ) : Type 0 where
  pub wide : length array ≡ 64
  pub few : count ≤ i
  pub laid : Laid array count (filter_map of (triggers_in controls i))

last : (of : Trigger Level → Option ℕ) (controls : List Control) (i : ℕ) {o : Option ℕ} → o ≡ of (trigger_in controls i)
    → filter_map of (triggers_in controls (i + 1)) ≡ filter_map of (triggers_in controls i) ++ filter_map (λ x. x) (o ∷ [])
unfolding listed
last of controls i e = rw (add-one i, filter_map-append of (triggers_in controls i) (trigger_in controls i ∷ []), e)

module _ {of : Trigger Level → Option ℕ} {controls : List Control} where
  pub list_none : {array : List ℕ} → length array ≡ 64 → Listing of controls 0 array 0
  unfolding listed
  list_none e = record { wide = e; few = omega arith; laid = record { count = refl; each = λ k l. absurd (omega arith) } }

  pub list_pass : {i : ℕ} {array : List ℕ} {count : ℕ} → Listing of controls i array count → None ≡ of (trigger_in controls i) → Listing of controls (i + 1) array count
  list_pass {i} h e = record { wide = h.wide; few = omega (arith, h.few); laid = rw (last of controls i e, append-nil _) h.laid }

  pub list_put : {i : ℕ} {array : List ℕ} {count x : ℕ} → Listing of controls i array count → i < 64 → Some x ≡ of (trigger_in controls i)
      → Listing of controls (i + 1) (set array count x) (count + 1)
  list_put {i} {array} {count} {x} h l e = record {
    wide = length-set array count x ∙ h.wide;
    few = omega (arith, h.few);
    laid = rw (last of controls i e) (more x h.laid (omega (arith, h.few, h.wide)));
  }

-- ---- a kind of controls
pub times_are : (ts : List (Trigger Level)) → filter_map time_of ts ≡ times_in ts
unfolding times_in
times_are [] = refl
times_are (at_time s ∷ ts) = ap (λ (xs : List ℕ). s ∷ xs) (times_are ts)
times_are (at_clock s ∷ ts) = times_are ts
times_are (at_level l ∷ ts) = times_are ts
times_are (untimed ∷ ts) = times_are ts

pub clocks_are : (ts : List (Trigger Level)) → filter_map clock_of ts ≡ clocks_in ts
unfolding clocks_in
clocks_are [] = refl
clocks_are (at_time s ∷ ts) = clocks_are ts
clocks_are (at_clock s ∷ ts) = ap (λ (xs : List ℕ). s ∷ xs) (clocks_are ts)
clocks_are (at_level l ∷ ts) = clocks_are ts
clocks_are (untimed ∷ ts) = clocks_are ts

-- of a list of controls, what is found of each is the kind's list
pub record Kind (in_list : List (Trigger Level) → List ℕ) (of : Trigger Level → Option ℕ) : Type 0 where
  pub found : (ts : List (Trigger Level)) → filter_map of ts ≡ in_list ts

pub times : Kind times_in time_of
times = record { found = times_are }

pub clocks : Kind clocks_in clock_of
clocks = record { found = clocks_are }

-- ---- no more are listed than there are controls
one_most : (o : Option ℕ) → length (filter_map (λ x. x) (o ∷ [])) ≤ 1
one_most None = omega arith
one_most (Some x) = omega arith

found_few : (of : Trigger Level → Option ℕ) (controls : List Control) (n : ℕ) → length (filter_map of (triggers_in controls n)) ≤ n
unfolding listed
found_few of controls zero = omega arith
found_few of controls (suc n) =
    let r : length (filter_map of (triggers_in controls n)) ≤ n = found_few of controls n in
    let a = length-append (filter_map of (triggers_in controls n)) (filter_map of (trigger_in controls n ∷ [])) in
    let o : length (filter_map of (trigger_in controls n ∷ [])) ≤ 1 = one_most (of (trigger_in controls n)) in
    rw (filter_map-append of (triggers_in controls n) (trigger_in controls n ∷ [])) (omega (arith, r, a, o))

pub laid_few : {in_list : List (Trigger Level) → List ℕ} {of : Trigger Level → Option ℕ} → Kind in_list of → (controls : List Control) (n : ℕ)
    → {array : List ℕ} {count : ℕ} → Laid array count (in_list (triggers_in controls n)) → count ≤ n
laid_few {in_list} {of} kind controls n h = omega (arith, h.count, ap length (kind.found (triggers_in controls n)), found_few of controls n)
