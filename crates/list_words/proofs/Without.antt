-- Document 02, R-10 and R-8, of lists without their calls: a list that was whole before a request is whole and has the calls that it had, and each of them
-- asks for a step if it did. Assumes nothing.
use Prim.Native.Nat.{ℕ, zero, suc, ◌-◌, ◌≤◌}
use mathlib.Core.Path.{◌≡◌, refl}
use mathlib.Core.Bool.{Bool, true, false, cond, ◌&&◌}
use mathlib.Core.List.{List, [], ◌∷◌}
use native.Mathlib.Omega.{arith}
use borrow.Author.Tests.{eq-eqb, eqb-false, leb-true, le-leb}
use lib.Dec.{eqb, leb}
use lib.ListN.{length, take, drop}
use Rattle.model.proofs.Loops.{both_left, both_right}
use Rattle.image_entry.specs.Words.{word}
use Rattle.list_words.specs.Calls.{Call, patterns, controls, load, tank_links, pressure, premise, step, second, tank_links_by_table, is_step}
use Rattle.list_words.specs.Lists.{call_of, call_length, call_ok, calls_of, list_ok}
use Rattle.list_words.proofs.Codes.{past_four}

-- ---- lists by another reading of words as calls
unfoldable pub calls_by : (List ℕ → Call) → ℕ → List ℕ → List Call
calls_by call skip [] = []
calls_by call (suc skip) (w ∷ ws) = calls_by call skip ws
calls_by call zero (w ∷ ws) = call (w ∷ ws) ∷ calls_by call (call_length (w ∷ ws) - 1) ws

unfoldable pub whole_by : (List ℕ → Bool) → ℕ → List ℕ → Bool
whole_by ok skip [] = true
whole_by ok (suc skip) (w ∷ ws) = whole_by ok skip ws
whole_by ok zero (w ∷ ws) = ok (w ∷ ws) && whole_by ok (call_length (w ∷ ws) - 1) ws

as_before : (call : List ℕ → Call) (ok : List ℕ → Bool) → ((words : List ℕ) → ok words ≡ true → (call_ok words ≡ true) × (call_of words ≡ call words))
    → (skip : ℕ) (words : List ℕ) → whole_by ok skip words ≡ true → (list_ok skip words ≡ true) × (calls_of skip words ≡ calls_by call skip words)
unfolding whole_by list_ok calls_of calls_by
as_before call ok h skip [] e = (refl, refl)
as_before call ok h (suc skip) (w ∷ ws) e = as_before call ok h skip ws e
as_before call ok h zero (w ∷ ws) e =
    let now = h (w ∷ ws) (both_left (ok (w ∷ ws)) _ e) in
    let rest = as_before call ok h (call_length (w ∷ ws) - 1) ws (both_right (ok (w ∷ ws)) _ e) in
    (rw (now.0, rest.0), rw (now.1, rest.1))

-- ---- before R-10 the codes were 1 to 7, before R-8 1 to 8, and any other word was read as the last of them and refused
abbrev up_to : ℕ → List ℕ → Bool
up_to most words =
    let code = word words 0 in
    leb 1 code && leb code most && leb (call_length words) (length words)

abbrev call_with : Call → List ℕ → Call
call_with last words =
    let code = word words 0 in
    cond (eqb code 1) patterns
    (cond (eqb code 2) controls
    (cond (eqb code 3) (load (take (word words 1) (drop 2 words)))
    (cond (eqb code 4) tank_links
    (cond (eqb code 5) pressure
    (cond (eqb code 6) (premise (word words 1)) last)))))

abbrev pub ok_before_second : List ℕ → Bool
ok_before_second words = up_to 7 words

abbrev pub call_before_second : List ℕ → Call
call_before_second words = call_with step words

abbrev pub ok_before_table : List ℕ → Bool
ok_before_table words = up_to 8 words

abbrev pub call_before_table : List ℕ → Call
call_before_table words = call_with (cond (eqb (word words 0) 7) step second) words

abbrev pub step_before : Call → Bool
step_before patterns = false
step_before controls = false
step_before (load words) = false
step_before tank_links = false
step_before pressure = false
step_before (premise i) = false
step_before step = true
step_before second = false
step_before tank_links_by_table = false

-- ---- from now on
under : (b : Bool) (c x y : Call) → (b ≡ false → x ≡ y) → cond b c x ≡ cond b c y
under true c x y h = refl
under false c x y h = h refl

seven : (code : ℕ) → 5 ≤ code → code ≤ 7 → (code ≡ 5 → ⊥) → (code ≡ 6 → ⊥) → code ≡ 7
seven code l m e f = omega arith

eight : (code : ℕ) → 5 ≤ code → code ≤ 8 → (code ≡ 5 → ⊥) → (code ≡ 6 → ⊥) → (code ≡ 7 → ⊥) → code ≡ 8
eight code l m e f g = omega arith

module _ (words : List ℕ) (most : ℕ) (few : most ≤ 9) (ok : up_to most words ≡ true) where
  abbrev code : ℕ
  code = word words 0

  least : 1 ≤ code
  least = leb-true 1 code (both_left (leb 1 code) _ (both_left (leb 1 code && leb code most) _ ok))

  greatest : code ≤ most
  greatest = leb-true code most (both_right (leb 1 code) _ (both_left (leb 1 code && leb code most) _ ok))

  ok_as_before : call_ok words ≡ true
  unfolding call_ok
  ok_as_before = rw (le-leb 1 code least, le-leb code 9 (omega (arith, greatest)), both_right (leb 1 code && leb code most) _ ok)

  -- a reading that gives the calls past 6 as it is read now
  call_as_before : (last : Call) → ((5 ≤ code) → (code ≡ 5 → ⊥) → (code ≡ 6 → ⊥) → cond (eqb code 7) step (cond (eqb code 8) second tank_links_by_table) ≡ last) → call_of words ≡ call_with last words
  unfolding call_of
  call_as_before last h =
      under (eqb code 1) _ _ _
      (λ a. under (eqb code 2) _ _ _
      (λ b. under (eqb code 3) _ _ _
      (λ c. under (eqb code 4) _ _ _
      (λ d. under (eqb code 5) _ _ _
      (λ e. under (eqb code 6) _ _ _
      (λ f. h (past_four code least (eqb-false code 1 a) (eqb-false code 2 b) (eqb-false code 3 c) (eqb-false code 4 d)) (eqb-false code 5 e) (eqb-false code 6 f)))))))

pub list_before_second : (skip : ℕ) (words : List ℕ) → whole_by ok_before_second skip words ≡ true
    → (list_ok skip words ≡ true) × (calls_of skip words ≡ calls_by call_before_second skip words)
list_before_second =
    as_before call_before_second ok_before_second
    (λ words ok. (
      ok_as_before words 7 (omega arith) ok,
      call_as_before words 7 (omega arith) ok step (λ l e f. rw (eq-eqb (word words 0) 7 (seven (word words 0) l (greatest words 7 (omega arith) ok) e f))),
    ))

pub list_before_table : (skip : ℕ) (words : List ℕ) → whole_by ok_before_table skip words ≡ true
    → (list_ok skip words ≡ true) × (calls_of skip words ≡ calls_by call_before_table skip words)
list_before_table =
    as_before call_before_table ok_before_table
    (λ words ok. (
      ok_as_before words 8 (omega arith) ok,
      call_as_before words 8 (omega arith) ok (cond (eqb (word words 0) 7) step second)
          (λ l e f. under (eqb (word words 0) 7) _ _ _ (λ g. rw (eq-eqb (word words 0) 8 (eight (word words 0) l (greatest words 8 (omega arith) ok) e f (eqb-false (word words 0) 7 g))))),
    ))

-- every other call asks for a step as it did, whether the project is served or not
pub steps_as_before : (serves : Bool) (c : Call) → (c ≡ second → ⊥) → is_step serves c ≡ step_before c
steps_as_before serves patterns n = refl
steps_as_before serves controls n = refl
steps_as_before serves (load words) n = refl
steps_as_before serves tank_links n = refl
steps_as_before serves pressure n = refl
steps_as_before serves (premise i) n = refl
steps_as_before serves step n = refl
steps_as_before serves second n = absurd (n refl)
steps_as_before serves tank_links_by_table n = refl
