-- The lines of a listing: their lengths, and how they are put together.
-- Assumes nothing.
use Prim.Native.Nat.{ℕ, ◌+◌, ◌≤◌}
use mathlib.Core.Path.{◌≡◌, refl, sym, ap, ◌∙◌}
use mathlib.Core.List.{List, [], ◌∷◌, ◌++◌, append_assoc, append-nil}
use native.Mathlib.Omega.{arith}
use lib.ListN.{length, length-append}
use Rattle.listing.specs.Numbers.{decimal_text}
use Rattle.listing.specs.Listing.{step_line, labelled, Line, line_text, text_of}
use Rattle.listing.proofs.Digits.{digits_count}

pub step_length_lem : (from seconds : ℕ) → length (step_line from seconds) ≡ length (decimal_text from) + length (decimal_text seconds) + 2
unfolding step_line
step_length_lem from seconds =
    omega (arith, length-append (decimal_text from) (32 ∷ (decimal_text seconds ++ (10 ∷ []))), length-append (decimal_text seconds) (10 ∷ []))

pub step_made : (from seconds : ℕ) → (((([] ++ decimal_text from) ++ (32 ∷ [])) ++ decimal_text seconds) ++ (10 ∷ [])) ≡ step_line from seconds
unfolding step_line
step_made from seconds = simp append_assoc

pub labelled_length : (label : List ℕ) (n : ℕ) → length (labelled label n) ≡ length label + length (decimal_text n) + 1
labelled_length label n = omega (arith, length-append label (decimal_text n ++ (10 ∷ [])), length-append (decimal_text n) (10 ∷ []))

pub labelled_made : (label : List ℕ) (n : ℕ) → ((([] ++ label) ++ decimal_text n) ++ (10 ∷ [])) ≡ labelled label n
labelled_made label n = append_assoc label (decimal_text n) (10 ∷ [])

-- the room that a function asks for, by the digits that it has counted
pub step_size : (from seconds : ℕ) {a b : ℕ} → a ≡ length (decimal_text from) → b ≡ length (decimal_text seconds) → a + b + 2 ≡ length (step_line from seconds)
step_size from seconds e q = omega (arith, step_length_lem from seconds)

pub labelled_size : (label : List ℕ) (n : ℕ) {b : ℕ} → b ≡ length (decimal_text n) → length label + b + 1 ≡ length (labelled label n)
labelled_size label n e = omega (arith, labelled_length label n)

-- every line is short
pub line_short : (l : Line) → length (line_text l) ≤ 22
line_short (Line.step from seconds) = omega (arith, step_length_lem from seconds, (digits_count 9 from).1, (digits_count 9 seconds).1)
line_short (Line.finished n) = omega (arith, labelled_length (115 ∷ 116 ∷ 101 ∷ 112 ∷ 115 ∷ 32 ∷ []) n, (digits_count 9 n).1)
line_short (Line.refused n) = omega (arith, labelled_length (114 ∷ 101 ∷ 102 ∷ 117 ∷ 115 ∷ 101 ∷ 100 ∷ 32 ∷ []) n, (digits_count 9 n).1)

-- the text of some lines and then others
pub text_append : (ls ms : List Line) → text_of (ls ++ ms) ≡ text_of ls ++ text_of ms
unfolding text_of
text_append [] ms = refl
text_append (l ∷ ls) ms = ap (λ (x : List ℕ). line_text l ++ x) (text_append ls ms) ∙ sym (append_assoc (line_text l) (text_of ls) (text_of ms))

-- one line more
pub text_more : (ls : List Line) (l : Line) → text_of ls ++ line_text l ≡ text_of (ls ++ (l ∷ []))
unfolding text_of
text_more ls l = sym (text_append ls (l ∷ []) ∙ rw append-nil)
