-- The call that each code stands for, and which of them asks for a step. Assumes nothing.
use Prim.Native.Nat.{ℕ}
use Prim.Native.Nat.{◌≤◌, ◌<◌}
use mathlib.Core.Path.{◌≡◌, refl, sym, ap, ◌∙◌}
use mathlib.Core.Bool.{Bool, true, false, ◌&&◌, ◌||◌}
use mathlib.Core.List.{List, [], ◌∷◌}
use native.Mathlib.Omega.{arith}
use borrow.Author.Tests.{ne_eqb, le-leb}
use lib.Dec.{eqb}
use lib.ListN.{length, take, drop}
use Rattle.clock.proofs.Tests.{eqb_ind}
use Rattle.image_entry.specs.Words.{word}
use Rattle.list_words.specs.Calls.{patterns, controls, load, tank_links, pressure, premise, step, second, tank_links_by_table, is_step}
use Rattle.list_words.specs.Lists.{call_of, call_length, call_ok, asks_step}

module _ (words : List ℕ) (code : ℕ) (is : code ≡ word words 0) where
  pub code_1 : code ≡ 1 → call_of words ≡ patterns
  unfolding call_of
  code_1 e = rw (← is, e)

  pub code_2 : code ≡ 2 → call_of words ≡ controls
  unfolding call_of
  code_2 e = rw (← is, e)

  pub code_3 : code ≡ 3 → call_of words ≡ load (take (word words 1) (drop 2 words))
  unfolding call_of
  code_3 e = rw (← is, e)

  pub code_4 : code ≡ 4 → call_of words ≡ tank_links
  unfolding call_of
  code_4 e = rw (← is, e)

  pub code_5 : code ≡ 5 → call_of words ≡ pressure
  unfolding call_of
  code_5 e = rw (← is, e)

  pub code_6 : code ≡ 6 → call_of words ≡ premise (word words 1)
  unfolding call_of
  code_6 e = rw (← is, e)

  pub code_7 : code ≡ 7 → call_of words ≡ step
  unfolding call_of
  code_7 e = rw (← is, e)

  pub code_8 : code ≡ 8 → call_of words ≡ second
  unfolding call_of
  code_8 e = rw (← is, e)

  pub code_9 :
      (code ≡ 1 → ⊥) → (code ≡ 2 → ⊥) → (code ≡ 3 → ⊥) → (code ≡ 4 → ⊥) → (code ≡ 5 → ⊥) → (code ≡ 6 → ⊥) → (code ≡ 7 → ⊥) → (code ≡ 8 → ⊥)
      → call_of words ≡ tank_links_by_table
  unfolding call_of
  code_9 a b c d e f g h = rw (← is, ne_eqb code 1 a, ne_eqb code 2 b, ne_eqb code 3 c, ne_eqb code 4 d, ne_eqb code 5 e, ne_eqb code 6 f, ne_eqb code 7 g, ne_eqb code 8 h)

-- ---- which asks for a step
none_quiet : (b : Bool) → (b && false) ≡ false
none_quiet true = refl
none_quiet false = refl

-- a word that is not 0 is one of them
some_word : (words : List ℕ) → 0 < word words 0 → 1 ≤ length words
some_word [] l = absurd (omega arith)
some_word (w ∷ ws) l = omega arith

pub past_four : (code : ℕ) → 1 ≤ code → (code ≡ 1 → ⊥) → (code ≡ 2 → ⊥) → (code ≡ 3 → ⊥) → (code ≡ 4 → ⊥) → 5 ≤ code
past_four code l a b c d = omega arith

module _ (serves : Bool) (words : List ℕ) (code : ℕ) (is : code ≡ word words 0) where
  step_asked : code ≡ 7 → asks_step serves words ≡ true
  unfolding asks_step call_ok call_length call_of
  step_asked e = rw (← is, e, le-leb 1 (length words) (some_word words (omega (arith, is, e))))

  second_asked : code ≡ 8 → asks_step serves words ≡ serves
  unfolding asks_step call_ok call_length call_of
  second_asked e = rw (← is, e, le-leb 1 (length words) (some_word words (omega (arith, is, e))))

  abbrev ByCode : Type 0
  ByCode = asks_step serves words ≡ (eqb code 7 || (eqb code 8 && serves))

  -- a step's code asks for one, the second clock's where it serves, and another for none: it is read as another call's
  pub asked_by_code : ByCode
  unfolding asks_step
  asked_by_code =
      eqb_ind (λ k. ByCode) code 7 (λ e. step_asked e ∙ sym (rw e))
      (λ g. eqb_ind (λ k. ByCode) code 8 (λ e. second_asked e ∙ sym (rw e))
      (λ h. none g h
      (eqb_ind (λ k. asks_step serves words ≡ false) code 1 (λ e. quiet (ap (is_step serves) (code_1 words code is e)))
      (λ a. eqb_ind (λ k. asks_step serves words ≡ false) code 2 (λ e. quiet (ap (is_step serves) (code_2 words code is e)))
      (λ b. eqb_ind (λ k. asks_step serves words ≡ false) code 3 (λ e. quiet (ap (is_step serves) (code_3 words code is e)))
      (λ c. eqb_ind (λ k. asks_step serves words ≡ false) code 4 (λ e. quiet (ap (is_step serves) (code_4 words code is e)))
      (λ d. eqb_ind (λ k. asks_step serves words ≡ false) code 5 (λ e. quiet (ap (is_step serves) (code_5 words code is e)))
      (λ f. eqb_ind (λ k. asks_step serves words ≡ false) code 6 (λ e. quiet (ap (is_step serves) (code_6 words code is e)))
      (λ k. quiet (ap (is_step serves) (code_9 words code is a b c d f k g h)))))))))))
    where
      quiet : is_step serves (call_of words) ≡ false → asks_step serves words ≡ false
      quiet e = ap (λ b. call_ok words && b) e ∙ none_quiet (call_ok words)

      none : (code ≡ 7 → ⊥) → (code ≡ 8 → ⊥) → asks_step serves words ≡ false → ByCode
      none g h e = e ∙ sym (rw (ne_eqb code 7 g, ne_eqb code 8 h))

-- of a call that is one
pub asks_step_lem : (serves : Bool) (words : List ℕ) → call_ok words ≡ true → asks_step serves words ≡ is_step serves (call_of words)
unfolding asks_step
asks_step_lem serves words ok = rw ok
