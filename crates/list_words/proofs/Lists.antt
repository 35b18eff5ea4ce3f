-- The walk over the words of a list: a turn at a call, for the check of the list and for its run. Assumes nothing.
use Prim.Native.Nat.{ℕ, zero, suc, ◌+◌, ◌-◌, ◌≤◌, ◌<◌}
use mathlib.Core.Path.{◌≡◌, refl, ap, ◌∙◌}
use mathlib.Core.Bool.{Bool, true, false, cond, ◌&&◌}
use mathlib.Core.List.{List, [], ◌∷◌}
use native.Mathlib.Omega.{arith}
use lib.Dec.{eqb, leb}
use borrow.Author.Tests.{leb-true}
use lib.ListN.{length, take, drop, length-drop, drop_of_length-le}
use lib.Seq.{take_all}
use Rattle.model.proofs.Loops.{both_right}
use Rattle.image_entry.specs.Words.{word}
use Rattle.list_words.specs.Lists.{call_of, call_length, call_ok, calls_of, list_ok}

-- ---- one call
pub length_some : (words : List ℕ) → 1 ≤ call_length words
unfolding call_length
length_some words = go (eqb (word words 0) 3) (eqb (word words 0) 6)
  where
    go : (a b : Bool) → 1 ≤ cond a (2 + word words 1) (cond b 2 1)
    go true b = omega arith
    go false true = omega arith
    go false false = omega arith

pub ok_whole : (words : List ℕ) → call_ok words ≡ true → call_length words ≤ length words
unfolding call_ok
ok_whole words e = leb-true _ _ (both_right (leb 1 (word words 0) && leb (word words 0) 9) _ e)

-- a load that is not cut has the words that it counts
load_length : (words : List ℕ) (code : ℕ) → code ≡ word words 0 → code ≡ 3 → call_length words ≡ 2 + word words 1
unfolding call_length
load_length words code is e = rw (← is, e)

pub load_whole : (words : List ℕ) (code : ℕ) → code ≡ word words 0 → code ≡ 3 → call_ok words ≡ true → 2 + word words 1 ≤ length words
load_whole words code is e ok = omega (arith, ok_whole words ok, load_length words code is e)

-- ---- no words are left
pub calls_end : (words : List ℕ) (at : ℕ) → length words ≤ at → calls_of 0 (drop at words) ≡ []
unfolding calls_of
calls_end words at h = rw (drop_of_length-le words h)

-- ---- the words of a call passed over
calls_skip : (ws : List ℕ) (n : ℕ) → calls_of n ws ≡ calls_of 0 (drop n ws)
unfolding calls_of
calls_skip [] zero = refl
calls_skip [] (suc n) = refl
calls_skip (w ∷ ws) zero = refl
calls_skip (w ∷ ws) (suc n) = calls_skip ws n

ok_skip : (ws : List ℕ) (n : ℕ) → list_ok n ws ≡ list_ok 0 (drop n ws)
unfolding list_ok
ok_skip [] zero = refl
ok_skip [] (suc n) = refl
ok_skip (w ∷ ws) zero = refl
ok_skip (w ∷ ws) (suc n) = ok_skip ws n

drop_pred : (w : ℕ) (ws : List ℕ) (n : ℕ) → 1 ≤ n → drop (n - 1) ws ≡ drop n (w ∷ ws)
drop_pred w ws zero l = absurd (omega arith)
drop_pred w ws (suc n) l =
    let e : suc n - 1 ≡ n = omega arith in
    ap (λ k. drop k ws) e

-- the first call, and then the others
pub calls_more : (ws : List ℕ) → 0 < length ws → calls_of 0 ws ≡ call_of ws ∷ calls_of 0 (drop (call_length ws) ws)
unfolding calls_of
calls_more [] l = absurd (omega arith)
calls_more (w ∷ ws) l =
    ap (λ cs. call_of (w ∷ ws) ∷ cs)
    (calls_skip ws (call_length (w ∷ ws) - 1) ∙ ap (calls_of 0) (drop_pred w ws (call_length (w ∷ ws)) (length_some (w ∷ ws))))

pub ok_more : (ws : List ℕ) → 0 < length ws → list_ok 0 ws ≡ (call_ok ws && list_ok 0 (drop (call_length ws) ws))
unfolding list_ok
ok_more [] l = absurd (omega arith)
ok_more (w ∷ ws) l =
    ap (λ b. call_ok (w ∷ ws) && b)
    (ok_skip ws (call_length (w ∷ ws) - 1) ∙ ap (list_ok 0) (drop_pred w ws (call_length (w ∷ ws)) (length_some (w ∷ ws))))

-- the words behind a call, as the code takes them
pub behind : (ws : List ℕ) (n : ℕ) → n ≤ length ws → take (length ws - n) (drop n ws) ≡ drop n ws
behind ws n l = take_all (length ws - n) (drop n ws) (omega (arith, length-drop n ws))

pub ok_end : (ws : List ℕ) → length ws ≡ 0 → list_ok 0 ws ≡ true
unfolding list_ok
ok_end [] e = refl
ok_end (w ∷ ws) e = absurd (omega arith)
