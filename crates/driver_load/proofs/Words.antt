-- The words of a load, read from the bytes into as much room. Assumes nothing.
use Prim.Native.Nat.{ℕ, ◌*◌, ◌/◌, ◌≤◌, min}
use mathlib.Core.Path.{◌≡◌, refl, ◌∙◌}
use mathlib.Core.List.{List, [], ◌∷◌, ◌++◌}
use native.Mathlib.Omega.{arith}
use lib.ListN.{length, drop, length-drop}
use Rattle.std.proofs.Common.{append-nil}
use Rattle.words.specs.Words.{first_words}

empty : (xs : List ℕ) → length xs ≡ 0 → xs ≡ []
empty [] e = refl
empty (x ∷ xs) e = absurd (omega (arith, e))

pub words_read : (n : ℕ) (bytes old words : List ℕ) (r : ℕ) → n * 4 ≤ length bytes → length old ≡ n → r ≡ min (length bytes / 4) (length old)
    → words ≡ first_words r bytes ++ drop r old → words ≡ first_words n bytes
words_read n bytes old words r h k e q =
    let m : r ≡ n = omega arith in
    let z : drop n old ≡ [] = empty (drop n old) (omega (arith, length-drop n old)) in
    rw (q, m, z) (append-nil (first_words n bytes))
