-- The words of the first bytes of a buffer are words of the buffer. Assumes nothing.
use Prim.Native.Nat.{ℕ, ◌*◌, ◌/◌, ◌≤◌, min}
use mathlib.Core.Path.{◌≡◌, sym, ap, ◌∙◌}
use mathlib.Core.List.{List, ◌++◌}
use native.Mathlib.Omega.{arith}
use lib.ListN.{length, take, drop, length-append, take-append-drop}
use lib.Seq.{length-take-le}
use Rattle.words.specs.Words.{first_words}
use Rattle.words.proofs.Filling.{length_first_words, filled_none, words_more}
use Rattle.replay_input.specs.Input.{Front, Taken}

counts : (n : ℕ) (xs : List ℕ) → n ≤ length xs → Front n xs
counts n xs h = (h, sym (length-take-le n xs h))

room : (n : ℕ) (ws before : List ℕ) → length ws ≡ n → n ≤ length before → n ≤ length (ws ++ drop n before)
room n ws before e h = omega (arith, length-append ws (drop n before), e)

pub taken_from :
    (n : ℕ) (bytes before after : List ℕ) (r : ℕ) → n ≤ length bytes / 4
    → r ≡ min (length (take (n * 4) bytes) / 4) (length before)
    → after ≡ first_words r (take (n * 4) bytes) ++ drop r before
    → Taken r bytes before after
taken_from n bytes before after r h e q =
    let s : length (take (n * 4) bytes) ≡ n * 4 = length-take-le (n * 4) bytes (omega arith) in
    let m : first_words r bytes ≡ first_words r (take (n * 4) bytes) =
    sym (ap (first_words r) (take-append-drop (n * 4) bytes)) ∙ words_more r (take (n * 4) bytes) (drop (n * 4) bytes) (omega (arith, s, e)) in
    record { count = counts r after (rw q (room r (first_words r (take (n * 4) bytes)) before (length_first_words r (take (n * 4) bytes)) (omega (arith, e)))); words = q ∙ ap (λ ws. ws ++ drop r before) (sym m) }

pub taken_none : (bytes table : List ℕ) → Taken 0 bytes table table
taken_none bytes table = record { count = counts 0 table (omega arith); words = filled_none bytes table }
