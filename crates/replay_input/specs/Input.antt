-- What can be said of words that are read: no contract can speak of what comes in.
use Rattle.std.specs.Prelude.{ℕ, ◌≤◌, ◌≡◌, List, ◌++◌, length, take, drop}
use Rattle.words.specs.Words.{first_words}

-- the first n of a list are there to be lent
abbrev pub Front : ℕ → List ℕ → Type 0
Front n xs = (n ≤ length xs) × (n ≡ length (take n xs))

-- the first n words of some bytes stand at the start of a table, and the rest of it is as before
pub record Taken (n : ℕ) (bytes before after : List ℕ) : Type 0 where
  pub count : Front n after
  pub words : after ≡ first_words n bytes ++ drop n before
