-- Document 01, "The project image": the words of a payload.
use Rattle.std.specs.Prelude.{None, Option, Some}
use Rattle.std.specs.Prelude.{ℕ, ◌+◌, ◌-◌, cond, List, eqb, Float, get_or}
use Rattle.number.specs.Words.{from_words}

-- the word at place i; 0 past the end, where no kind of record reads
abbrev pub word : List ℕ → ℕ → ℕ
word p i = get_or p i 0

-- "A number is an f64's bits, low word first": the number whose low word is at place i
abbrev pub number : List ℕ → ℕ → Float
number p i = from_words (word p i) (word p (i + 1))

-- "A pattern word is 0 for none, else index + 1."
unfoldable pub pattern_index_of : ℕ → Option ℕ
pattern_index_of w = cond (eqb w 0) None (Some (w - 1))
