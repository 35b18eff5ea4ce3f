-- Needs no belief: the lengths of the patterns as words.
use Rattle.std.specs.Prelude.{ℕ, ◌<◌, ◌≡◌, cond, List, ltb, get_or}

-- no more than the table has multipliers: no more of them can be taken from it
abbrev pub length_word : ℕ → ℕ
length_word n = cond (ltb n 5376) n 5376

pub record LengthsLaid (lengths words : List ℕ) : Type 0 where
  pub each : (k : ℕ) → k < 32 → get_or words k 0 ≡ length_word (get_or lengths k 0)
