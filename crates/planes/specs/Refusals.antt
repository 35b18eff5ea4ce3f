-- Document 02, R-9: the number of a refusal.
-- Assumes nothing.
use Rattle.std.specs.Prelude.{ℕ, Result, Ok, Err}
use Rattle.planes.specs.declared.Refused.{Refused}

-- "Refused: 13, no rows, more than 512, or either buffer of the wrong size"
abbrev pub refused_number : Refused → ℕ
refused_number r = 13

-- 0 where a block was turned
abbrev pub answer_number : Result Unit Refused → ℕ
answer_number (Ok u) = 0
answer_number (Err r) = refused_number r
