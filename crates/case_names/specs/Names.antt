-- The name of a case: `case`, and its number in three digits. Assumes nothing.
use Rattle.std.specs.Prelude.{ℕ, ◌+◌, ◌/◌, ◌%◌, List, [], ◌∷◌}

unfoldable pub case_name : ℕ → List ℕ
case_name i = 99 ∷ 97 ∷ 115 ∷ 101 ∷ (48 + i / 100 % 10) ∷ (48 + i / 10 % 10) ∷ (48 + i % 10) ∷ []
