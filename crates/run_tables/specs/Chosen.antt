-- The indices at which a test holds.
use Rattle.std.specs.Prelude.{ℕ, zero, suc, Bool, cond, List, [], ◌∷◌, ◌++◌}

-- the indices below n at which a test holds, rising
unfoldable pub chosen : (ℕ → Bool) → ℕ → List ℕ
chosen test zero = []
chosen test (suc n) = cond (test n) (chosen test n ++ (n ∷ [])) (chosen test n)
