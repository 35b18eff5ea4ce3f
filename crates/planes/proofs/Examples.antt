-- Blocks small enough to read, by computing.
-- Assumes nothing.
use mathlib.Core.Path.{◌≡◌, refl}
use mathlib.Core.List.{List, [], ◌∷◌}
use Prim.Native.Nat.{ℕ}
use Rattle.planes.specs.Planes.{list_of, joined, turned, to_planes, from_planes}

abbrev two_rows : List ℕ
two_rows = 0 ∷ 1 ∷ 2 ∷ 3 ∷ 4 ∷ 5 ∷ 6 ∷ 7 ∷ 8 ∷ 9 ∷ 10 ∷ 11 ∷ 12 ∷ 13 ∷ 14 ∷ 15 ∷ []

abbrev their_planes : List ℕ
their_planes = 0 ∷ 8 ∷ 1 ∷ 9 ∷ 2 ∷ 10 ∷ 3 ∷ 11 ∷ 4 ∷ 12 ∷ 5 ∷ 13 ∷ 6 ∷ 14 ∷ 7 ∷ 15 ∷ []

pub two_rows_in_planes : to_planes 2 two_rows ≡ their_planes
unfolding list_of joined turned
two_rows_in_planes = refl

pub two_rows_back : from_planes 2 their_planes ≡ two_rows
unfolding list_of joined turned
two_rows_back = refl
