-- Needs no belief: a row stored into an array at a stride.
use Rattle.std.specs.Prelude.{ℕ, suc, ◌+◌, List, [], ◌∷◌, set}

-- the values from offset o of a base on, one after the other
abbrev pub stores : {A : Type 0} → List A → ℕ → ℕ → List A → List A
stores l b o [] = l
stores l b o (v ∷ vs) = stores (set l (b + o) v) b (suc o) vs

abbrev pub block : {A : Type 0} → List A → ℕ → List A → List A
block l b [] = l
block l b (v ∷ vs) = stores (set l b v) b 1 vs
