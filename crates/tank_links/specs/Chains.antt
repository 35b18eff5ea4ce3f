-- Needs no belief: the links at a node as a chain, which the code lays the table out by. A chain ends where the next is no link.
use Rattle.std.specs.Prelude.{ℕ, zero, suc, ◌<◌, ◌≡◌, cond, List, [], ◌∷◌, eqb, ltb, get_or}
use Rattle.run_tables.specs.Chosen.{chosen}

-- behind each link stands a later one, or none
abbrev pub Rising : List ℕ → Type 0
Rising next = (i : ℕ) → i < 384 → i < get_or next i 0

-- the links of a chain from l on, at most n of them
unfoldable pub linked : ℕ → List ℕ → ℕ → List ℕ
linked zero next l = []
linked (suc n) next l = cond (ltb l 384) (l ∷ linked n next (get_or next l 0)) []

-- the chain of each node j has the links whose node, by f, it is
pub record Chains (f : ℕ → ℕ) (n : ℕ) (first next : List ℕ) : Type 0 where
  pub rising : Rising next
  pub chain : (j : ℕ) → j < 256 → linked 384 next (get_or first j 0) ≡ chosen (λ i. eqb (f i) j) n
