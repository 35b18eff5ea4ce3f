-- Document 02, R-8: "Lay the link numbers out once as one table grouped by tank, those into it first, with the place where each tank begins."
use Rattle.std.specs.Prelude.{ℕ, zero, suc, ◌+◌, Bool, ◌&&◌, ◌||◌, List, [], ◌∷◌, ◌++◌, eqb, leb, length, get_or}
use Rattle.model.specs.Blank.{link_at}
use Rattle.model.specs.Loops.{all_below}
use Rattle.model.specs.declared.project.Project.{Project}
use Rattle.run_tables.specs.Chosen.{chosen}
use Rattle.run_tables.specs.Tanks.{tank_nodes}

-- ---- the links at a tank, by its node: "in document 01's order", which is "in link order, those into it first"
abbrev pub ends_at : Project → ℕ → ℕ → Bool
ends_at p j i = eqb (link_at p i).end j

abbrev pub starts_at : Project → ℕ → ℕ → Bool
starts_at p j i = eqb (link_at p i).start j

-- "exactly the links with an end at its tank"
abbrev pub touches : Project → ℕ → ℕ → Bool
touches p j i = ends_at p j i || starts_at p j i

abbrev pub links_into : Project → ℕ → List ℕ
links_into p j = chosen (ends_at p j) p.counts.links

abbrev pub links_out_of : Project → ℕ → List ℕ
links_out_of p j = chosen (starts_at p j) p.counts.links

abbrev pub group : Project → ℕ → List ℕ
group p j = links_into p j ++ links_out_of p j

-- ---- "one table grouped by tank"
abbrev pub tank_count : Project → ℕ
tank_count p = length (tank_nodes p)

-- the node of tank k, in node order
abbrev pub tank_node : Project → ℕ → ℕ
tank_node p k = get_or (tank_nodes p) k 0

-- lists one behind the other
unfoldable pub joined : (ℕ → List ℕ) → ℕ → List ℕ
joined f zero = []
joined f (suc k) = joined f k ++ f k

-- the groups of the first k tanks
abbrev pub groups : Project → ℕ → List ℕ
groups p k = joined (λ m. group p (tank_node p m)) k

-- "the place where each tank begins"
abbrev pub begin : Project → ℕ → ℕ
begin p k = length (groups p k)

-- the place where those out of it begin
abbrev pub middle : Project → ℕ → ℕ
middle p k = begin p k + length (links_into p (tank_node p k))

-- what a function gives below n, in order
unfoldable pub listed : (ℕ → ℕ) → ℕ → List ℕ
listed f zero = []
listed f (suc n) = listed f n ++ (f n ∷ [])

-- the table: the places, one more of them than tanks since the last says where the table ends, and the link numbers
unfoldable pub begins_of : Project → List ℕ
begins_of p = listed (begin p) (suc (tank_count p))

unfoldable pub middles_of : Project → List ℕ
middles_of p = listed (middle p) (tank_count p)

unfoldable pub entries_of : Project → List ℕ
entries_of p = groups p (tank_count p)

-- ---- "10 also where a table handed to a call is not the one laid out from the project's records": an array begins with a list, and what lies past
-- it is not judged
unfoldable pub begins_with : List ℕ → List ℕ → Bool
begins_with array xs = leb (length xs) (length array) && all_below (length xs) (λ i. eqb (get_or array i 0) (get_or xs i 0))

unfoldable pub is_laid_out : Project → List ℕ → List ℕ → List ℕ → Bool
is_laid_out p begins middles links = begins_with begins (begins_of p) && begins_with middles (middles_of p) && begins_with links (entries_of p)
