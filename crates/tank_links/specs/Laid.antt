-- Needs no belief: the same table of a table of links and of nodes that are given, which is what the code lays out. `laid-is` shows that it is a
-- project's.
use Rattle.std.specs.Prelude.{ℕ, ◌+◌, ◌-◌, ◌≤◌, ◌<◌, List, ◌++◌, eqb, length, get_or}
use Rattle.model.specs.Blank.{blank_link}
use Rattle.model.specs.declared.link.Link.{Link}
use Rattle.model.specs.declared.project.Project.{Project}
use Rattle.run_tables.specs.Chosen.{chosen}
use Rattle.run_tables.specs.Held.{Part}
use Rattle.tank_links.specs.Groups.{links_into, links_out_of, joined}

abbrev pub end_in : List Link → ℕ → ℕ
end_in table i = (get_or table i blank_link).end

abbrev pub start_in : List Link → ℕ → ℕ
start_in table i = (get_or table i blank_link).start

-- the first n links begin and end at nodes
pub record EndsInside (table : List Link) (n : ℕ) : Type 0 where
  pub most : n ≤ 384
  pub end : (i : ℕ) → i < n → end_in table i < 256
  pub start : (i : ℕ) → i < n → start_in table i < 256

-- those whose node, by f, is j
abbrev pub at : (ℕ → ℕ) → ℕ → ℕ → List ℕ
at f n j = chosen (λ i. eqb (f i) j) n

abbrev pub into_in : List Link → ℕ → List ℕ → ℕ → List ℕ
into_in table count nodes k = at (end_in table) count (get_or nodes k 0)

abbrev pub out_of_in : List Link → ℕ → List ℕ → ℕ → List ℕ
out_of_in table count nodes k = at (start_in table) count (get_or nodes k 0)

abbrev pub group_in : List Link → ℕ → List ℕ → ℕ → List ℕ
group_in table count nodes k = into_in table count nodes k ++ out_of_in table count nodes k

abbrev pub begin_in : List Link → ℕ → List ℕ → ℕ → ℕ
begin_in table count nodes k = length (joined (group_in table count nodes) k)

abbrev pub middle_in : List Link → ℕ → List ℕ → ℕ → ℕ
middle_in table count nodes k = begin_in table count nodes k + length (into_in table count nodes k)

-- ---- what a table that is laid out has: the links of tank k, at node j, in two parts
pub record GroupLaid (p : Project) (begins middles links : List ℕ) (k j : ℕ) : Type 0 where
  pub into : Part links (get_or begins k 0) (get_or middles k 0 - get_or begins k 0) (links_into p j)
  pub out : Part links (get_or middles k 0) (get_or begins (k + 1) 0 - get_or middles k 0) (links_out_of p j)

abbrev pub GroupsLaid : Project → List ℕ → List ℕ → List ℕ → List ℕ → ℕ → Type 0
GroupsLaid p nodes begins middles links n = (k : ℕ) → k < n → GroupLaid p begins middles links k (get_or nodes k 0)
