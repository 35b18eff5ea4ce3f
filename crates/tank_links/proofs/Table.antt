-- Document 02, R-8: "each group is a rearrangement of exactly the links with an end at its tank, in document 01's order", of any table that is the one laid
-- out. Assumes nothing.
use Prim.Native.Nat.{ℕ, suc, ◌+◌, ◌-◌, ◌≤◌, ◌<◌}
use mathlib.Core.Path.{◌≡◌, ap, ◌∙◌}
use mathlib.Core.Bool.{true, ◌&&◌}
use mathlib.Core.List.{List}
use native.Mathlib.Numerals.{add-one}
use native.Mathlib.Omega.{arith}
use lib.Dec.{eqb}
use lib.ListN.{length, get_or, take, drop, length-append, length-drop}
use lib.Seq.{ext_get_or, get_or-take, get_or-drop, length-take-le}
use Rattle.clock.specs.Demand3.{count_of}
use Rattle.model.specs.declared.project.Project.{Project}
use Rattle.model.proofs.Loops.{both_right}
use Rattle.tables.specs.Fit.{TablesFit}
use Rattle.run_tables.specs.Chosen.{chosen}
use Rattle.tank_links.specs.Groups.{touches, links_into, links_out_of, group, tank_count, tank_node, begin, begins_of, middles_of, entries_of, begins_with, is_laid_out}
use Rattle.tank_links.proofs.Groups.{rearranged, group_at, grows}
use Rattle.tank_links.proofs.Judging.{with_long, next_begin, stands}

-- what an array has from one place up to another
abbrev pub between : ℕ → ℕ → List ℕ → List ℕ
between from to array = take (to - from) (drop from array)

module _ (p : Project) (begins middles links : List ℕ) (laid : is_laid_out p begins middles links ≡ true) (k : ℕ) (h : k < tank_count p) where
  abbrev from : ℕ
  from = get_or begins k 0

  abbrev to : ℕ
  to = get_or begins (k + 1) 0

  abbrev own : List ℕ
  own = group p (tank_node p k)

  first : from ≡ begin p k
  first = (stands p begins middles links laid).first k (omega arith)

  last : to ≡ begin p (suc k)
  last = ap (λ (m : ℕ). get_or begins m 0) (add-one k) ∙ (stands p begins middles links laid).first (suc k) h

  many : to ≡ from + length own
  many = omega (arith, first, last, next_begin p k, length-append (links_into p (tank_node p k)) (links_out_of p (tank_node p k)))

  most : to ≤ begin p (tank_count p)
  most = omega (arith, last, grows (λ m. group p (tank_node p m)) (tank_count p) (suc k) h)

  room : to ≤ length links
  unfolding is_laid_out entries_of
  room = omega (arith, most, with_long links (entries_of p) (both_right (begins_with begins (begins_of p) && begins_with middles (middles_of p)) _ laid))

  long : length (between from to links) ≡ length own
  long = length-take-le (to - from) (drop from links) (omega (arith, room, length-drop from links)) ∙ omega (arith, many)

  same : (i : ℕ) → i < length own → get_or (between from to links) i 0 ≡ get_or own i 0
  unfolding entries_of
  same i l =
      get_or-take (to - from) (drop from links) i 0 (omega (arith, many))
      ∙ get_or-drop from links i 0
      ∙ ap (λ (m : ℕ). get_or links (m + i) 0) first
      ∙ (stands p begins middles links laid).entry (begin p k + i) (omega (arith, many, most, first))
      ∙ group_at (λ m. group p (tank_node p m)) (tank_count p) k i h l

  -- what stands from where a tank begins up to where the next one does is its group, "in link order, those into it first"
  pub group_of_table : between from to links ≡ group p (tank_node p k)
  group_of_table = ext_get_or 0 (between from to links) own long (λ i l. same i (omega (arith, long)))

  -- every link number is as often in it as among the links with an end at the tank
  pub rearranged_in_table : TablesFit p → (i : ℕ) → count_of (eqb i) (between from to links) ≡ count_of (eqb i) (chosen (touches p (tank_node p k)) p.counts.links)
  rearranged_in_table fit i = ap (count_of (eqb i)) group_of_table ∙ rearranged fit (tank_node p k) i
