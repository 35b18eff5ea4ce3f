-- The arrays, filled entry by entry, are the tables. Assumes nothing.
use Rattle.std.specs.Prelude.{None, Option, Some}
use Prim.Native.Nat.{ℕ, zero, suc, ◌+◌, ◌*◌, ◌/◌, ◌%◌, ◌≤◌, ◌<◌}
use Rattle.std.specs.Option.{option_or}
use mathlib.Core.Path.{◌≡◌, refl, sym, ap, ◌∙◌}
use mathlib.Core.Bool.{Bool, true, false, cond}
use mathlib.Core.List.{List, []}
use native.Mathlib.Omega.{arith}
use lib.Ieee.{Float, nan}
use lib.ListN.{get_or, length}
use Rattle.model.specs.Blank.{blank_node}
use Rattle.model.specs.Nodes.{elevation}
use Rattle.model.specs.declared.node.Demand.{Demand}
use Rattle.model.specs.declared.node.Demands.{Demands}
use Rattle.model.specs.declared.node.Demands.TheVariants.{NoDemand, One, Two, Three, Four}
use Rattle.model.specs.declared.node.Node.{Node}
use Rattle.model.specs.declared.node.NodeType.{NodeType}
use Rattle.model.specs.declared.node.NodeType.TheVariants.{Reservoir, Tank, Junction}
use Rattle.state_patterns.specs.Patterns.{or_default}
use Rattle.run_state.proofs.Filled.{Filled}
use Rattle.run_sources.specs.Sources.{place_of, listed, demands_in, no_demand, demand_in, four, CountsLaid, DemandsLaid, head_pattern_of}

-- ---- what stands at an index of each array
abbrev pub count_of : List Node → ℕ → ℕ
count_of table i = length (demands_in (get_or table i blank_node).kind)

abbrev pub base_of : List Node → ℕ → Float
base_of table a = (demand_in table (a / 4) (a % 4)).base

abbrev pub pattern_of : List Node → Option ℕ → ℕ → ℕ
pattern_of table default a = place_of (or_default default (demand_in table (a / 4) (a % 4)).pattern)

abbrev pub elevation_of : List Node → List ℕ → ℕ → Float
elevation_of table nodes r = elevation (get_or table (get_or nodes r 0) blank_node)

abbrev pub head_place_of : List Node → List ℕ → ℕ → ℕ
head_place_of table nodes r = place_of (head_pattern_of (get_or table (get_or nodes r 0) blank_node).kind)

-- no node has more than four
listed_most : (ds : Demands) → length (listed ds) ≤ 4
listed_most NoDemand = omega arith
listed_most (One a) = omega arith
listed_most (Two a b) = omega arith
listed_most (Three a b c) = omega arith
listed_most (Four a b c d) = omega arith

pub demands_most : (k : NodeType) → length (demands_in k) ≤ 4
demands_most (Reservoir r) = omega arith
demands_most (Tank t) = omega arith
demands_most (Junction j) = by j.disabled
  where
    by : (b : Bool) → length (cond b [] (listed j.demands)) ≤ 4
    by true = omega arith
    by false = listed_most j.demands

-- ---- the tables
pub counts_laid : {table : List Node} {n i : ℕ} {counts : List ℕ} → Filled 0 256 (count_of table) i counts → n ≤ i → CountsLaid table n counts
counts_laid f l = record { each = λ k h. f.each k (omega arith) }

-- entry 4 * i + j is demand j of node i
pub demand_there : (table : List Node) (i j : ℕ) → j < 4 → demand_in table i j ≡ demand_in table ((4 * i + j) / 4) ((4 * i + j) % 4)
demand_there table i j k =
    let e : i ≡ (4 * i + j) / 4 = omega (arith, k) in
    let f : j ≡ (4 * i + j) % 4 = omega (arith, k) in
    ap (demand_in table i) f ∙ ap (λ (x : ℕ). demand_in table x ((4 * i + j) % 4)) e

-- of its four entries, entry j
four_at : (ds : List Demand) (j : ℕ) → j < 4 → get_or (four (λ (d : Demand). d) ds) j no_demand ≡ get_or ds j no_demand
four_at ds zero l = refl
four_at ds (suc zero) l = refl
four_at ds (suc (suc zero)) l = refl
four_at ds (suc (suc (suc zero))) l = refl
four_at ds (suc (suc (suc (suc j)))) l = absurd (omega arith)

pub entry_there : {ds entries : List Demand} (table : List Node) (i j : ℕ) → entries ≡ four (λ (d : Demand). d) ds → ds ≡ demands_in (get_or table i blank_node).kind → j < 4
    → get_or entries j no_demand ≡ demand_in table ((4 * i + j) / 4) ((4 * i + j) % 4)
entry_there {ds} table i j e is l = ap (λ (x : List Demand). get_or x j no_demand) e ∙ four_at ds j l ∙ ap (λ (x : List Demand). get_or x j no_demand) is ∙ demand_there table i j l

-- its place, the default pattern put in where it names none
or_is : (default pattern : Option ℕ) → option_or pattern default ≡ or_default default pattern
or_is default None = refl
or_is default (Some k) = refl

pub place_there : {pattern : Option ℕ} {place : ℕ} {d e : Demand} (default : Option ℕ) → place ≡ place_of pattern → pattern ≡ option_or d.pattern default → d ≡ e
    → place ≡ place_of (or_default default e.pattern)
place_there {e = e} default p o q = p ∙ ap place_of (o ∙ ap (λ (x : Demand). option_or x.pattern default) q ∙ or_is default e.pattern)

-- as far as a number that is equal
pub far : {A : Type 0} {d : A} {n : ℕ} {g : ℕ → A} {i k : ℕ} {out : List A} → Filled d n g i out → i ≡ k → Filled d n g k out
far f q = rw (← q) f

pub demands_laid : {table : List Node} {n i : ℕ} {default : Option ℕ} {counts : List ℕ} {bases : List Float} {patterns : List ℕ} → Filled 0 256 (count_of table) i counts
    → Filled nan 1024 (base_of table) (4 * i) bases → Filled 0 1024 (pattern_of table default) (4 * i) patterns → n ≤ i → DemandsLaid table n default counts bases patterns
demands_laid {table} {n} {i} {default} {counts} {bases} {patterns} a b c most = record {
  count = counts_laid {table = table} a most;
  base = λ k j l q. b.each (4 * k + j) (inside k j l (few k j l q)) ∙ sym (ap (λ (d : Demand). d.base) (demand_there table k j (few k j l q)));
  place = λ k j l q. c.each (4 * k + j) (inside k j l (few k j l q)) ∙ sym (ap (λ (d : Demand). place_of (or_default default d.pattern)) (demand_there table k j (few k j l q)));
}
  where
    few : (k j : ℕ) → k < n → j < get_or counts k 0 → j < 4
    few k j l q = omega (arith, q, (counts_laid {table = table} a most).each k l, demands_most (get_or table k blank_node).kind)

    inside : (k j : ℕ) → k < n → j < 4 → 4 * k + j < 4 * i
    inside k j l q = omega (arith, l, q, most)
