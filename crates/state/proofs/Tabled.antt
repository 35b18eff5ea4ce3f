-- The table of an instant's multipliers gives each pattern its multiplier, and node by node the pattern's demand. Assumes nothing.
use Rattle.std.specs.Prelude.{None, Option, Some}
use Prim.Native.Nat.{ℕ, ◌*◌, ◌≤◌, ◌<◌}
use mathlib.Core.Path.{◌≡◌, refl, sym, ap, ◌∙◌}
use mathlib.Core.Bool.{Bool, true, false, cond}
use mathlib.Core.List.{List, []}
use native.Mathlib.Omega.{arith}
use lib.Dec.{ltb}
use lib.Ieee.{Float, nan}
use lib.ListN.{get_or, set, length, take, drop, length-drop}
use lib.Seq.{get_or-set_same, get_or-set_other, take_all}
use borrow.Author.Tests.{ltb-true, ltb-false}
use Rattle.number.specs.Constants.{decimal}
use Rattle.number.specs.Operators.{◌·◌, ◌⊕◌}
use Rattle.model.specs.Blank.{blank_node}
use Rattle.model.specs.Loops.{through}
use Rattle.model.specs.Patterns.{period, multiplier_at, pattern_at}
use Rattle.model.specs.declared.node.Demand.{Demand}
use Rattle.model.specs.declared.node.Demands.{Demands}
use Rattle.model.specs.declared.node.Demands.TheVariants.{NoDemand, One, Two, Three, Four}
use Rattle.model.specs.declared.node.Node.{Node}
use Rattle.model.specs.declared.node.NodeType.{NodeType}
use Rattle.model.specs.declared.node.NodeType.TheVariants.{Reservoir, Tank, Junction}
use Rattle.model.specs.declared.project.Project.{Project}
use Rattle.model.proofs.Each.{changed, same_length, below}
use Rattle.model.proofs.Pointwise.{same_turns}
use Rattle.pattern_view.specs.View.{multiplier_in_force}
use Rattle.run_patterns.specs.Filling.{multiplier_put, multipliers_filled, demand_added, demand_sum}
use Rattle.run_sources.specs.Lengths.{length_word, LengthsLaid}
use Rattle.run_sources.specs.Sources.{place_of, listed, demands_in, no_demand, demand_in, base_at, place_at, DemandsLaid}
use Rattle.state_patterns.specs.Patterns.{or_default, demand_of, sum_of, junction_demand, pattern_demand}
use Rattle.state.specs.Patterns.{multiplier_of}

-- ---- lengths as words: what is taken from the table of the multipliers is the same
take_word : (n : ℕ) (xs : List Float) → length xs ≤ 5376 → take (length_word n) xs ≡ take n xs
take_word n xs l = by (ltb n 5376) refl
  where
    by : (b : Bool) → ltb n 5376 ≡ b → take (cond b n 5376) xs ≡ take n xs
    by true e = refl
    by false e = take_all 5376 xs l ∙ sym (take_all n xs (omega (arith, l, ltb-false n 5376 e)))

pub words_fill : {lengths words : List ℕ} (multipliers : List Float) (start timestep time : ℕ) (table : List Float) → LengthsLaid lengths words → length multipliers ≡ 5376
    → multipliers_filled words multipliers start timestep time table ≡ multipliers_filled lengths multipliers start timestep time table
unfolding multipliers_filled
words_fill {lengths} {words} multipliers start timestep time table laid long =
    ap (λ (t : List Float). set t 32 (decimal 1 0))
    (same_turns 32 (multiplier_put words multipliers start timestep time) (multiplier_put lengths multipliers start timestep time) table
    (λ k t l. ap (λ (xs : List Float). set t k (multiplier_in_force xs start timestep time)) (taken k l)))
  where
    taken : (k : ℕ) → k < 32 → take (get_or words k 0) (drop (k * 168) multipliers) ≡ take (get_or lengths k 0) (drop (k * 168) multipliers)
    taken k l =
        ap (λ (n : ℕ). take n (drop (k * 168) multipliers)) (laid.each k l)
        ∙ take_word (get_or lengths k 0) (drop (k * 168) multipliers) (omega (arith, long, length-drop (k * 168) multipliers))

-- ---- multipliers
module _ (p : Project) (time : ℕ) (table : List Float) where
  -- the table filled
  abbrev pub multipliers_of : List Float
  multipliers_of = multipliers_filled p.lengths p.multipliers p.options.pattern_start p.options.pattern time table

  abbrev t : ℕ
  t = period p.options.pattern_start p.options.pattern time

  abbrev value : ℕ → Float → Float
  value k x = multiplier_at (pattern_at p k) t

  module _ (long : length table ≡ 33) where
    none_at : get_or multipliers_of 32 nan ≡ decimal 1 0
    unfolding multipliers_filled multiplier_in_force pattern_at
    none_at = get_or-set_same (through 32 (changed value nan) table) 32 (decimal 1 0) nan (omega (arith, same_length value nan table 32))

    entry : (k : ℕ) (b : Bool) → ltb k 32 ≡ b → get_or multipliers_of (cond b k 32) nan ≡ cond b (multiplier_at (pattern_at p k) t) (decimal 1 0)
    unfolding multipliers_filled multiplier_in_force pattern_at
    entry k true e =
        let l : k < 32 = ltb-true k 32 e in
        get_or-set_other (through 32 (changed value nan) table) 32 k (decimal 1 0) nan (λ q. omega arith) ∙ below value nan table 32 k l (omega arith)
    entry k false e = none_at

    pub multiplier_is : (q : Option ℕ) → get_or multipliers_of (place_of q) nan ≡ multiplier_of p t q
    unfolding multiplier_of
    multiplier_is None = none_at
    multiplier_is (Some k) = entry k (ltb k 32) refl

-- ---- demands
-- a list of demands, added up
abbrev added_up : (Demand → Float) → List Demand → Float
added_up f ds = through (length ds) (λ j x. x ⊕ f (get_or ds j no_demand)) (decimal 0 0)

sum_is : (f : Demand → Float) (ds : Demands) → added_up f (listed ds) ≡ sum_of f ds
unfolding through sum_of
sum_is f NoDemand = refl
sum_is f (One a) = refl
sum_is f (Two a b) = refl
sum_is f (Three a b c) = refl
sum_is f (Four a b c d) = refl

node_sum : (m : Option ℕ → Float) (default : Option ℕ) (scale : Float) (k : NodeType) → added_up (demand_of m default scale) (demands_in k) ≡ pattern_demand m default scale k
unfolding through junction_demand
node_sum m default scale (Reservoir r) = refl
node_sum m default scale (Tank t) = refl
node_sum m default scale (Junction j) = by j.disabled
  where
    by : (b : Bool) → added_up (demand_of m default scale) (cond b [] (listed j.demands)) ≡ cond b (decimal 0 0) (sum_of (demand_of m default scale) j.demands)
    by true = refl
    by false = sum_is (demand_of m default scale) j.demands

-- one demand, by its base, its place in the table and what stands there
one_is : (m : Option ℕ → Float) (default : Option ℕ) (scale x base : Float) (d : Demand) (table : List Float) (place : ℕ) → ((q : Option ℕ) → get_or table (place_of q) nan ≡ m q)
    → base ≡ d.base → place ≡ place_of (or_default default d.pattern) → x ⊕ base · get_or table place nan · scale ≡ x ⊕ demand_of m default scale d
unfolding demand_of
one_is m default scale x base d table place h b e = rw (b, e, h (or_default default d.pattern))

pub demand_is :
    {nodes : List Node} {n : ℕ} {default : Option ℕ} {counts : List ℕ} {bases : List Float} {places : List ℕ} → DemandsLaid nodes n default counts bases places
    → (scale : Float) (m : Option ℕ → Float) (table : List Float) → ((q : Option ℕ) → get_or table (place_of q) nan ≡ m q) → (i : ℕ) → i < n
    → demand_sum bases places table scale i (get_or counts i 0) ≡ pattern_demand m default scale (get_or nodes i blank_node).kind
unfolding demand_sum
demand_is {nodes} {n} {default} {counts} {bases} {places} laid scale m table h i l =
    same_turns (get_or counts i 0) (demand_added bases places table scale i) turn (decimal 0 0)
    (λ j x k. one_is m default scale x (base_at bases i j) (demand_in nodes i j) table (place_at places i j) h (laid.base i j l k) (laid.place i j l k))
    ∙ ap (λ (k : ℕ). through k turn (decimal 0 0)) (laid.count.each i l)
    ∙ node_sum m default scale (get_or nodes i blank_node).kind
  where
    turn : ℕ → Float → Float
    turn j x = x ⊕ demand_of m default scale (demand_in nodes i j)
