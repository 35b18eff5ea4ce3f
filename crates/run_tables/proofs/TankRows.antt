-- The tanks' numbers, stored one tank after the other. Assumes nothing.
use Prim.Native.Nat.{ℕ, ◌+◌, ◌*◌, ◌≤◌, ◌<◌}
use mathlib.Core.Path.{◌≡◌, refl, sym, ap, ◌∙◌, subst}
use mathlib.Core.Bool.{Bool, true, false, not, cond, true≢false}
use mathlib.Core.List.{List, [], ◌∷◌}
use mathlib.Core.Logic.{⊎_elim}
use native.Mathlib.Nat.{eq-or-lt_of_le}
use native.Mathlib.Omega.{arith}
use lib.Dec.{eqb}
use lib.Ieee.{Float, nan}
use lib.ListN.{get_or, set, length, length-set}
use lib.Seq.{get_or-set_same, get_or-set_other}
use Rattle.model.specs.Blank.{blank_node}
use Rattle.model.specs.Nodes.{is_tank_type}
use Rattle.model.specs.declared.node.Junction.{Junction}
use Rattle.model.specs.declared.node.Node.{Node}
use Rattle.model.specs.declared.node.NodeType.{NodeType}
use Rattle.model.specs.declared.node.NodeType.TheVariants as types
use Rattle.model.specs.declared.node.Reservoir.{Reservoir}
use Rattle.tank.specs.declared.tank.Tank.{Tank}
use Rattle.run_tables.specs.Blocks.{block}
use Rattle.run_tables.proofs.Blocks.{block_length, block_before, block_first, block_at}
use Rattle.run_tables.specs.Rows.{tank_at}
use Rattle.run_tables.specs.Held.{Pushed}
use Rattle.run_tables.proofs.Listed.{Chosen, chosen_at}

-- an index that was pushed
pub pushed_at : {test : ℕ → Bool} {n : ℕ} {array : List ℕ} {count : ℕ} → Pushed test n array count → (k : ℕ) → k < count → Chosen test n (get_or array k 0)
pushed_at {test} {n} {array} {count} h k l = subst (Chosen test n) (sym (h.each k l)) (chosen_at test n k (omega (arith, h.many)))

pub no_reservoir : {k : NodeType} {r : Reservoir} → k ≡ types.Reservoir r → is_tank_type k ≡ true → ⊥
no_reservoir e h = true≢false (sym h ∙ ap is_tank_type e)

pub no_junction : {k : NodeType} {j : Junction} → k ≡ types.Junction j → is_tank_type k ≡ true → ⊥
no_junction e h = true≢false (sym h ∙ ap is_tank_type e)

abbrev rest : Tank → List Float
rest t = t.initial_level.0 ∷ t.min_level.0 ∷ t.max_level.0 ∷ t.diameter.0 ∷ []

abbrev pub numbers_with : List Float → ℕ → Tank → List Float
numbers_with numbers k t = block numbers (5 * k) (t.elevation.0 ∷ t.initial_level.0 ∷ t.min_level.0 ∷ t.max_level.0 ∷ t.diameter.0 ∷ [])

tank_made : {a b c d e a' b' c' d' e' : Float} {f f' : Bool} → a ≡ a' → b ≡ b' → c ≡ c' → d ≡ d' → e ≡ e' → f ≡ f'
    → ◌≡◌ {A = Tank}
    (record { elevation = record { 0 = a }; initial_level = record { 0 = b }; min_level = record { 0 = c }; max_level = record { 0 = d }; diameter = record { 0 = e }; overflow = f })
    (record { elevation = record { 0 = a' }; initial_level = record { 0 = b' }; min_level = record { 0 = c' }; max_level = record { 0 = d' }; diameter = record { 0 = e' }; overflow = f' })
tank_made a b c d e f = rw (a, b, c, d, e, f)

flagged : (x : Bool) → not (eqb (cond x 1 0) 0) ≡ x
flagged true = refl
flagged false = refl

-- the first k tanks are at their nodes
pub record Tanks (table : List Node) (nodes : List ℕ) (n k : ℕ) (numbers : List Float) (overflows : List ℕ) : Type 0 where
  pub most : k ≤ n
  pub long : length numbers ≡ 1280
  pub wide : length overflows ≡ 256
  pub each : (j : ℕ) → j < k → (get_or table (get_or nodes j 0) blank_node).kind ≡ types.Tank (tank_at numbers overflows j)

module _ {table : List Node} {nodes : List ℕ} {n : ℕ} {numbers : List Float} {overflows : List ℕ} where
  pub tanks_none : 1280 ≡ length numbers → 256 ≡ length overflows → Tanks table nodes n 0 numbers overflows
  tanks_none a b = record { most = omega arith; long = sym a; wide = sym b; each = λ k l. absurd (omega arith) }

  pub tanks_put : {k : ℕ} {ns : List Float} {t : Tank} → Tanks table nodes n k numbers overflows → k < n → n ≤ 256
      → (get_or table (get_or nodes k 0) blank_node).kind ≡ types.Tank t → ns ≡ numbers_with numbers k t → {w : ℕ} → w ≡ cond t.overflow 1 0 → Tanks table nodes n (k + 1) ns (set overflows k w)
  tanks_put {k} {ns} {t} h l m e a b = rw (a, b) (record {
    most = omega arith;
    long = block_length nan (t.elevation.0 ∷ rest t) numbers (5 * k) ∙ h.long;
    wide = length-set overflows k (cond t.overflow 1 0) ∙ h.wide;
    each = λ j q.
        ⊎_elim (λ s. rw s (e ∙ ap types.Tank (sym here))) (λ s. h.each j s ∙ ap types.Tank (sym (before j s))) (eq-or-lt_of_le (omega arith));
  })
    where
      nl : 5 * k + 5 ≤ length numbers
      nl = omega (arith, h.long)

      here : tank_at (numbers_with numbers k t) (set overflows k (cond t.overflow 1 0)) k ≡ t
      here =
          tank_made
          (block_first nan t.elevation.0 (rest t) numbers (5 * k) (omega (arith, nl)))
          (block_at nan t.elevation.0 (rest t) numbers (5 * k) 0 (omega arith) (omega (arith, nl)))
          (block_at nan t.elevation.0 (rest t) numbers (5 * k) 1 (omega arith) (omega (arith, nl)))
          (block_at nan t.elevation.0 (rest t) numbers (5 * k) 2 (omega arith) (omega (arith, nl)))
          (block_at nan t.elevation.0 (rest t) numbers (5 * k) 3 (omega arith) (omega (arith, nl)))
          (ap (λ (w : ℕ). not (eqb w 0)) (get_or-set_same overflows k (cond t.overflow 1 0) 0 (omega (arith, h.wide))) ∙ flagged t.overflow)

      before : (j : ℕ) → j < k → tank_at (numbers_with numbers k t) (set overflows k (cond t.overflow 1 0)) j ≡ tank_at numbers overflows j
      before j s =
          tank_made
          (block_before nan (t.elevation.0 ∷ rest t) numbers (5 * k) (5 * j) (omega arith))
          (block_before nan (t.elevation.0 ∷ rest t) numbers (5 * k) (5 * j + 1) (omega arith))
          (block_before nan (t.elevation.0 ∷ rest t) numbers (5 * k) (5 * j + 2) (omega arith))
          (block_before nan (t.elevation.0 ∷ rest t) numbers (5 * k) (5 * j + 3) (omega arith))
          (block_before nan (t.elevation.0 ∷ rest t) numbers (5 * k) (5 * j + 4) (omega arith))
          (ap (λ (w : ℕ). not (eqb w 0)) (get_or-set_other overflows k j (cond t.overflow 1 0) 0 (λ q. omega arith)))
