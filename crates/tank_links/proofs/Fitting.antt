-- The groups of nodes that are distinct have each link at most twice, once by its end and once by its start, so that they fit in the table. Assumes nothing.
use Prim.Native.Nat.{ℕ, zero, suc, ◌+◌, ◌≤◌, ◌<◌}
use mathlib.Core.Path.{◌≡◌, refl, sym, ◌∙◌}
use mathlib.Core.Bool.{Bool, true, false, ◌||◌, true≢false}
use mathlib.Core.List.{List}
use native.Mathlib.Omega.{arith}
use borrow.Author.Tests.{eqb-true}
use lib.Dec.{eqb}
use lib.ListN.{get_or, length, length-append}
use Rattle.model.specs.declared.link.Link.{Link}
use Rattle.run_tables.specs.Chosen.{chosen}
use Rattle.run_tables.specs.Held.{Distinct}
use Rattle.run_tables.proofs.Listed.{chosen_few, chosen_both}
use Rattle.tank_links.specs.Groups.{joined}
use Rattle.tank_links.specs.Laid.{end_in, start_in, into_in, out_of_in, group_in}

-- the node of a link, by f, is one of the first k
abbrev seen : (ℕ → ℕ) → List ℕ → ℕ → ℕ → Bool
seen f nodes zero = λ i. false
seen f nodes (suc k) = λ i. seen f nodes k i || eqb (f i) (get_or nodes k 0)

apart : (f : ℕ → ℕ) (nodes : List ℕ) (k i x : ℕ) → ((j : ℕ) → j < k → get_or nodes j 0 ≡ x → ⊥) → seen f nodes k i ≡ true → eqb (f i) x ≡ true → ⊥
apart f nodes zero i x h s m = true≢false (sym s)
apart f nodes (suc k) i x h s m = by (seen f nodes k i) (eqb (f i) (get_or nodes k 0)) refl refl s (apart f nodes k i x (λ j l. h j (omega arith)))
  where
    by : (a b : Bool) → seen f nodes k i ≡ a → eqb (f i) (get_or nodes k 0) ≡ b → (a || b) ≡ true → (seen f nodes k i ≡ true → eqb (f i) x ≡ true → ⊥) → ⊥
    by true b e g t r = r e m
    by false true e g t r = h k (omega arith) (sym (eqb-true (f i) (get_or nodes k 0) g) ∙ eqb-true (f i) x m)
    by false false e g t r = true≢false (sym t)

next_seen : (f : ℕ → ℕ) (nodes : List ℕ) (n k : ℕ) → ((j : ℕ) → j < k → get_or nodes j 0 ≡ get_or nodes k 0 → ⊥)
    → length (chosen (seen f nodes (suc k)) n) ≡ length (chosen (seen f nodes k) n) + length (chosen (λ i. eqb (f i) (get_or nodes k 0)) n)
next_seen f nodes n k h = chosen_both (seen f nodes k) (λ i. eqb (f i) (get_or nodes k 0)) n (λ i q. apart f nodes k i (get_or nodes k 0) h)

none : (n : ℕ) → length (chosen (λ i. false) n) ≡ 0
unfolding chosen
none zero = refl
none (suc n) = none n

module _ (table : List Link) (count : ℕ) (nodes : List ℕ) (n : ℕ) (distinct : Distinct nodes n) where
  total : (k : ℕ) → k ≤ n → length (joined (group_in table count nodes) k) ≡ length (chosen (seen (end_in table) nodes k) count) + length (chosen (seen (start_in table) nodes k) count)
  unfolding joined
  total zero h = omega (arith, none count)
  total (suc k) h =
      omega (
        arith,
        total k (omega arith),
        length-append (joined (group_in table count nodes) k) (group_in table count nodes k),
        length-append (into_in table count nodes k) (out_of_in table count nodes k),
        next_seen (end_in table) nodes count k (distinct k h),
        next_seen (start_in table) nodes count k (distinct k h),
      )

  pub groups_few : count ≤ 384 → (k : ℕ) → k ≤ n → length (joined (group_in table count nodes) k) ≤ 768
  groups_few few k h =
      omega (arith, total k h, chosen_few (seen (end_in table) nodes k) count, chosen_few (seen (start_in table) nodes k) count)
