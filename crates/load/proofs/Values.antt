-- How many numbers a load has: the links' and the junctions'. The place of a junction's head among them. Assumes nothing.
use Prim.Native.Nat.{ℕ, zero, suc, ◌+◌, ◌≤◌, ◌<◌}
use mathlib.Core.Path.{◌≡◌, sym, ap, ◌∙◌}
use mathlib.Core.Bool.{Bool, true, false, cond}
use mathlib.Core.List.{List, [], ◌∷◌, ◌++◌}
use mathlib.Core.Logic.{⊎_elim}
use native.Mathlib.Nat.{le_of_suc-le-suc, not-suc-le-zero, eq-or-lt_of_le}
use native.Mathlib.Omega.{arith}
use lib.ListN.{get_or, length, length-append, get_or-append}
use lib.Seq.{get_or-append_seam}
use Rattle.model.specs.declared.project.Project.{Project}
use Rattle.run_load_tables.specs.Laid.{junction_in}
use Rattle.run_loads.specs.Taking.{fault_of}
use Rattle.run_tables.specs.Chosen.{chosen}
use Rattle.run_tables.specs.Held.{Pushed}
use Rattle.run_tables.proofs.Listed.{chosen_few}
use Rattle.tables.specs.Fit.{TablesFit}
use Rattle.load.specs.Loads.{values_before, value_count, load_fault}

-- a project's junctions
abbrev pub junction_nodes : Project → ℕ → List ℕ
junction_nodes p i = chosen (junction_in p.nodes) i

pub values_before_lem : (p : Project) (i : ℕ) → values_before p i ≡ p.counts.links + length (junction_nodes p i)
unfolding values_before chosen
values_before_lem p zero = omega arith
values_before_lem p (suc i) = by (junction_in p.nodes i) (values_before_lem p i)
  where
    C : List ℕ
    C = junction_nodes p i

    by : (b : Bool) → values_before p i ≡ p.counts.links + length C → values_before p i + cond b 1 0 ≡ p.counts.links + length (cond b (C ++ (i ∷ [])) C)
    by true e = omega (arith, e, length-append C (i ∷ []))
    by false e = omega (arith, e)

-- the longest load has 384 flows and 256 heads
pub values_most_fit : {p : Project} → TablesFit p → value_count p ≤ 640
unfolding value_count
values_most_fit {p} t = omega (arith, values_before_lem p p.counts.nodes, chosen_few (junction_in p.nodes) p.counts.nodes, t.few.links, t.few.nodes)

-- ---- by the junctions that an array holds
pub values_are : (p : Project) {junctions : List ℕ} {n : ℕ} → Pushed (junction_in p.nodes) p.counts.nodes junctions n → p.counts.links + n ≡ value_count p
unfolding value_count
values_are p laid = sym (values_before_lem p p.counts.nodes ∙ ap (λ (k : ℕ). p.counts.links + k) (sym laid.many))

pub load_fault_is : (p : Project) {junctions : List ℕ} {n : ℕ} → Pushed (junction_in p.nodes) p.counts.nodes junctions n → (words : List ℕ)
    → fault_of (p.counts.links + n) words ≡ load_fault p words
unfolding load_fault
load_fault_is p laid words = ap (λ (k : ℕ). fault_of k words) (values_are p laid)

-- how many are chosen before the one at r
pub chosen_rank : (test : ℕ → Bool) (n r : ℕ) → r < length (chosen test n) → length (chosen test (get_or (chosen test n) r 0)) ≡ r
unfolding chosen
chosen_rank test zero r l = absurd (not-suc-le-zero l)
chosen_rank test (suc n) r l = by (test n) l (chosen_rank test n r)
  where
    C : List ℕ
    C = chosen test n

    by : (b : Bool) → r < length (cond b (C ++ (n ∷ [])) C) → (r < length C → length (chosen test (get_or C r 0)) ≡ r)
        → length (chosen test (get_or (cond b (C ++ (n ∷ [])) C) r 0)) ≡ r
    by false h before = before h
    by true h before =
        ⊎_elim
        (λ q. ap (λ (k : ℕ). length (chosen test (get_or (C ++ (n ∷ [])) k 0))) q ∙ ap (λ (k : ℕ). length (chosen test k)) (get_or-append_seam C n [] 0) ∙ sym q)
        (λ k. ap (λ (j : ℕ). length (chosen test j)) (get_or-append C (n ∷ []) 0 r k) ∙ before k)
        (eq-or-lt_of_le (le_of_suc-le-suc (omega (arith, h, length-append C (n ∷ [])))))
