-- The sizes of a load's numbers and of the sums of flows. Assumes nothing.
use mathlib.Core.Path.{◌≡◌, refl, sym, ap, ◌∙◌, subst}
use mathlib.Core.Bool.{Bool, true, false, cond}
use mathlib.Core.List.{List}
use mathlib.Core.Logic.{⊎_elim}
use Prim.Native.Nat.{ℕ, zero, suc, ◌+◌, ◌*◌, ◌^◌, ◌≤◌, ◌<◌}
use native.Mathlib.Nat.{le_refl, eq-or-lt_of_le}
use native.Mathlib.Omega.{arith}
use lib.Dec.{T, eqb, lit≤}
use lib.Ieee.{Float}
use Rattle.number.specs.Bounds.{Within}
use Rattle.number.specs.Constants.{decimal}
use Rattle.number.specs.Operators.{◌⊕◌, ◌⊖◌}
use Rattle.number.specs.Order.{within}
use Rattle.number.proofs.Bounds.{exact_whole, within_mono, within_add, within_sub, within_cond}
use Rattle.number.proofs.Range.{within_of_test}
use Rattle.model.specs.Blank.{node_at, link_at, link_state_at}
use Rattle.model.specs.Loops.{through}
use Rattle.model.specs.Nodes.{is_junction}
use Rattle.model.specs.declared.project.Project.{Project}
use Rattle.model.specs.declared.state.State.{State}
use Rattle.model.proofs.Keeps.{keeps}
use Rattle.model.proofs.Loops.{held_at}
use Rattle.tables.specs.Fit.{TablesFit}
use Rattle.judge.specs.Fit.{StateFit}
use Rattle.load.specs.Loads.{value_at, values_before, value_count, shape_ok, value_ok, values_ok, load_fault, link_flow, net_inflow}
use Rattle.solver.specs.Closing.{flow_into, flow_out_of, tank_inflow}
use Rattle.calls_sound.proofs.Numbers.{zero_within}

-- ---- a load's numbers
more : (p : Project) (i : ℕ) → values_before p i ≤ values_before p (suc i)
unfolding values_before
more p i = omega arith

before_grows : (p : Project) (n i : ℕ) → i ≤ n → values_before p i ≤ values_before p n
before_grows p zero i l = let z : i ≡ 0 = omega arith in rw z (le_refl (values_before p 0))
before_grows p (suc n) i l =
    ⊎_elim (λ e. rw e (le_refl (values_before p (suc n)))) (λ m. let a = before_grows p n i (omega arith) in let b = more p n in omega arith) (eq-or-lt_of_le l)

values_pass : (p : Project) (words : List ℕ) → eqb (load_fault p words) 0 ≡ true → values_ok (value_count p) words ≡ true
unfolding load_fault
values_pass p words e = go (shape_ok (value_count p) words) (values_ok (value_count p) words) e
  where
    go : (a b : Bool) → eqb (cond a (cond b 0 8) 7) 0 ≡ true → b ≡ true
    go true true e = refl
    go true false e = e
    go false b e = absurd (no e)
      where
        no : false ≡ true → ⊥
        no q = subst (λ (b : Bool). T b) (sym q) tt

is_true : {b : Bool} → b ≡ true → T b
is_true e = rw e tt

value_within : (p : Project) (words : List ℕ) → eqb (load_fault p words) 0 ≡ true → (k : ℕ) → k < value_count p → Within (value_at words k) (10 ^ 12)
unfolding values_ok decimal
value_within p words e k l =
    within_of_test (value_at words k) (decimal 1000000000000 0) (10 ^ 12) (exact_whole (10 ^ 12) (lit≤ tt))
    (is_true (held_at (value_count p) (value_ok words) (values_pass p words e) k l))

pub loaded_flow_within : (p : Project) (words : List ℕ) → eqb (load_fault p words) 0 ≡ true → (i : ℕ) → i < p.counts.links → Within (value_at words i) (10 ^ 12)
unfolding value_count values_before
loaded_flow_within p words e i l = let a = before_grows p p.counts.nodes 0 (omega arith) in value_within p words e i (omega arith)

pub loaded_head_within : (p : Project) (words : List ℕ) → eqb (load_fault p words) 0 ≡ true → (i : ℕ) → i < p.counts.nodes → is_junction (node_at p i) ≡ true
    → Within (value_at words (values_before p i)) (10 ^ 12)
loaded_head_within p words e i l j = value_within p words e (values_before p i) last
  where
    one : values_before p i + 1 ≤ values_before p (suc i)
    one = unfold values_before in rw j (omega arith)

    last : values_before p i < value_count p
    last = unfold value_count in (let a = before_grows p p.counts.nodes (suc i) (omega arith) in let b = one in omega arith)

-- ---- sums of flows, link by link
module _ {p : Project} (fit : TablesFit p) {s : State} (o : StateFit p s) (j : ℕ) where
  grown : (k : ℕ) → k ≤ 768 → {sum : Float} → Within sum (k * 10 ^ 12) → Within sum (suc k * 10 ^ 12)
  grown k l w = within_mono (omega arith) w

  added : (k i : ℕ) → k < 768 → i < p.counts.links → {sum : Float} → Within sum (k * 10 ^ 12) → Within (sum ⊕ (link_state_at s i).flow) (suc k * 10 ^ 12)
  added k i h l w = within_add (exact_whole (suc k * 10 ^ 12) (omega arith)) (omega arith) w (o.link i l).flow

  taken : (k i : ℕ) → k < 768 → i < p.counts.links → {sum : Float} → Within sum (k * 10 ^ 12) → Within (sum ⊖ (link_state_at s i).flow) (suc k * 10 ^ 12)
  taken k i h l w = within_sub (exact_whole (suc k * 10 ^ 12) (omega arith)) (omega arith) w (o.link i l).flow

  pub net_inflow_within : Within (net_inflow p s j) (10 ^ 20)
  unfolding net_inflow
  net_inflow_within =
      let few = fit.few.links in
      within_mono (omega arith)
      (keeps (λ i (sum : Float). Within sum (i * 10 ^ 12)) (link_flow p s j) (decimal 0 0) p.counts.links (zero_within (0 * 10 ^ 12))
      (λ i sum l w.
      within_cond (eqb (link_at p i).end j) (added i i (omega arith) l w)
      (within_cond (eqb (link_at p i).start j) (taken i i (omega arith) l w) (grown i (omega arith) w))))

  into_within : Within (through p.counts.links (flow_into p s j) (decimal 0 0)) (384 * 10 ^ 12)
  into_within =
      let few = fit.few.links in
      within_mono (omega arith)
      (keeps (λ i (sum : Float). Within sum (i * 10 ^ 12)) (flow_into p s j) (decimal 0 0) p.counts.links (zero_within (0 * 10 ^ 12))
      (λ i sum l w. within_cond (eqb (link_at p i).end j) (added i i (omega arith) l w) (grown i (omega arith) w)))

  pub tank_inflow_within : Within (tank_inflow p s j) (10 ^ 20)
  unfolding tank_inflow
  tank_inflow_within =
      let few = fit.few.links in
      within_mono (omega arith)
      (keeps (λ i (sum : Float). Within sum ((384 + i) * 10 ^ 12)) (flow_out_of p s j) _ p.counts.links (within_mono (omega arith) into_within)
      (λ i sum l w.
      within_cond (eqb (link_at p i).start j) (within_mono (omega arith) (taken (384 + i) i (omega arith) l w)) (within_mono (omega arith) w)))
