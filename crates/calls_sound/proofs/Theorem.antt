-- Soundness, of the public calls: a start that is not refused is in order; from a state in order every call leads to a state in order, and only loads,
-- premises and closing by a table that is not the one laid out can be refused. Assumes nothing.
use mathlib.Core.Path.{◌≡◌, refl, sym, ◌∙◌}
use mathlib.Core.Bool.{Bool, true, false, ◌&&◌, cond}
use mathlib.Core.List.{List}
use Prim.Native.Nat.{ℕ, ◌+◌, ◌≤◌}
use native.Mathlib.Omega.{arith}
use lib.Dec.{eqb, ltb, lit≤}
use borrow.Author.Tests.{eqb-true}
use Rattle.model.specs.Blank.{blank_state}
use Rattle.model.specs.declared.project.Project.{Project}
use Rattle.model.specs.declared.state.State.{State}
use Rattle.model.proofs.Loops.{both_left, both_right}
use Rattle.tables.specs.Fit.{TablesFit}
use Rattle.tables.specs.Tables.{tables_ok}
use Rattle.tables.proofs.Fits.{tables_fit}
use Rattle.judge.specs.Fit.{StateFit}
use Rattle.judge.specs.Judgement.{in_order, state_ok}
use Rattle.judge.proofs.Fits.{state_fit, state_ok_lem}
use Rattle.state.specs.Start.{new_with_initial_values}
use Rattle.state.specs.Tanks.{update_tanks}
use Rattle.load.specs.Loads.{load_fault, take_load}
use Rattle.tank_links.specs.Groups.{is_laid_out}
use Rattle.solver.specs.Closing.{update_tank_links}
use Rattle.calls.specs.Calls.{gives, start, judged, patterns, controls, load, tank_links, tank_links_by, pressure, premise, premise_number}
use Rattle.premise.specs.Premise.{premise_truth_at}
use Rattle.calls.specs.declared.Called.{Called}
use Rattle.std.specs.Prelude.{Ok, Err}
use Rattle.calls.specs.declared.refusal.Refusal.TheVariants.{NoPremise}
use Rattle.calls_sound.proofs.Kept.{patterns_kept, controls_kept, pressure_kept, tanks_kept, tank_links_kept, load_kept}
use Rattle.calls_sound.proofs.Start.{start_fits}

-- ---- in order, as facts
pub tables_of : (p : Project) (s : State) → in_order p s ≡ true → tables_ok p ≡ true
unfolding in_order
tables_of p s e = both_left (tables_ok p) (state_ok p s) e

pub state_of : (p : Project) (s : State) → in_order p s ≡ true → StateFit p s
unfolding in_order
state_of p s e = state_fit p s (both_right (tables_ok p) (state_ok p s) e)

in_order_lem : (p : Project) (s : State) → tables_ok p ≡ true → StateFit p s → in_order p s ≡ true
unfolding in_order
in_order_lem p s e f = rw (e, state_ok_lem p s f)

-- a call that keeps the facts keeps the order
pub kept : (p : Project) (s u : State) → in_order p s ≡ true → (TablesFit p → StateFit p s → StateFit p u) → in_order p u ≡ true
kept p s u e h = let t = tables_of p s e in in_order_lem p u t (h (tables_fit p t) (state_of p s e))

-- ---- the start
pub start_in_order : (p : Project) → (start p).number ≡ 0 → in_order p (start p).state ≡ true
unfolding start
start_in_order p = go (tables_ok p) refl
  where
    go : (b : Bool) → tables_ok p ≡ b → (cond b (gives 0 (new_with_initial_values p)) (gives 10 blank_state)).number ≡ 0
        → in_order p (cond b (gives 0 (new_with_initial_values p)) (gives 10 blank_state)).state ≡ true
    go true e z = in_order_lem p (new_with_initial_values p) e (start_fits (tables_fit p e))
    go false e z = absurd (no 10 (lit≤ tt) z)
      where
        no : (n : ℕ) → 1 ≤ n → n ≡ 0 → ⊥
        no n l q = omega arith

-- ---- the calls on a state in order
judged_is : (p : Project) (s : State) (a : Called) → in_order p s ≡ true → judged p s a ≡ a
unfolding judged
judged_is p s a e = rw e

module _ (p : Project) (s : State) (e : in_order p s ≡ true) where
  pub patterns_in_order : in_order p (patterns p s).state ≡ true
  unfolding patterns
  patterns_in_order = rw (judged_is p s _ e) (kept p s _ e (λ t o. patterns_kept t o))

  pub patterns_accepted : (patterns p s).number ≡ 0
  unfolding patterns
  patterns_accepted = rw (judged_is p s _ e)

  pub controls_in_order : in_order p (controls p s).state ≡ true
  unfolding controls
  controls_in_order = rw (judged_is p s _ e) (kept p s _ e (λ t o. controls_kept t o))

  pub controls_accepted : (controls p s).number ≡ 0
  unfolding controls
  controls_accepted = rw (judged_is p s _ e)

  pub tank_links_in_order : in_order p (tank_links p s).state ≡ true
  unfolding tank_links
  tank_links_in_order = rw (judged_is p s _ e) (kept p s _ e (λ t o. tank_links_kept t o))

  pub tank_links_accepted : (tank_links p s).number ≡ 0
  unfolding tank_links
  tank_links_accepted = rw (judged_is p s _ e)

  -- by a table that is handed in: refused, the state is as it is
  pub tank_links_by_in_order : (begins middles links : List ℕ) → in_order p (tank_links_by p begins middles links s).state ≡ true
  unfolding tank_links_by
  tank_links_by_in_order begins middles links = rw (judged_is p s _ e) (go (is_laid_out p begins middles links))
    where
      go : (b : Bool) → in_order p (cond b (gives 0 (update_tank_links p s)) (gives 10 s)).state ≡ true
      go true = kept p s _ e (λ t o. tank_links_kept t o)
      go false = e

  pub tank_links_by_number : (begins middles links : List ℕ) → (tank_links_by p begins middles links s).number ≡ cond (is_laid_out p begins middles links) 0 10
  unfolding tank_links_by
  tank_links_by_number begins middles links = rw (judged_is p s _ e) (go (is_laid_out p begins middles links))
    where
      go : (b : Bool) → (cond b (gives 0 (update_tank_links p s)) (gives 10 s)).number ≡ cond b 0 10
      go true = refl
      go false = refl

  pub pressure_in_order : in_order p (pressure p s).state ≡ true
  unfolding pressure
  pressure_in_order = rw e (kept p s _ e (λ t o. pressure_kept t o))

  pub pressure_accepted : (pressure p s).number ≡ 0
  unfolding pressure
  pressure_accepted = rw e

  -- a load that is refused leaves the state as it is
  pub load_in_order : (words : List ℕ) → in_order p (load p words s).state ≡ true
  unfolding load
  load_in_order words = rw (judged_is p s _ e) (go (eqb (load_fault p words) 0) refl)
    where
      go : (b : Bool) → eqb (load_fault p words) 0 ≡ b → in_order p (cond b (gives 0 (take_load p words s)) (gives (load_fault p words) s)).state ≡ true
      go true z = kept p s _ e (λ t o. load_kept t words z o)
      go false z = e

  pub load_number : (words : List ℕ) → (load p words s).number ≡ load_fault p words
  unfolding load
  load_number words = rw (judged_is p s _ e) (go (eqb (load_fault p words) 0) refl)
    where
      go : (b : Bool) → eqb (load_fault p words) 0 ≡ b → (cond b (gives 0 (take_load p words s)) (gives (load_fault p words) s)).number ≡ load_fault p words
      go true z = sym (eqb-true (load_fault p words) 0 z)
      go false z = refl

  pub premise_number_lem : (i : ℕ) → premise_number (premise p i s) ≡ cond (ltb i p.counts.premises) 0 9
  unfolding premise
  premise_number_lem i = rw e (go (ltb i p.counts.premises))
    where
      go : (b : Bool) → premise_number (cond b (Ok (premise_truth_at p s i)) (Err NoPremise)) ≡ cond b 0 9
      go true = refl
      go false = refl

  -- the step to come: any length within the remainder
  pub update_tanks_in_order : (seconds : ℕ) → s.clock.instant + seconds ≤ p.options.duration → in_order p (update_tanks p s seconds) ≡ true
  update_tanks_in_order seconds l = kept p s _ e (λ t o. let d = t.options.duration in tanks_kept t seconds (omega arith) o)
