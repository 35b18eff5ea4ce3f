-- `list_run::run_list` meets its contract. Assumes nothing.
use Prim.Native.Nat.{ℕ, ◌≤◌}
use mathlib.Core.Path.{◌≡◌, refl, sym, ap, ◌∙◌}
use mathlib.Core.Bool.{Bool, true, false, cond}
use mathlib.Core.List.{List}
use native.Mathlib.Omega.{arith}
use borrow.Author.Tests.{eq-eqb, ne_eqb}
use lib.Dec.{lit≤}
use Rattle.model.specs.Blank.{blank_state}
use Rattle.model.specs.declared.project.Project.{Project}
use Rattle.tables.specs.Tables.{tables_ok}
use Rattle.tables.proofs.Fits.{tables_fit}
use Rattle.judge.specs.Judgement.{in_order}
use Rattle.state.specs.Start.{new_with_initial_values}
use Rattle.calls.specs.Calls.{gives, start}
use Rattle.calls.specs.declared.Called.{Called}
use Rattle.calls_sound.proofs.Theorem.{start_in_order}
use Rattle.list_words.specs.Lists.{calls_of, list_ok}
use Rattle.list_run.specs.Runs.{none_run, counted_all, run_list, Answers}
use Rattle.list_run.specs.declared.ListRun.{ListRun}
use Rattle.list_run.proofs.Counts.{answers}
use Rattle.list_run.proofs.run_list.Goals as goal

no_fault : (n : ℕ) → 1 ≤ n → n ≡ 0 → ⊥
no_fault n l e = omega arith

start_tables : (p : Project) → (start p).number ≡ 0 → tables_ok p ≡ true
unfolding start
start_tables p = go (tables_ok p) refl
  where
    go : (b : Bool) → tables_ok p ≡ b → (cond b (gives 0 (new_with_initial_values p)) (gives 10 blank_state)).number ≡ 0 → tables_ok p ≡ true
    go true e z = e
    go false e z = absurd (no_fault 10 (lit≤ tt) z)

module _ (p : Project) (words : List ℕ) (z : ListRun) where
  refused_start :
      ((start p).number ≡ 0 → ⊥) → z ≡ none_run (start p).number (start p).state
      → (z ≡ run_list p words) × (z.number ≡ 0 → Answers p (calls_of 0 words) z)
  unfolding run_list
  refused_start n e = (rw (ne_eqb (start p).number 0 n) e, λ q. absurd (n (sym (ap (λ (r : ListRun). r.number) e) ∙ q)))

  refused_list :
      (start p).number ≡ 0 → list_ok 0 words ≡ false → z ≡ none_run 18 (start p).state
      → (z ≡ run_list p words) × (z.number ≡ 0 → Answers p (calls_of 0 words) z)
  unfolding run_list
  refused_list n l e = (rw (eq-eqb (start p).number 0 n, l) e, λ q. absurd (no_fault 18 (lit≤ tt) (sym (ap (λ (r : ListRun). r.number) e) ∙ q)))

  ran_list :
      (start p).number ≡ 0 → list_ok 0 words ≡ true → z ≡ counted_all p (calls_of 0 words) (none_run 0 (start p).state)
      → (z ≡ run_list p words) × (z.number ≡ 0 → Answers p (calls_of 0 words) z)
  unfolding run_list
  ran_list n l e = (rw (eq-eqb (start p).number 0 n, l) e, λ q. answers p (calls_of 0 words) z (start_tables p n) e)

pub returns-then-number-ne0 : goal.returns-then-number-ne0
returns-then-number-ne0 c = record { value = (refused_start c.args.p c.args.words.now _ (λ q. c.if-number-ne0.true (ap (λ (k : Called). k.number) c.new_with_initial_values-number.ensures ∙ q)) (c.none_run.ensures ∙ ap (λ (k : Called). none_run k.number k.state) c.new_with_initial_values-number.ensures)).0; answers = (refused_start c.args.p c.args.words.now _ (λ q. c.if-number-ne0.true (ap (λ (k : Called). k.number) c.new_with_initial_values-number.ensures ∙ q)) (c.none_run.ensures ∙ ap (λ (k : Called). none_run k.number k.state) c.new_with_initial_values-number.ensures)).1 }

pub returns-then-not-list_ok : goal.returns-then-not-list_ok
returns-then-not-list_ok c = record { value = (refused_list c.args.p c.args.words.now _ (sym (ap (λ (k : Called). k.number) c.new_with_initial_values-number.ensures) ∙ c.if-number-ne0.false) (sym c.list_ok.ensures ∙ c.if-not-list_ok.true) (c.none_run-then-not-list_ok.ensures ∙ ap (λ (k : Called). none_run 18 k.state) c.new_with_initial_values-number.ensures)).0; answers = (refused_list c.args.p c.args.words.now _ (sym (ap (λ (k : Called). k.number) c.new_with_initial_values-number.ensures) ∙ c.if-number-ne0.false) (sym c.list_ok.ensures ∙ c.if-not-list_ok.true) (c.none_run-then-not-list_ok.ensures ∙ ap (λ (k : Called). none_run 18 k.state) c.new_with_initial_values-number.ensures)).1 }

pub second_applies-requires : goal.second_applies-requires
second_applies-requires c = tables_fit c.args.p (start_tables c.args.p (sym (ap (λ (k : Called). k.number) c.new_with_initial_values-number.ensures) ∙ c.if-number-ne0.false))

pub run_calls-requires : goal.run_calls-requires
run_calls-requires c =
    let p = c.args.p in record { serves_value = c.second_applies.ensures; s_value = ap (λ (k : Called). in_order p k.state) c.new_with_initial_values-number.ensures ∙ start_in_order p (sym (ap (λ (k : Called). k.number) c.new_with_initial_values-number.ensures) ∙ c.if-number-ne0.false); words_value = sym c.list_ok.ensures ∙ c.if-not-list_ok.false }

pub returns : goal.returns
returns c =
    let a = c.args in
    record {
      value = (ran_list a.p a.words.now _ (sym (ap (λ (k : Called). k.number) c.new_with_initial_values-number.ensures) ∙ c.if-number-ne0.false)
          (sym c.list_ok.ensures ∙ c.if-not-list_ok.false)
          (c.run_calls.ensures ∙ ap (λ (k : Called). counted_all a.p (calls_of 0 a.words.now) (none_run 0 k.state)) c.new_with_initial_values-number.ensures)).0;
      answers = (ran_list a.p a.words.now _ (sym (ap (λ (k : Called). k.number) c.new_with_initial_values-number.ensures) ∙ c.if-number-ne0.false)
          (sym c.list_ok.ensures ∙ c.if-not-list_ok.false)
          (c.run_calls.ensures ∙ ap (λ (k : Called). counted_all a.p (calls_of 0 a.words.now) (none_run 0 k.state)) c.new_with_initial_values-number.ensures)).1;
    }
