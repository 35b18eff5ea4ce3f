-- An image that is accepted has tables that fit, which are laid out, and a start in order. Assumes nothing.
use Rattle.std.specs.Prelude.{List, ℕ, Result, Ok, Err, IfOk, ⊤}
use Rattle.std.specs.Result.{result_err}
use mathlib.Core.Path.{◌≡◌, refl, sym, ap, ◌∙◌, subst}
use mathlib.Core.Bool.{true}
use Rattle.model.specs.declared.project.Project.{Project}
use Rattle.model.specs.declared.state.State.{State}
use Rattle.judge.specs.Judgement.{in_order}
use Rattle.tables.specs.Fit.{TablesFit}
use Rattle.tables.specs.Tables.{tables_ok}
use Rattle.tables.proofs.Fits.{tables_fit}
use Rattle.image.specs.Image.{decode}
use Rattle.image_entry.specs.declared.entry.Fault.{Fault}
use Rattle.image_accepted.proofs.Accepted.{accepted}
use Rattle.state.specs.Start.{new_with_initial_values, start_nodes, start_links}
use Rattle.state.specs.Starting.{nodes_started, links_started, start_from}
use Rattle.state.proofs.Inside.{controls_inside}
use Rattle.tank_links.proofs.Judging.{ends_inside}
use Rattle.calls.specs.Calls.{start}
use Rattle.calls_sound.proofs.Theorem.{start_in_order}
use Rattle.driver_tables.specs.Laid.{Laid, PartsInside}
use Rattle.driver_tables.specs.declared.Tables.{Tables}
use Rattle.driver_chunk.specs.Chunks.{RunOf}

-- what the decoder says, without a fault
pub opened : (words : List ℕ) {p : Project} (r : Result ⊤ Fault) → result_err r ≡ (decode words).fault → p ≡ (decode words).project → IfOk r (λ u. tables_ok p ≡ true)
opened words (Ok u) e q = rw q (accepted words (sym e))
opened words (Err f) e q = tt

-- the start by its tables is the project's
start_is : (p : Project) → start_from p.nodes p.counts.nodes p.links p.counts.links ≡ new_with_initial_values p
unfolding new_with_initial_values start_nodes start_links nodes_started links_started
start_is p = refl

started : (p : Project) → tables_ok p ≡ true → ((start p).number ≡ 0) × ((start p).state ≡ new_with_initial_values p)
unfolding start
started p e = rw e (refl, refl)

in_order_at_start : (p : Project) → tables_ok p ≡ true → in_order p (new_with_initial_values p) ≡ true
in_order_at_start p e = subst (λ (s : State). in_order p s ≡ true) (started p e).1 (start_in_order p (started p e).0)

pub parts_inside : (p : Project) → tables_ok p ≡ true → PartsInside p.counts p.links p.controls
parts_inside p e = let f : TablesFit p = tables_fit p e in record { few = f.few; ends = ends_inside p f; controls_inside = controls_inside f }

pub run_of : {p : Project} {t : Tables} {s : State} → tables_ok p ≡ true → (TablesFit p → Laid p t)
    → s ≡ start_from p.nodes p.counts.nodes p.links p.counts.links → RunOf t p.multipliers s
run_of {p} {t} {s} ok laid e = record {
  project = p;
  laid = laid (tables_fit p ok);
  same = refl;
  ordered = subst (λ (x : State). in_order p x ≡ true) (sym (e ∙ start_is p)) (in_order_at_start p ok);
}
