-- The count in the last line is the number of the step lines before it. What carries it: every step that the driver makes is counted. Assumes nothing.
use Prim.Native.Nat.{ℕ, suc, ◌+◌}
use mathlib.Core.Path.{◌≡◌, refl, sym, ◌∙◌}
use mathlib.Core.Bool.{true, false, true≢false}
use mathlib.Core.List.{List, [], ◌∷◌, ◌++◌}
use native.Mathlib.Omega.{arith}
use Rattle.listing.specs.Listing.{Line}
use Rattle.model.specs.declared.project.Project.{Project}
use Rattle.judge.specs.Judgement.{in_order}
use Rattle.tables.specs.Tables.{tables_ok}
use Rattle.calls_sound.proofs.Theorem.{start_in_order}
use Rattle.demand3.proofs.Lawful.{start_accepted, started}
use Rattle.driver_turn.specs.Turns.{Turn, turn}
use Rattle.driver_chunk.specs.Runs.{Run, joined}
use Rattle.driver_chunk.proofs.Turning.{Printed, known}
use Rattle.driver_printed.specs.Printed.{lines_from}
use Rattle.driver_printed.specs.Printed as whole
use Rattle.driver_printed.proofs.Whole.{along, run_ends}

-- how many of some lines are steps
abbrev pub steps : List Line → ℕ
steps [] = 0
steps (Line.step from seconds ∷ ls) = suc (steps ls)
steps (Line.finished n ∷ ls) = steps ls
steps (Line.refused n ∷ ls) = steps ls

steps_more : (ls : List Line) (from seconds : ℕ) → steps (ls ++ (Line.step from seconds ∷ [])) ≡ steps ls + 1
steps_more [] from seconds = refl
steps_more (Line.step a b ∷ ls) from seconds = omega (arith, steps_more ls from seconds)
steps_more (Line.finished n ∷ ls) from seconds = steps_more ls from seconds
steps_more (Line.refused n ∷ ls) from seconds = steps_more ls from seconds

-- how a listing ends: with the number of its steps, or at a fault
pub data Ended : List Line → Type 0 where
  finished : (ls : List Line) → Ended (ls ++ (Line.finished (steps ls) ∷ []))
  refused : (ls : List Line) (number : ℕ) → Ended (ls ++ (Line.refused number ∷ []))

-- a run so far
record Tallied (p : Project) (r : Run) : Type 0 where
  ordered : in_order p r.state ≡ true
  going : r.over ≡ false → r.state.clock.count ≡ steps r.lines
  ended : r.over ≡ true → Ended r.lines

-- one turn more
turned : (p : Project) (r : Run) → Tallied p r → r.over ≡ false → (t : Turn) → in_order p t.state ≡ true → Printed p r.state t → Tallied p (joined r t)
turned p r h z t o (Printed.stepped q taken from seconds k) =
    record {
      ordered = o;
      going = λ _. k.counted ∙ rw (h.going z) (sym (steps_more r.lines from seconds));
      ended = λ w. absurd (true≢false (sym w));
    }
turned p r h z t o (Printed.finished q l) =
    record {
      ordered = o;
      going = λ w. absurd (true≢false w);
      ended = λ _. rw (h.going z) (finished r.lines);
    }
turned p r h z t o (Printed.refused q number) =
    record { ordered = o; going = λ w. absurd (true≢false w); ended = λ _. refused r.lines number }

turn_tallied : (p : Project) (r : Run) → Tallied p r → r.over ≡ false → Tallied p (joined r (turn p r.state r.left))
turn_tallied p r h z =
    let t = known p r.state r.left h.ordered in
    turned p r h z (turn p r.state r.left) t.ordered t.printed

-- of any project whose tables are in order, on any bytes behind its image
pub count_is_steps : (p : Project) → tables_ok p ≡ true → (bytes : List ℕ) → Ended (lines_from p (whole.started p bytes))
unfolding lines_from
count_is_steps p e bytes =
    let o = start_in_order p (start_accepted p e) in
    let h : Tallied p (whole.started p bytes) = record { ordered = o; going = λ _. (started p e).count; ended = λ w. absurd (true≢false (sym w)) } in
    (along p (Tallied p) (turn_tallied p) (whole.started p bytes) h (suc p.options.duration)).ended (run_ends p (whole.started p bytes) o)
