-- An accepted image's tables pass `tables_ok`: the walk keeps the tables' tests, options are read before anything else, and the default pattern is judged at
-- the end. Assumes nothing.
use Prim.Native.Nat.{ℕ, zero, suc, ◌≤◌}
use mathlib.Core.Path.{◌≡◌, refl, ap}
use mathlib.Core.Bool.{Bool, true, false, ◌&&◌, cond, true≢false}
use mathlib.Core.List.{List, [], ◌∷◌}
use native.Mathlib.Omega.{arith}
use borrow.Author.Tests.{leb-true}
use lib.Dec.{leb, eqb}
use lib.ListN.{length}
use Rattle.std.specs.Option.{is_some}
use Rattle.std.specs.Prelude.{None, Result, Ok, Err}
use Rattle.model.specs.Blank.{empty_project}
use Rattle.model.specs.declared.project.Project.{Project}
use Rattle.model.proofs.Loops.{both_left, both_right}
use Rattle.table_ranges.specs.Ranges.{pattern_index_ok}
use Rattle.table_ranges.specs.Records.{options_ok}
use Rattle.tables.specs.Tables.{tables_ok}
use Rattle.tables.specs.Fit.{TablesFit}
use Rattle.tables.proofs.Fits.{counts_of_few, tables_fit}
use Rattle.image_entry.specs.declared.entry.Entry.{Entry}
use Rattle.image_entry.specs.declared.entry.Fault.{Fault}
use Rattle.image_entry.specs.declared.entry.Fault.TheVariants as faults
use Rattle.image_record.specs.Framing.{kind_of, size_of, stage_of, stage_ok, record_of, payload, fault_of}
use Rattle.image_record.proofs.Records.{record_header, header_stage, record_taken}
use Rattle.image_place.specs.Placed.{placed}
use Rattle.image.specs.Image.{refused, finished, taken, walk, decode}
use Rattle.image.specs.declared.walk.Decoded.{Decoded}
use Rattle.image_accepted.proofs.Placing.{Kept, empty_kept, placed_kept, options_kept}

-- where there is no fault, the tables pass
abbrev Passes : Decoded → Type 0
Passes d = d.fault ≡ None → (tables_ok d.project ≡ true) × (length d.project.multipliers ≡ 5376)

refused_passes : (f : Fault) → Passes (refused f)
unfolding refused
refused_passes f e = absurd (true≢false (ap is_some e))

finished_passes : (t : Project) → Kept t → options_ok t.options ≡ true → Passes (finished t)
unfolding finished tables_ok
finished_passes t k o = go (pattern_index_ok t.counts.patterns t.options.default_pattern) refl
  where
    go : (b : Bool) → pattern_index_ok t.counts.patterns t.options.default_pattern ≡ b → Passes (cond b (record { fault = None; project = t }) (refused faults.Index))
    go true i e = (unfold tables_ok in rw (counts_of_few t.counts k.few, o, i, k.patterns, k.nodes, k.links, k.controls, k.premises), k.long_multipliers)
    go false i e = refused_passes faults.Index e

-- after a record that is taken the stage is past the start
next_stage : (stage kind : ℕ) → stage_ok stage kind ≡ true → 1 ≤ stage_of kind
unfolding stage_ok stage_of
next_stage stage kind e = go (eqb kind 1) refl e
  where
    go : (b : Bool) → eqb kind 1 ≡ b → cond b (eqb stage 0) (leb 1 stage && leb stage (stage_of kind)) ≡ true → 1 ≤ stage_of kind
    go true q e = unfold stage_of in rw q (omega arith)
    go false q e =
        let a : 1 ≤ stage = leb-true 1 stage (both_left (leb 1 stage) (leb stage (stage_of kind)) e) in
        let b : stage ≤ stage_of kind = leb-true stage (stage_of kind) (both_right (leb 1 stage) (leb stage (stage_of kind)) e) in
        omega arith

-- one record, with what the words behind it make of the tables it leaves
turn_passes : (w : ℕ) (ws : List ℕ) (stage : ℕ) (t : Project) → Kept t → (1 ≤ stage → options_ok t.options ≡ true)
    → ((u : Project) → Kept u → options_ok u.options ≡ true → 1 ≤ stage_of (kind_of w) → Passes (walk ws (size_of w) (stage_of (kind_of w)) u))
    → Passes (walk (w ∷ ws) 0 stage t)
unfolding walk fault_of
turn_passes w ws stage t k o rest = go (record_of (w ∷ ws) stage t.counts) refl
  where
    p : List ℕ
    p = payload (w ∷ ws)

    go : (r : Result Entry Fault) → record_of (w ∷ ws) stage t.counts ≡ r
        → Passes (taken r (λ e. walk ws (size_of w) (stage_of (kind_of w)) (placed t e p)))
    go (Ok e) q =
        let said = record_taken (w ∷ ws) stage t.counts e q in
        rest _ (placed_kept stage t p e k said) (options_kept stage t p e o said)
        (next_stage stage (kind_of w) (header_stage stage w (record_header (w ∷ ws) stage t.counts (ap fault_of q))))
    go (Err f) q = refused_passes f

walk_passes : (ws : List ℕ) (skip stage : ℕ) (t : Project) → Kept t → options_ok t.options ≡ true → 1 ≤ stage → Passes (walk ws skip stage t)
unfolding walk
walk_passes [] zero stage t k o s = finished_passes t k o
walk_passes [] (suc skip) stage t k o s = finished_passes t k o
walk_passes (w ∷ ws) (suc skip) stage t k o s = walk_passes ws skip stage t k o s
walk_passes (w ∷ ws) zero stage t k o s = turn_passes w ws stage t k (λ _. o) (λ u ku ou su. walk_passes ws (size_of w) (stage_of (kind_of w)) u ku ou su)

decode_passes : (ws : List ℕ) → Passes (decode ws)
unfolding decode
decode_passes [] = refused_passes faults.Length
decode_passes (w ∷ ws) = go (leb 1 (length (w ∷ ws)) && leb (length (w ∷ ws)) 16384)
  where
    go : (b : Bool) → Passes (cond b (walk (w ∷ ws) 0 0 empty_project) (refused faults.Length))
    go true =
        turn_passes w ws 0 empty_project empty_kept (λ l. absurd (omega arith))
        (λ u ku ou su. walk_passes ws (size_of w) (stage_of (kind_of w)) u ku ou su)
    go false = refused_passes faults.Length

-- "an accepted image's tables" break none of 4 to 6
pub accepted : (ws : List ℕ) → (decode ws).fault ≡ None → tables_ok (decode ws).project ≡ true
accepted ws e = (decode_passes ws e).0

-- their table of multipliers is whole
pub accepted_long : (ws : List ℕ) → (decode ws).fault ≡ None → length (decode ws).project.multipliers ≡ 5376
accepted_long ws e = (decode_passes ws e).1

-- and so they have all that acceptance means
pub accepted_fit : (ws : List ℕ) → (decode ws).fault ≡ None → TablesFit (decode ws).project
accepted_fit ws e = tables_fit (decode ws).project (accepted ws e)
