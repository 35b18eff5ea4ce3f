-- A load out of the bytes that are left, taken into the arrays of a run, is document 01's load of the state that they hold. Assumes nothing.
use Prim.Native.Nat.{ℕ}
use Rattle.std.specs.Prelude.{Result, Ok, Err}
use mathlib.Core.Path.{◌≡◌, refl, sym, ap, ◌∙◌, subst}
use mathlib.Core.Bool.{true}
use mathlib.Core.List.{List}
use native.Mathlib.Omega.{arith}
use borrow.Author.Tests.{ne_eqb}
use lib.ListN.{length}
use Rattle.words.specs.Words.{first_words}
use Rattle.model.specs.declared.project.Project.{Project}
use Rattle.model.specs.declared.state.State.{State}
use Rattle.judge.specs.Judgement.{in_order}
use Rattle.tables.specs.Fit.{TablesFit}
use Rattle.run_state.specs.Lists.{lists_of}
use Rattle.run_state.specs.declared.Lists.{Lists}
use Rattle.run_loads.specs.Faults.{load_fault_number}
use Rattle.run_loads.specs.Loaded.{lists_loaded}
use Rattle.run_loads.specs.Taking.{fault_of}
use Rattle.run_loads.specs.declared.fault.LoadFault.{LoadFault}
use Rattle.run_loads.specs.declared.fault.LoadFault.TheVariants as faults
use Rattle.load.specs.Loads.{value_count, load_fault, take_load}
use Rattle.load.proofs.ByTable.{take_load_is}
use Rattle.load.proofs.InForce.{load_force}
use Rattle.load.proofs.Loaded.{load_keeps_clock}
use Rattle.load.proofs.Values.{values_are, load_fault_is}
use Rattle.state.proofs.InForce.{InForce}
use Rattle.calls.specs.Calls.{load}
use Rattle.calls.specs.declared.Called.{Called}
use Rattle.calls_sound.proofs.Theorem.{load_in_order}
use Rattle.driver_load.specs.Left.{faulty, LoadedAs, none, cut, whole, values_by, words_for, words_left}
use Rattle.driver_load.specs.Sizes.{load_words}
use Rattle.driver_load.proofs.Inner.{load_inner}
use Rattle.driver_tables.specs.Laid.{Laid}
use Rattle.driver_tables.specs.declared.Tables.{Tables}
use Rattle.driver_turn.specs.Turns.{step_turn, refused_turn, input_turn}
use Rattle.driver_turn.proofs.Shape.{Alike, load_alike}
use Rattle.driver_turn.proofs.Cases.{input_none, input_cut, input_taken, input_refused}

-- what is left of the bytes was looked at, from a state that the lists held: the state that they hold then, and the turn that it leads to
pub record Looked (p : Project) (s : State) (bytes : List ℕ) (r : Result ℕ LoadFault) (a : Lists) : Type 0 where
  pub next : State
  pub held : a ≡ lists_of next
  pub ordered : in_order p next ≡ true
  pub clock : next.clock ≡ s.clock
  pub alike : Alike next s
  pub force : (period : ℕ) → InForce p period s → InForce p period next
  pub goes : (taken : ℕ) → r ≡ Ok taken → input_turn p s bytes ≡ step_turn p next taken
  pub ends : (f : LoadFault) → r ≡ Err f → input_turn p s bytes ≡ refused_turn next (load_fault_number f)

-- a load taken is not refused, and the other way round
inner : (f : LoadFault) → load_fault_number f ≡ 0 → ⊥
inner faults.Shape z = absurd (omega (arith, z))
inner faults.Value z = absurd (omega (arith, z))

module _ {p : Project} {t : Tables} (laid : Laid p t) (fit : TablesFit p) where
  pub values_by_lem : values_by t.load ≡ value_count p
  values_by_lem = rw laid.load.count (values_are p laid.load.junctions)

  words_by : words_for (values_by t.load) ≡ load_words p
  unfolding load_words
  words_by = rw values_by_lem

  fault_by : (words : List ℕ) → fault_of (values_by t.load) words ≡ load_fault p words
  fault_by words = rw laid.load.count (load_fault_is p laid.load.junctions words)

  module _ (s : State) (e : in_order p s ≡ true) (bytes : List ℕ) where
    abbrev words : List ℕ
    words = words_left (values_by t.load) bytes

    words_are : words ≡ first_words (load_words p) bytes
    words_are = ap (λ (n : ℕ). first_words n bytes) words_by

    refused_as : (fault : ℕ) → fault ≡ fault_of (values_by t.load) words → (fault ≡ 0 → ⊥) → record { number = fault; state = s } ≡ load p (first_words (load_words p) bytes) s
    refused_as fault q z =
        let f : load_fault p (first_words (load_words p) bytes) ≡ fault = sym (q ∙ fault_by words ∙ ap (load_fault p) words_are) in
        sym (load_inner p s e (first_words (load_words p) bytes) ∙ rw (f, ne_eqb fault 0 z))

    taken_as : 0 ≡ fault_of (values_by t.load) words → record { number = 0; state = take_load p (first_words (load_words p) bytes) s } ≡ load p (first_words (load_words p) bytes) s
    taken_as z =
        let f : load_fault p (first_words (load_words p) bytes) ≡ 0 = sym (z ∙ fault_by words ∙ ap (load_fault p) words_are) in
        sym (load_inner p s e (first_words (load_words p) bytes) ∙ rw f)

    module _ (a : Lists) (h : a ≡ lists_of s) (long : length s.nodes ≡ 256) where
      same : {r : Result ℕ LoadFault} → ((taken : ℕ) → r ≡ Ok taken → input_turn p s bytes ≡ step_turn p s taken)
          → ((f : LoadFault) → r ≡ Err f → input_turn p s bytes ≡ refused_turn s (load_fault_number f)) → Looked p s bytes r a
      same g x = record { next = s; held = h; ordered = e; clock = refl; alike = record { nodes = refl; links = refl }; force = λ period q. q; goes = g; ends = x }

      loaded_held : {b : Lists} → b ≡ lists_loaded words t.load t.tanks.at a → b ≡ lists_of (take_load p (first_words (load_words p) bytes) s)
      loaded_held q = rw (q, h, words_are) (take_load_is t.load t.tanks.at fit laid.load laid.tanks (first_words (load_words p) bytes) s long)

      pub looked : {b : Lists} {r : Result ℕ LoadFault} → LoadedAs bytes (values_by t.load) t.load t.tanks.at a b r → Looked p s bytes r b
      looked (none z) = same (λ taken q. let n : 0 ≡ taken = cc in input_none p s bytes z ∙ ap (step_turn p s) n) (λ f q. absurd (cc))
      looked (cut some k) =
          same (λ taken q. absurd (cc))
          (λ f q. let n : faults.Shape ≡ f = cc in input_cut p s bytes some words_by k ∙ ap (λ (x : LoadFault). refused_turn s (load_fault_number x)) n)
      looked (faulty some k f q) =
          same (λ taken z. absurd (cc))
          (λ g z.
          let n : f ≡ g = cc in
          input_refused p s bytes some words_by k (refused_as (load_fault_number f) q (inner f)) (inner f) ∙ ap (λ (x : LoadFault). refused_turn s (load_fault_number x)) n)
      looked (whole some k z after q size long) =
          let answer = taken_as z in
          record {
            next = take_load p (first_words (load_words p) bytes) s;
            held = loaded_held q;
            ordered = subst (λ (x : Called). in_order p x.state ≡ true) (sym answer) (load_in_order p s e (first_words (load_words p) bytes));
            clock = load_keeps_clock p (first_words (load_words p) bytes) s;
            alike = load_alike p (first_words (load_words p) bytes) s;
            force = λ period f. load_force (first_words (load_words p) bytes) s f;
            goes = λ taken r. let n : size ≡ taken = cc in input_taken p s bytes some words_by k answer refl ∙ ap (step_turn p (take_load p (first_words (load_words p) bytes) s)) (sym long ∙ n);
            ends = λ f n. absurd (cc);
          }
