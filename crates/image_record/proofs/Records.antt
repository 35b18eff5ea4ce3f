-- What the record at the front of the words comes to, by its header and its size, that one without a fault has its payload, and that what it says
-- has passed the tests of its kind. Assumes nothing.
use Prim.Native.Nat.{ℕ, ◌+◌, ◌-◌, ◌/◌, ◌%◌, ◌^◌, ◌≤◌, ◌<◌}
use mathlib.Core.Path.{◌≡◌, refl, sym, ap, ◌∙◌}
use mathlib.Core.List.{List, [], ◌∷◌}
use mathlib.Core.Bool.{Bool, true, false, ◌&&◌, cond}
use native.Mathlib.Omega.{arith}
use native.Mathlib.Nat.{add-sub_cancel_left}
use borrow.Author.Tests.{le-leb, lt-leb, leb-true, leb-false, ltb-true, eqb-true}
use lib.Dec.{leb, eqb}
use Rattle.std.specs.Prelude.{Result, Ok, Err, IfOk}
use lib.ListN.{length, take, drop, get_or, length-drop}
use lib.Seq.{length-take-le}
use Rattle.model.specs.declared.project.Counts.{Counts}
use Rattle.model.proofs.Loops.{both_left, both_right}
use Rattle.table_ranges.specs.Records.{options_ok}
use Rattle.table_node.specs.Records.{node_ok, node_indices_ok}
use Rattle.table_link.specs.Records.{link_ok, link_indices_ok}
use Rattle.table_control.specs.Records.{control_ok, control_indices_ok}
use Rattle.table_premise.specs.Records.{premise_ok, premise_indices_ok}
use Rattle.image_entry.specs.Entries.{passed}
use Rattle.image_entry.specs.declared.entry.Entry.{Entry}
use Rattle.image_entry.specs.declared.entry.Entry.TheVariants as entries
use Rattle.image_entry.specs.declared.entry.Fault.{Fault}
use Rattle.image_entry.specs.declared.entry.Fault.TheVariants as faults
use Rattle.image_options.specs.Entries.{options_entry}
use Rattle.image_pattern.specs.Entries.{multipliers_ok, pattern_entry}
use Rattle.image_node.specs.Entries.{node_entry, reservoir_entry, tank_entry, junction_entry}
use Rattle.image_link.specs.Entries.{link_words_ok, link_entry}
use Rattle.image_control.specs.Entries.{control_words_ok, control_entry}
use Rattle.image_premise.specs.Entries.{premise_words_ok, premise_entry}
use Rattle.image_record.specs.Framing.{kind_of, size_of, size_ok, stage_ok, header_ok, entry_of, payload, record_of, fault_of}

-- the part of a slice that is a payload
pub part_is : (ws : List ℕ) (n : ℕ) → take (1 + n - 1) (drop 1 ws) ≡ take n (drop 1 ws)
part_is ws n = ap (λ (k : ℕ). take k (drop 1 ws)) (add-sub_cancel_left 1 n)

pub header_size : (stage h : ℕ) → header_ok stage h ≡ true → size_ok (kind_of h) (size_of h) ≡ true
unfolding header_ok
header_size stage h e = both_right (eqb (h / 2 ^ 16 % 2 ^ 12) 0 && stage_ok stage (kind_of h)) _ e

pub header_stage : (stage h : ℕ) → header_ok stage h ≡ true → stage_ok stage (kind_of h) ≡ true
unfolding header_ok
header_stage stage h e = both_right (eqb (h / 2 ^ 16 % 2 ^ 12) 0) _ (both_left _ (size_ok (kind_of h) (size_of h)) e)

-- no words have the header 0, and its kind is unknown
some_words : (ws : List ℕ) (stage : ℕ) → header_ok stage (get_or ws 0 0) ≡ true → 0 < length ws
unfolding size_ok
some_words [] stage e =
    let f : false ≡ true = header_size stage 0 e in
    let z : ◌≡◌ {A = ℕ} 0 1 = cc in
    absurd (omega arith)
some_words (w ∷ ws) stage e = omega arith

-- the three ways of a record whose header is h
module _ (ws : List ℕ) (stage : ℕ) (c : Counts) (h : ℕ) (is : h ≡ get_or ws 0 0) where
  pub record_2 : header_ok stage h ≡ false → record_of ws stage c ≡ Err faults.Header
  unfolding record_of
  record_2 bad = rw (← is, bad)

  pub record_3 : header_ok stage h ≡ true → length ws < 1 + size_of h → record_of ws stage c ≡ Err faults.Cut
  unfolding record_of
  record_3 ok s =
      let some : 0 < length ws = some_words ws stage (rw (← is) ok) in
      let cut : leb (size_of h) (length (drop 1 ws)) ≡ false = lt-leb (size_of h) (length (drop 1 ws)) (rw length-drop (omega arith)) in
      rw (← is, ok, cut)

  pub record_in :
      header_ok stage h ≡ true → 1 + size_of h ≤ length ws →
      record_of ws stage c ≡ entry_of (kind_of h) (take (size_of h) (drop 1 ws)) c
  unfolding record_of
  record_in ok s =
      let whole : leb (size_of h) (length (drop 1 ws)) ≡ true = le-leb (size_of h) (length (drop 1 ws)) (rw length-drop (omega arith)) in
      rw (← is, ok, whole)

-- a record without a fault has a right header and its payload
module _ (ws : List ℕ) (stage : ℕ) (c : Counts) (e : fault_of (record_of ws stage c) ≡ 0) where
  fits_in :
      (b : Bool) → leb (1 + size_of (get_or ws 0 0)) (length ws) ≡ b → header_ok stage (get_or ws 0 0) ≡ true →
      1 + size_of (get_or ws 0 0) ≤ length ws
  unfolding fault_of
  fits_in true s ok = leb-true _ _ s
  fits_in false s ok =
      let z : ◌≡◌ {A = ℕ} 3 0 = sym (ap fault_of (record_3 ws stage c _ refl ok (leb-false _ _ s))) ∙ e in
      absurd (omega arith)

  header_in : (b : Bool) → header_ok stage (get_or ws 0 0) ≡ b → header_ok stage (get_or ws 0 0) ≡ true
  unfolding fault_of
  header_in true ok = ok
  header_in false bad =
      let z : ◌≡◌ {A = ℕ} 2 0 = sym (ap fault_of (record_2 ws stage c _ refl bad)) ∙ e in
      absurd (omega arith)

  pub record_header : header_ok stage (get_or ws 0 0) ≡ true
  record_header = header_in (header_ok stage (get_or ws 0 0)) refl

  pub record_fits : 1 + size_of (get_or ws 0 0) ≤ length ws
  record_fits = fits_in (leb (1 + size_of (get_or ws 0 0)) (length ws)) refl record_header

-- What an entry satisfies where the record before was of this stage, `c` is declared so far, and p is the payload.
abbrev pub Taken : ℕ → Counts → List ℕ → Entry → Type 0
Taken stage c p (entries.Options o) = options_ok o ≡ true
Taken stage c p entries.Pattern = (1 ≤ stage) × (c.patterns < 32) × (2 ≤ length p) × (length p ≤ 336) × (multipliers_ok p ≡ true)
Taken stage c p (entries.Node n) =
    (1 ≤ stage) × (c.nodes < 256) × (node_ok n.kind ≡ true) × (node_indices_ok c.patterns n.kind ≡ true)
Taken stage c p (entries.Link l) = (1 ≤ stage) × (c.links < 384) × (link_ok l ≡ true) × (link_indices_ok c.nodes l ≡ true)
Taken stage c p (entries.Control k) =
    (1 ≤ stage) × (c.controls < 64) × (control_ok k ≡ true) × (control_indices_ok c.nodes c.links k ≡ true)
Taken stage c p (entries.Premise q) =
    (1 ≤ stage) × (c.premises < 128) × (premise_ok q ≡ true) × (premise_indices_ok c.nodes c.links q.target ≡ true)

-- a payload's entry, test by test
module _ (stage : ℕ) (c : Counts) (p : List ℕ) where
  passed_taken :
      (b : Bool) (f : Fault) (r : Result Entry Fault) → (b ≡ true → IfOk r (Taken stage c p)) → IfOk (passed b f r) (Taken stage c p)
  unfolding passed
  passed_taken true f r h = h refl
  passed_taken false f r h = tt

  chain_taken :
      (a b d : Bool) (e : Entry) → (a ≡ true → b ≡ true → d ≡ true → Taken stage c p e) →
      IfOk (passed a faults.Count (passed b faults.Word (passed d faults.Index (Ok e)))) (Taken stage c p)
  chain_taken a b d e f =
      passed_taken a _ _ (λ x. passed_taken b _ _ (λ y. passed_taken d _ (Ok e) (λ z. f x y z)))

  cond_taken :
      (b : Bool) (x y : Result Entry Fault) → (b ≡ true → IfOk x (Taken stage c p)) → (b ≡ false → IfOk y (Taken stage c p)) →
      IfOk (cond b x y) (Taken stage c p)
  cond_taken true x y f g = f refl
  cond_taken false x y f g = g refl

  pattern_size : (kind : ℕ) → size_ok kind (length p) ≡ true → kind ≡ 2 → (2 ≤ length p) × (length p ≤ 336)
  unfolding size_ok
  pattern_size kind h e =
      let b = both_left (leb 2 (length p) && leb (length p) 336) (eqb (length p % 2) 0) (simp e at h) in
      (leb-true 2 (length p) (both_left (leb 2 (length p)) _ b), leb-true (length p) 336 (both_right (leb 2 (length p)) _ b))

  begun : (kind : ℕ) → stage_ok stage kind ≡ true → eqb kind 1 ≡ false → 1 ≤ stage
  unfolding stage_ok
  begun kind g n = leb-true 1 stage (both_left (leb 1 stage) _ (rw n at g))

  entry_taken : (kind : ℕ) → stage_ok stage kind ≡ true → size_ok kind (length p) ≡ true → IfOk (entry_of kind p c) (Taken stage c p)
  unfolding entry_of options_entry pattern_entry reservoir_entry tank_entry junction_entry node_entry link_entry control_entry premise_entry
  entry_taken kind g h =
      cond_taken (eqb kind 1) _ _ (λ _. passed_taken _ _ _ (λ w. both_right (leb (get_or p 6 0) 3) _ w))
      (λ n.
      let s = begun kind g n in
      cond_taken (eqb kind 2) _ _
      (λ e.
      let l = pattern_size kind h (eqb-true kind 2 e) in
      passed_taken _ _ _ (λ r. passed_taken _ _ _ (λ w. (s, ltb-true _ _ r, l.0, l.1, w))))
      (λ _. cond_taken (eqb kind 3) _ _ (λ _. chain_taken _ _ _ _ (λ r w i. (s, ltb-true _ _ r, w, i)))
      (λ _. cond_taken (eqb kind 4) _ _ (λ _. chain_taken _ _ _ _ (λ r w i. (s, ltb-true _ _ r, both_right (leb (get_or p 10 0) 1) _ w, i)))
      (λ _. cond_taken (eqb kind 5) _ _ (λ _. chain_taken _ _ _ _ (λ r w i. (s, ltb-true _ _ r, both_right (leb (get_or p 0 0) 1) _ w, i)))
      (λ _. cond_taken (eqb kind 6) _ _ (λ _. chain_taken _ _ _ _ (λ r w i. (s, ltb-true _ _ r, both_right (link_words_ok p) _ w, i)))
      (λ _. cond_taken (eqb kind 7) _ _ (λ _. chain_taken _ _ _ _ (λ r w i. (s, ltb-true _ _ r, both_right (control_words_ok p) _ w, i)))
      (λ _. chain_taken _ _ _ _ (λ r w i. (s, ltb-true _ _ r, both_right (premise_words_ok p) _ w, i)))))))))

-- a record's entry
module _ (ws : List ℕ) (stage : ℕ) (c : Counts) where
  taken_in :
      (b : Bool) → leb (1 + size_of (get_or ws 0 0)) (length ws) ≡ b → header_ok stage (get_or ws 0 0) ≡ true →
      IfOk (record_of ws stage c) (Taken stage c (payload ws))
  taken_in false s ok = rw (record_3 ws stage c (get_or ws 0 0) refl ok (leb-false _ _ s)) tt
  taken_in true s ok =
      let h = get_or ws 0 0 in
      let f : 1 + size_of h ≤ length ws = leb-true _ _ s in
      let n : length (payload ws) ≡ size_of h = length-take-le (size_of h) (drop 1 ws) (rw length-drop (omega arith)) in
      rw (record_in ws stage c h refl ok f)
      (entry_taken stage c (payload ws) (kind_of h) (header_stage stage h ok) (rw n (header_size stage h ok)))

  taken_by : (b : Bool) → header_ok stage (get_or ws 0 0) ≡ b → IfOk (record_of ws stage c) (Taken stage c (payload ws))
  taken_by true ok = taken_in (leb (1 + size_of (get_or ws 0 0)) (length ws)) refl ok
  taken_by false bad = rw (record_2 ws stage c (get_or ws 0 0) refl bad) tt

  pub record_taken : (e : Entry) → record_of ws stage c ≡ Ok e → Taken stage c (payload ws) e
  record_taken e is = rw is at (taken_by (header_ok stage (get_or ws 0 0)) refl)
