-- What the tests of the tables keep as the decoder places an entry that has passed its own: the entries before it still pass, since counts only grow and
-- what is written lies apart from them. Assumes nothing.
use Prim.Native.Nat.{ℕ, zero, suc, ◌+◌, ◌*◌, ◌/◌, ◌≤◌, ◌<◌}
use mathlib.Core.Path.{◌≡◌, refl, ◌∙◌}
use mathlib.Core.Logic.{⊎_elim}
use mathlib.Core.Bool.{Bool, true, false, ◌&&◌}
use mathlib.Core.List.{List}
use native.Mathlib.Nat.{le_of_suc-le-suc, not-suc-le-zero, eq-or-lt_of_le}
use native.Mathlib.Omega.{arith}
use borrow.Author.Tests.{le-leb, leb-true}
use lib.Dec.{leb}
use lib.Ieee.{Float, nan}
use lib.ListN.{length, get_or, set, length-set, length-replicate}
use lib.Seq.{get_or-set_same, get_or-set_other}
use Rattle.model.specs.Blank.{empty_project, blank_node, blank_link, blank_control, blank_premise}
use Rattle.model.specs.Loops.{through, all_below}
use Rattle.model.specs.declared.control.Control.{Control}
use Rattle.model.specs.declared.link.Link.{Link}
use Rattle.model.specs.declared.node.Node.{Node}
use Rattle.model.specs.declared.project.Project.{Project}
use Rattle.model.specs.declared.rule.Premise.{Premise}
use Rattle.model.proofs.Loops.{both_left}
use Rattle.table_ranges.specs.Records.{options_ok}
use Rattle.table_node.specs.Records.{node_ok}
use Rattle.table_link.specs.Records.{link_ok}
use Rattle.table_control.specs.Records.{control_ok}
use Rattle.table_premise.specs.Records.{premise_ok}
use Rattle.table_entry.specs.Fits.{multiplier_ok, multipliers_ok, pattern_ok, node_fits, link_fits, control_fits, premise_fits}
use Rattle.table_entry.proofs.Tests.{and_grow}
use Rattle.tables.specs.Tables.{Few, pattern_ok_at, patterns_ok, node_fits_at, nodes_ok, link_fits_at, links_ok, control_fits_at, controls_ok, premise_fits_at, premises_ok}
use Rattle.tables.proofs.Grown.{node_indices_grow, link_indices_grow, control_indices_grow, premise_indices_grow, all_below_grows, all_below_set, pattern_kept}
use Rattle.image_entry.specs.Words.{number}
use Rattle.image_entry.specs.declared.entry.Entry.{Entry}
use Rattle.image_entry.specs.declared.entry.Entry.TheVariants as entries
use Rattle.image_pattern.specs.Entries as payloads
use Rattle.image_record.proofs.Records.{Taken}
use Rattle.image_place.specs.Placed.{multiplier_placed, multipliers_placed, placed}

-- the tables so far: within the capacities, and every entry passes
pub record Kept (t : Project) : Type 0 where
  pub few : Few t.counts
  pub long_lengths : length t.lengths ≡ 32
  pub long_multipliers : length t.multipliers ≡ 5376
  pub long_nodes : length t.nodes ≡ 256
  pub long_links : length t.links ≡ 384
  pub long_controls : length t.controls ≡ 64
  pub long_premises : length t.premises ≡ 128
  pub patterns : patterns_ok t ≡ true
  pub nodes : nodes_ok t ≡ true
  pub links : links_ok t ≡ true
  pub controls : controls_ok t ≡ true
  pub premises : premises_ok t ≡ true

pub empty_kept : Kept empty_project
unfolding empty_project patterns_ok nodes_ok links_ok controls_ok premises_ok all_below
empty_kept = record {
  few = record { patterns = omega arith; nodes = omega arith; links = omega arith; controls = omega arith; premises = omega arith };
  long_lengths = length-replicate {A = ℕ} 32 0;
  long_multipliers = length-replicate 5376 nan;
  long_nodes = length-replicate 256 blank_node;
  long_links = length-replicate 384 blank_link;
  long_controls = length-replicate 64 blank_control;
  long_premises = length-replicate 128 blank_premise;
  patterns = refl;
  nodes = refl;
  links = refl;
  controls = refl;
  premises = refl;
}

-- ---- a pattern's multipliers
module _ (p : List ℕ) (k : ℕ) (ms : List Float) where
  abbrev so_far : ℕ → List Float
  so_far n = through n (multiplier_placed p k) ms

  placed_length : (n : ℕ) → length (through n (multiplier_placed p k) ms) ≡ length ms
  unfolding through
  placed_length zero = refl
  placed_length (suc n) = length-set (so_far n) (k * 168 + n) (number p (2 * n)) ∙ placed_length n

  -- below them nothing changes
  placed_below : (n j : ℕ) → j < k * 168 → get_or (through n (multiplier_placed p k) ms) j nan ≡ get_or ms j nan
  unfolding through
  placed_below zero j l = refl
  placed_below (suc n) j l = get_or-set_other (so_far n) (k * 168 + n) j (number p (2 * n)) nan (λ e. omega arith) ∙ placed_below n j l

  -- and each stands in its place
  placed_at : (n i : ℕ) → i < n → n ≤ 168 → k < 32 → length ms ≡ 5376 → get_or (through n (multiplier_placed p k) ms) (k * 168 + i) nan ≡ number p (2 * i)
  unfolding through
  placed_at zero i l m c e = absurd (not-suc-le-zero l)
  placed_at (suc n) i l m c e =
      ⊎_elim
      (λ q. rw q (get_or-set_same (so_far n) (k * 168 + n) (number p (2 * n)) nan (omega (arith, placed_length n))))
      (λ h. get_or-set_other (so_far n) (k * 168 + n) (k * 168 + i) (number p (2 * n)) nan (λ q. omega arith) ∙ placed_at n i h (omega arith) c e)
      (eq-or-lt_of_le (le_of_suc-le-suc l))

half : (n : ℕ) → 2 ≤ n → n ≤ 336 → (1 ≤ n / 2) × (n / 2 ≤ 168)
half n l m = (omega arith, omega arith)

-- the patterns before keep their multipliers, and the new one has those of its payload
module _ (p : List ℕ) (t : Project) (kept : Kept t) (room : t.counts.patterns < 32) (some : 2 ≤ length p) (most : length p ≤ 336) (ok : payloads.multipliers_ok p ≡ true) where
  abbrev k : ℕ
  k = t.counts.patterns

  abbrev n : ℕ
  n = length p / 2

  abbrev new : List Float
  new = multipliers_placed p k t.multipliers

  new_ok : pattern_ok new k n ≡ true
  unfolding pattern_ok multipliers_ok payloads.multipliers_ok multipliers_placed
  new_ok =
      rw (
        le-leb 1 n (half (length p) some most).0,
        le-leb n 168 (half (length p) some most).1,
        all_below_grows n (payloads.multiplier_ok p) (multiplier_ok new k)
            (λ i l e. rw (placed_at p k t.multipliers n i l (half (length p) some most).1 room kept.long_multipliers) e) ok,
      )

  short : (i m : ℕ) → pattern_ok t.multipliers i m ≡ true → m ≤ 168
  unfolding pattern_ok
  short i m e = leb-true m 168 (right_of (leb 1 m) (leb m 168) (both_left (leb 1 m && leb m 168) _ e))
    where
      right_of : (a b : Bool) → (a && b) ≡ true → b ≡ true
      right_of true b e = e
      right_of false true e = refl
      right_of false false e = e

  old_ok : (i : ℕ) → i < k → pattern_ok_at t i ≡ true → pattern_ok new i (get_or t.lengths i 0) ≡ true
  unfolding multipliers_placed
  old_ok i l e =
      pattern_kept t.multipliers new i (get_or t.lengths i 0)
      (λ m h. placed_below p k t.multipliers n (i * 168 + m) (omega (arith, short i (get_or t.lengths i 0) e))) e

  pub all_patterns : all_below (k + 1) (λ i. pattern_ok new i (get_or (set t.lengths k n) i 0)) ≡ true
  unfolding patterns_ok
  all_patterns =
      all_below_set (pattern_ok new) t.lengths k n 0 (omega (arith, kept.long_lengths))
      (all_below_grows k (pattern_ok_at t) (λ i. pattern_ok new i (get_or t.lengths i 0)) old_ok kept.patterns) new_ok

-- ---- a record that fits still does where counts have grown
node_grows : (x : Node) (m n : ℕ) → m ≤ n → node_fits m x ≡ true → node_fits n x ≡ true
unfolding node_fits
node_grows x m n h e = and_grow {a = node_ok x.kind} (λ f. f) (node_indices_grow x.kind h) e

link_grows : (x : Link) (m n : ℕ) → m ≤ n → link_fits m x ≡ true → link_fits n x ≡ true
unfolding link_fits
link_grows x m n h e = and_grow {a = link_ok x} (λ f. f) (link_indices_grow x h) e

control_grows : (x : Control) (m n k l : ℕ) → m ≤ n → k ≤ l → control_fits m k x ≡ true → control_fits n l x ≡ true
unfolding control_fits
control_grows x m n k l g h e = and_grow {a = control_ok x} (λ f. f) (control_indices_grow x g h) e

premise_grows : (x : Premise) (m n k l : ℕ) → m ≤ n → k ≤ l → premise_fits m k x ≡ true → premise_fits n l x ≡ true
unfolding premise_fits
premise_grows x m n k l g h e = and_grow {a = premise_ok x} (λ f. f) (premise_indices_grow x.target g h) e

-- ---- an entry placed
pub placed_kept : (stage : ℕ) (t : Project) (p : List ℕ) (e : Entry) → Kept t → Taken stage t.counts p e → Kept (placed t e p)
unfolding placed multipliers_placed patterns_ok nodes_ok links_ok controls_ok premises_ok node_fits link_fits control_fits premise_fits
placed_kept stage t p (entries.Options o) kept taken = record {
  few = kept.few;
  long_lengths = kept.long_lengths;
  long_multipliers = kept.long_multipliers;
  long_nodes = kept.long_nodes;
  long_links = kept.long_links;
  long_controls = kept.long_controls;
  long_premises = kept.long_premises;
  patterns = kept.patterns;
  nodes = kept.nodes;
  links = kept.links;
  controls = kept.controls;
  premises = kept.premises;
}
placed_kept stage t p entries.Pattern kept taken = record {
  few = record { patterns = omega (arith, taken.1); nodes = kept.few.nodes; links = kept.few.links; controls = kept.few.controls; premises = kept.few.premises };
  long_lengths = length-set t.lengths _ _ ∙ kept.long_lengths;
  long_multipliers = placed_length p t.counts.patterns t.multipliers (length p / 2) ∙ kept.long_multipliers;
  long_nodes = kept.long_nodes;
  long_links = kept.long_links;
  long_controls = kept.long_controls;
  long_premises = kept.long_premises;
  patterns = all_patterns p t kept taken.1 taken.2 taken.3 taken.4;
  nodes =
      all_below_grows t.counts.nodes (node_fits_at t) _
      (λ i l e. node_grows (get_or t.nodes i blank_node) t.counts.patterns (t.counts.patterns + 1) (omega arith) e) kept.nodes;
  links = kept.links;
  controls = kept.controls;
  premises = kept.premises;
}
placed_kept stage t p (entries.Node n) kept taken = record {
  few = record { patterns = kept.few.patterns; nodes = omega (arith, taken.1); links = kept.few.links; controls = kept.few.controls; premises = kept.few.premises };
  long_lengths = kept.long_lengths;
  long_multipliers = kept.long_multipliers;
  long_nodes = length-set t.nodes _ _ ∙ kept.long_nodes;
  long_links = kept.long_links;
  long_controls = kept.long_controls;
  long_premises = kept.long_premises;
  patterns = kept.patterns;
  nodes =
      all_below_set (λ i x. node_fits t.counts.patterns x) t.nodes t.counts.nodes n blank_node (omega (arith, kept.long_nodes, taken.1)) kept.nodes
      (rw (taken.2, taken.3));
  links =
      all_below_grows t.counts.links (link_fits_at t) _
      (λ i l e. link_grows (get_or t.links i blank_link) t.counts.nodes (t.counts.nodes + 1) (omega arith) e) kept.links;
  controls =
      all_below_grows t.counts.controls (control_fits_at t) _
      (λ i l e. control_grows (get_or t.controls i blank_control) t.counts.nodes (t.counts.nodes + 1) t.counts.links t.counts.links (omega arith) (omega arith) e) kept.controls;
  premises =
      all_below_grows t.counts.premises (premise_fits_at t) _
      (λ i l e. premise_grows (get_or t.premises i blank_premise) t.counts.nodes (t.counts.nodes + 1) t.counts.links t.counts.links (omega arith) (omega arith) e) kept.premises;
}
placed_kept stage t p (entries.Link l) kept taken = record {
  few = record { patterns = kept.few.patterns; nodes = kept.few.nodes; links = omega (arith, taken.1); controls = kept.few.controls; premises = kept.few.premises };
  long_lengths = kept.long_lengths;
  long_multipliers = kept.long_multipliers;
  long_nodes = kept.long_nodes;
  long_links = length-set t.links _ _ ∙ kept.long_links;
  long_controls = kept.long_controls;
  long_premises = kept.long_premises;
  patterns = kept.patterns;
  nodes = kept.nodes;
  links =
      all_below_set (λ i x. link_fits t.counts.nodes x) t.links t.counts.links l blank_link (omega (arith, kept.long_links, taken.1)) kept.links
      (rw (taken.2, taken.3));
  controls =
      all_below_grows t.counts.controls (control_fits_at t) _
      (λ i h e. control_grows (get_or t.controls i blank_control) t.counts.nodes t.counts.nodes t.counts.links (t.counts.links + 1) (omega arith) (omega arith) e) kept.controls;
  premises =
      all_below_grows t.counts.premises (premise_fits_at t) _
      (λ i h e. premise_grows (get_or t.premises i blank_premise) t.counts.nodes t.counts.nodes t.counts.links (t.counts.links + 1) (omega arith) (omega arith) e) kept.premises;
}
placed_kept stage t p (entries.Control c) kept taken = record {
  few = record { patterns = kept.few.patterns; nodes = kept.few.nodes; links = kept.few.links; controls = omega (arith, taken.1); premises = kept.few.premises };
  long_lengths = kept.long_lengths;
  long_multipliers = kept.long_multipliers;
  long_nodes = kept.long_nodes;
  long_links = kept.long_links;
  long_controls = length-set t.controls _ _ ∙ kept.long_controls;
  long_premises = kept.long_premises;
  patterns = kept.patterns;
  nodes = kept.nodes;
  links = kept.links;
  controls =
      all_below_set (λ i x. control_fits t.counts.nodes t.counts.links x) t.controls t.counts.controls c blank_control
      (omega (arith, kept.long_controls, taken.1)) kept.controls (rw (taken.2, taken.3));
  premises = kept.premises;
}
placed_kept stage t p (entries.Premise q) kept taken = record {
  few = record { patterns = kept.few.patterns; nodes = kept.few.nodes; links = kept.few.links; controls = kept.few.controls; premises = omega (arith, taken.1) };
  long_lengths = kept.long_lengths;
  long_multipliers = kept.long_multipliers;
  long_nodes = kept.long_nodes;
  long_links = kept.long_links;
  long_controls = kept.long_controls;
  long_premises = length-set t.premises _ _ ∙ kept.long_premises;
  patterns = kept.patterns;
  nodes = kept.nodes;
  links = kept.links;
  controls = kept.controls;
  premises =
      all_below_set (λ i x. premise_fits t.counts.nodes t.counts.links x) t.premises t.counts.premises q blank_premise
      (omega (arith, kept.long_premises, taken.1)) kept.premises (rw (taken.2, taken.3));
}

-- the options are those of the options record, which has passed, or stay
pub options_kept : (stage : ℕ) (t : Project) (p : List ℕ) (e : Entry) → (1 ≤ stage → options_ok t.options ≡ true) → Taken stage t.counts p e
    → options_ok (placed t e p).options ≡ true
unfolding placed
options_kept stage t p (entries.Options o) old taken = taken
options_kept stage t p entries.Pattern old taken = old taken.0
options_kept stage t p (entries.Node n) old taken = old taken.0
options_kept stage t p (entries.Link l) old taken = old taken.0
options_kept stage t p (entries.Control c) old taken = old taken.0
options_kept stage t p (entries.Premise q) old taken = old taken.0
