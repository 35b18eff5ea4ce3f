-- A table that is the one laid out: what it has, and that what the code lays out is it. Assumes nothing.
use Prim.Native.Nat.{ℕ, suc, ◌+◌, ◌-◌, ◌≤◌, ◌<◌}
use mathlib.Core.Path.{◌≡◌, refl, sym, ap, ◌∙◌}
use mathlib.Core.Bool.{true, ◌&&◌}
use mathlib.Core.List.{List}
use native.Mathlib.Numerals.{add-one}
use native.Mathlib.Omega.{arith}
use borrow.Author.Tests.{eqb-true, eq-eqb, le-leb, leb-true}
use lib.Dec.{eqb, leb}
use lib.ListN.{length, get_or, take, replicate, length-append, length-replicate, length-take, get_or-append}
use lib.Seq.{sets, sets-eq, length-sets, get_or-append-add, ext_get_or, get_or-take, length-take-le, take-append_seam}
use Rattle.std.specs.Bool.{one_answer}
use Rattle.std.specs.Cmp.Lexicographic.{pointwise_decides}
use Rattle.std.specs.List.{starts_with}
use Rattle.std.proofs.lemmas.Bool.Decides.{Decides-eqb}
use Rattle.model.specs.declared.project.Project.{Project}
use Rattle.model.proofs.Loops.{both_left, both_right, held_at, all_below_lem}
use Rattle.tables.specs.Fit.{TablesFit}
use Rattle.run_tables.specs.Held.{Pushed}
use Rattle.run_tables.specs.Tanks.{tank_in, tank_nodes}
use Rattle.run_tables.proofs.Listed.{chosen_few}
use Rattle.run_tables.proofs.Inside.{distinct}
use Rattle.tank_links.specs.Groups.{links_into, links_out_of, group, tank_count, tank_node, joined, listed, begin, middle, begins_of, middles_of, entries_of, begins_with, is_laid_out}
use Rattle.tank_links.specs.Laid.{EndsInside, into_in, out_of_in, group_in, begin_in, middle_in, GroupLaid}
use Rattle.tank_links.proofs.Putting.{sets_at}
use Rattle.tank_links.proofs.Laying.{length_listed, listed_at, group_same, begins_same, middles_same, joined_more}
use Rattle.tank_links.proofs.Fitting.{groups_few}
use Rattle.tank_links.proofs.Groups.{group_at, grows}

-- ---- an array begins with a list
with_at : (array xs : List ℕ) → begins_with array xs ≡ true → (i : ℕ) → i < length xs → get_or array i 0 ≡ get_or xs i 0
unfolding begins_with
with_at array xs e i h = eqb-true _ _ (held_at (length xs) (λ k. eqb (get_or array k 0) (get_or xs k 0)) (both_right (leb (length xs) (length array)) _ e) i h)

pub with_long : (array xs : List ℕ) → begins_with array xs ≡ true → length xs ≤ length array
unfolding begins_with
with_long array xs e = leb-true (length xs) (length array) (both_left (leb (length xs) (length array)) _ e)

with_put : (array xs : List ℕ) → length xs ≤ length array → begins_with (sets array 0 xs) xs ≡ true
unfolding begins_with
with_put array xs room =
    rw (length-sets array 0 xs, le-leb (length xs) (length array) room) (all_below_lem (length xs) _ (λ i h. eq-eqb _ _ (sets_at array xs i room h)))

zeros : (n : ℕ) {array : List ℕ} → array ≡ replicate n 0 → length array ≡ n
zeros n e = ap length e ∙ length-replicate {A = ℕ} n 0

-- the test as the code makes it: against the front of an array that the list was put into
starts_begins : (array xs : List ℕ) → starts_with eqb array xs ≡ begins_with array xs
unfolding begins_with
starts_begins array xs = one_answer _ _ (pointwise_decides Decides-eqb xs (take (length xs) array)) (to, from)
  where
    to : begins_with array xs ≡ true → xs ≡ take (length xs) array
    to e =
        ext_get_or 0 xs (take (length xs) array) (sym (length-take-le (length xs) array (with_long array xs e)))
        (λ i h. sym (get_or-take (length xs) array i 0 h ∙ with_at array xs e i h))

    from : xs ≡ take (length xs) array → begins_with array xs ≡ true
    from e =
        let room : length xs ≤ length array = omega (arith, ap length e, length-take (length xs) array) in
        rw (le-leb (length xs) (length array) room)
        (all_below_lem (length xs) _ (λ i h. eq-eqb _ _ (sym (ap (λ (ys : List ℕ). get_or ys i 0) e ∙ get_or-take (length xs) array i 0 h))))

starts_own : (array l xs : List ℕ) {own : List ℕ} {n : ℕ} → own ≡ sets l 0 xs → n ≡ length xs → length xs ≤ length l → starts_with eqb array (take n own) ≡ begins_with array xs
starts_own array l xs {own} {n} e q room =
    rw (
      e,
      q,
      ap (take (length xs)) (sets-eq xs l 0 (omega (arith, room))) ∙ take-append_seam xs _,
    ) (starts_begins array xs)

module _ (p : Project) where
  abbrev T : ℕ
  T = tank_count p

  abbrev N : ℕ
  N = p.counts.nodes

  abbrev L : ℕ
  L = p.counts.links

  abbrev into : ℕ → List ℕ
  into k = links_into p (tank_node p k)

  abbrev out : ℕ → List ℕ
  out k = links_out_of p (tank_node p k)

  pub next_begin : (k : ℕ) → begin p (suc k) ≡ begin p k + length (into k) + length (out k)
  next_begin k = omega (arith, joined_more (λ m. group p (tank_node p m)) k, length-append (into k) (out k))

  -- ---- what stands in a table that is the one laid out
  pub record Stands (begins middles links : List ℕ) : Type 0 where
    pub first : (k : ℕ) → k ≤ T → get_or begins k 0 ≡ begin p k
    pub second : (k : ℕ) → k < T → get_or middles k 0 ≡ middle p k
    pub entry : (i : ℕ) → i < begin p T → get_or links i 0 ≡ get_or (entries_of p) i 0

  pub stands : (begins middles links : List ℕ) → is_laid_out p begins middles links ≡ true → Stands begins middles links
  unfolding is_laid_out begins_of middles_of entries_of
  stands begins middles links e = record {
    first = λ k h.
        with_at begins (begins_of p) (both_left (begins_with begins (begins_of p)) _ rest) k (omega (arith, length_listed (begin p) (suc T)))
        ∙ listed_at (begin p) (suc T) k (omega arith);
    second = λ k h.
        with_at middles (middles_of p) (both_right (begins_with begins (begins_of p)) _ rest) k (omega (arith, length_listed (middle p) T))
        ∙ listed_at (middle p) T k h;
    entry = λ i h. with_at links (entries_of p) (both_right (begins_with begins (begins_of p) && begins_with middles (middles_of p)) _ e) i h;
  }
    where
      rest : (begins_with begins (begins_of p) && begins_with middles (middles_of p)) ≡ true
      rest = both_left _ (begins_with links (entries_of p)) e

  -- ---- so the links of each tank stand there, those into it first
  pub groups_stand : {begins middles links : List ℕ} → Stands begins middles links → (k : ℕ) → k < T → GroupLaid p begins middles links k (tank_node p k)
  unfolding entries_of
  groups_stand {begins} {middles} {links} s k h = record {
    into = record {
      count = omega (arith, s.first k (omega arith), s.second k h);
      each = λ i l.
          ap (λ (m : ℕ). get_or links (m + i) 0) (s.first k (omega arith))
          ∙ s.entry (begin p k + i) (omega (arith, low i l, grows (λ m. group p (tank_node p m)) T (suc k) h, next_begin k))
          ∙ group_at (λ m. group p (tank_node p m)) T k i h (omega (arith, low i l, length-append (into k) (out k)))
          ∙ get_or-append (into k) (out k) 0 i (low i l);
    };
    out = record {
      count = omega (arith, s.second k h, last, next_begin k);
      each = λ i l.
          let q : get_or middles k 0 + i ≡ begin p k + (length (into k) + i) = omega (arith, s.second k h) in
          ap (λ (m : ℕ). get_or links m 0) q
          ∙ s.entry (begin p k + (length (into k) + i)) (omega (arith, high i l, grows (λ m. group p (tank_node p m)) T (suc k) h, next_begin k))
          ∙ group_at (λ m. group p (tank_node p m)) T k (length (into k) + i) h (omega (arith, high i l, length-append (into k) (out k)))
          ∙ get_or-append-add (into k) (out k) i 0;
    };
  }
    where
      last : get_or begins (k + 1) 0 ≡ begin p (suc k)
      last = ap (λ (m : ℕ). get_or begins m 0) (add-one k) ∙ s.first (suc k) h

      low : (i : ℕ) → i < get_or middles k 0 - get_or begins k 0 → i < length (into k)
      low i l = omega (arith, s.first k (omega arith), s.second k h)

      high : (i : ℕ) → i < get_or begins (k + 1) 0 - get_or middles k 0 → i < length (out k)
      high i l = omega (arith, s.second k h, last, next_begin k)

  -- ---- the table fits
  tanks_few : T ≤ N
  tanks_few = chosen_few (tank_in p.nodes) N

  list_pushed : Pushed (tank_in p.nodes) N (tank_nodes p) T
  list_pushed = record { many = refl; few = tanks_few; each = λ k l. refl }

  module _ (fit : TablesFit p) where
    pub ends_inside : EndsInside p.links L
    ends_inside = record {
      most = fit.few.links;
      end = λ i l. omega (arith, (fit.link i l).end, fit.few.nodes);
      start = λ i l. omega (arith, (fit.link i l).start, fit.few.nodes);
    }

    pub groups_fit : (k : ℕ) → k ≤ T → begin p k ≤ 768
    groups_fit k h = groups_few p.links L (tank_nodes p) T (distinct list_pushed) fit.few.links k h

    pub tanks_fit : T ≤ 256
    tanks_fit = omega (arith, tanks_few, fit.few.nodes)

    -- ---- what is laid out is it
    pub own_laid : (begins middles links : List ℕ) → length begins ≡ 257 → length middles ≡ 256 → length links ≡ 768
        → is_laid_out p (sets begins 0 (begins_of p)) (sets middles 0 (middles_of p)) (sets links 0 (entries_of p)) ≡ true
    unfolding is_laid_out begins_of middles_of entries_of
    own_laid begins middles links a b c =
        rw (
          with_put begins (begins_of p) (omega (arith, length_listed (begin p) (suc T), tanks_fit)),
          with_put middles (middles_of p) (omega (arith, length_listed (middle p) T, tanks_fit)),
          with_put links (entries_of p) (omega (arith, groups_fit T (omega arith))),
        )

    -- into arrays of 0
    pub laid_into_zeros : {b m l begins middles links : List ℕ} → b ≡ replicate 257 0 → m ≡ replicate 256 0 → l ≡ replicate 768 0
        → begins ≡ sets b 0 (begins_of p) → middles ≡ sets m 0 (middles_of p) → links ≡ sets l 0 (entries_of p) → is_laid_out p begins middles links ≡ true
    laid_into_zeros {b} {m} {l} x y z d e f = rw (d, e, f) (own_laid b m l (zeros 257 x) (zeros 256 y) (zeros 768 z))

  -- the code's, of the nodes that are given: they are the project's tanks
  module _ {nodes : List ℕ} {n : ℕ} (h : Pushed (tank_in p.nodes) N nodes n) where
    same_into : (k : ℕ) → k < n → into_in p.links L nodes k ≡ into k
    same_into k l = ap (links_into p) (h.each k l)

    same_out : (k : ℕ) → k < n → out_of_in p.links L nodes k ≡ out k
    same_out k l = ap (links_out_of p) (h.each k l)

    pub begins_are : listed (begin_in p.links L nodes) (suc n) ≡ begins_of p
    unfolding begins_of
    begins_are = begins_same (into_in p.links L nodes) (out_of_in p.links L nodes) into out n same_into same_out ∙ ap (λ (m : ℕ). listed (begin p) (suc m)) h.many

    pub middles_are : listed (middle_in p.links L nodes) n ≡ middles_of p
    unfolding middles_of
    middles_are = middles_same (into_in p.links L nodes) (out_of_in p.links L nodes) into out n same_into same_out ∙ ap (listed (middle p)) h.many

    pub entries_are : joined (group_in p.links L nodes) n ≡ entries_of p
    unfolding entries_of
    entries_are = group_same (into_in p.links L nodes) (out_of_in p.links L nodes) into out n same_into same_out n (omega arith) ∙ ap (joined (λ m. group p (tank_node p m))) h.many

  -- ---- a table laid out to compare with, and what the three tests tell
  pub record Own (begins middles links : List ℕ) (n : ℕ) : Type 0 where
    pub fits : get_or begins n 0 ≤ 768
    pub tells : (b m l : List ℕ)
        → ((starts_with eqb b (take (n + 1) begins) && starts_with eqb m (take n middles)) && starts_with eqb l (take (get_or begins n 0) links)) ≡ is_laid_out p b m l

  pub own : TablesFit p → {b m l begins middles links : List ℕ} {n : ℕ} → b ≡ replicate 257 0 → m ≡ replicate 256 0 → l ≡ replicate 768 0
      → n ≡ T → begins ≡ sets b 0 (begins_of p) → middles ≡ sets m 0 (middles_of p) → links ≡ sets l 0 (entries_of p) → Own begins middles links n
  unfolding begins_of middles_of entries_of is_laid_out
  own fit {b} {m} {l} {begins} {middles} {links} {n} wb wm wl t x y z = record {
    fits = omega (arith, last, groups_fit fit T (omega arith));
    tells = λ b' m' l'. rw (
      starts_own b' b (begins_of p) {n = n + 1} x (omega (arith, t, long_begins)) (omega (arith, long_begins, zeros 257 wb, tanks_fit fit)),
      starts_own m' m (middles_of p) {n = n} y (omega (arith, t, long_middles)) (omega (arith, long_middles, zeros 256 wm, tanks_fit fit)),
      starts_own l' l (entries_of p) z last (omega (arith, zeros 768 wl, groups_fit fit T (omega arith))),
    ) refl;
  }
    where
      long_begins : length (begins_of p) ≡ suc T
      long_begins = length_listed (begin p) (suc T)

      long_middles : length (middles_of p) ≡ T
      long_middles = length_listed (middle p) T

      last : get_or begins n 0 ≡ begin p T
      last =
          ap (λ (xs : List ℕ). get_or xs n 0) x
          ∙ sets_at b (begins_of p) n (omega (arith, long_begins, zeros 257 wb, tanks_fit fit)) (omega (arith, t, long_begins))
          ∙ listed_at (begin p) (suc T) n (omega (arith, t))
          ∙ ap (begin p) t
