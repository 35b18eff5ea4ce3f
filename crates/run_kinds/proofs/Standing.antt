-- The levels of tanks, listed in the order of the controls: each turn adds what one control has. Assumes nothing.
use Prim.Native.Nat.{ℕ, zero, suc, ◌+◌, ◌≤◌, ◌<◌}
use mathlib.Core.Path.{◌≡◌, refl, sym, ap, ◌∙◌, subst}
use mathlib.Core.Bool.{Bool, true, false, cond, not, true≢false}
use mathlib.Core.List.{List, [], ◌∷◌, ◌++◌, append-nil}
use mathlib.Core.Logic.{◌⊎◌, ⊎_elim}
use native.Mathlib.Nat.{le_of_suc-le-suc, eq-or-lt_of_le}
use native.Mathlib.Numerals.{add-one}
use native.Mathlib.Omega.{arith}
use borrow.Author.Tests.{ltb-false, eq-eqb, eqb-true}
use lib.Dec.{eqb, ltb}
use lib.Ieee.{Float, nan}
use lib.ListN.{get_or, set, take, length, length-set, length-take, length-append, get_or-append}
use lib.Seq.{get_or-set_same, get_or-set_other, get_or-append_seam}
use Rattle.std.specs.List.{position_or_len}
use Rattle.std.specs.Prelude.{Option, None, Some, position}
use Rattle.std.proofs.lemmas.List.{get_or-take}
use Rattle.std.proofs.lemmas.List.Quantifiers.{position-Some}
use Rattle.std.proofs.lemmas.List.Sums.{fails_before_first}
use Rattle.std.proofs.lemmas.Option.{none-some, same_Some, some_pair_parts}
use Rattle.clock.specs.Triggers.{Trigger, at_time, at_clock, at_level, untimed}
use Rattle.control.specs.Controls.{Level, watched, trigger_of}
use Rattle.model.specs.Blank.{blank_control}
use Rattle.model.specs.declared.control.Control.{Control}
use Rattle.model.specs.declared.control.ControlCondition.{ControlCondition}
use Rattle.model.specs.declared.control.ControlCondition.TheVariants.{HighPressure, LowPressure, HighLevel, LowLevel, Time, ClockTime}
use Rattle.model.proofs.Loops.{all_below_lem, held_failed}
use Rattle.model.specs.declared.node.Node.{Node}
use Rattle.run_tables.specs.Chosen.{chosen}
use Rattle.run_tables.specs.Held.{TanksInside, TanksLaid}
use Rattle.run_tables.specs.Tanks.{tank_in, tank_nodes_in}
use Rattle.run_kinds.specs.Calls.{levels_in}
use Rattle.run_kinds.specs.Levels.{levels_at, level_of, stands_at, Numbered, levels_of, no_level, LevelsHeld, LevelsLaid, LevelsInside}
use Rattle.run_kinds.specs.Triggers.{listed, trigger_in, triggers_in}

-- ---- a list of controls
levels_last : (f : Level → Bool) (ts : List (Trigger Level)) (t : Trigger Level) → levels_in f (ts ++ (t ∷ [])) ≡ levels_in f ts ++ levels_in f (t ∷ [])
unfolding levels_in
levels_last f [] t = refl
levels_last f (at_time s ∷ ts) t = levels_last f ts t
levels_last f (at_clock s ∷ ts) t = levels_last f ts t
levels_last f (untimed ∷ ts) t = levels_last f ts t
levels_last f (at_level l ∷ ts) t = by (f l) (levels_last f ts t)
  where
    by : (b : Bool) → levels_in f (ts ++ (t ∷ [])) ≡ levels_in f ts ++ levels_in f (t ∷ [])
        → cond b (l ∷ levels_in f (ts ++ (t ∷ []))) (levels_in f (ts ++ (t ∷ []))) ≡ cond b (l ∷ levels_in f ts) (levels_in f ts) ++ levels_in f (t ∷ [])
    by true r = ap (λ (xs : List Level). l ∷ xs) r
    by false r = r

levels_alone : (nodes : List ℕ) (among : ℕ) (c : ControlCondition)
    → levels_in (λ l. stands_at nodes among l.tank) (trigger_of c ∷ []) ≡ levels_at (stands_at nodes among (watched c)) c
unfolding levels_in
levels_alone nodes among (HighPressure n x) = refl
levels_alone nodes among (LowPressure n x) = refl
levels_alone nodes among (HighLevel n x) = refl
levels_alone nodes among (LowLevel n x) = refl
levels_alone nodes among (Time s) = refl
levels_alone nodes among (ClockTime s) = refl

-- a condition that is no level adds nothing
levels_no : (b : Bool) (c : ControlCondition) → level_of c ≡ None → levels_at b c ≡ []
levels_no b (HighPressure i x) e = refl
levels_no b (LowPressure i x) e = refl
levels_no b (HighLevel i x) e = absurd (none-some (i, x) (sym e))
levels_no b (LowLevel i x) e = absurd (none-some (i, x) (sym e))
levels_no b (Time s) e = refl
levels_no b (ClockTime s) e = refl

-- a level adds itself where a tank is at its node
levels_by : (b : Bool) (c : ControlCondition) (n : ℕ) (x : Float) → level_of c ≡ Some (n, x)
    → (watched c ≡ n) × (levels_at b c ≡ cond b (record { tank = n; target = x } ∷ []) [])
levels_by b (HighPressure i y) n x e = absurd (none-some (n, x) e)
levels_by b (LowPressure i y) n x e = absurd (none-some (n, x) e)
levels_by b (HighLevel i y) n x e = let q = some_pair_parts i n y x e in (q.0, rw (q.0, q.1))
levels_by b (LowLevel i y) n x e = let q = some_pair_parts i n y x e in (q.0, rw (q.0, q.1))
levels_by b (Time s) n x e = absurd (none-some (n, x) e)
levels_by b (ClockTime s) n x e = absurd (none-some (n, x) e)

-- one at most
pub levels_few : (b : Bool) (c : ControlCondition) → length (levels_at b c) ≤ 1
levels_few b (HighPressure i x) = omega arith
levels_few b (LowPressure i x) = omega arith
levels_few true (HighLevel i x) = omega arith
levels_few false (HighLevel i x) = omega arith
levels_few true (LowLevel i x) = omega arith
levels_few false (LowLevel i x) = omega arith
levels_few b (Time s) = omega arith
levels_few b (ClockTime s) = omega arith

-- ---- one entry more
more : {nodes : List ℕ} {m : ℕ} {xs : List Level} {tanks : List ℕ} {targets : List Float} {count k w : ℕ} (x : Float)
    → LevelsHeld xs nodes m tanks targets count → count < length tanks → count < length targets → k < m → get_or nodes k 0 ≡ w
    → LevelsHeld (xs ++ (record { tank = w; target = x } ∷ [])) nodes m (set tanks count k) (set targets count x) (count + 1)
more {nodes} {m} {xs} {tanks} {targets} {count} {k} {w} x h a b r s = record {
  many = omega (arith, h.many, length-append xs (v ∷ []));
  low = λ i l.
      ⊎_elim
      (λ q. subst (λ (j : ℕ). j < m) (sym (ap (λ (j : ℕ). get_or (set tanks count k) j 0) q ∙ new)) r)
      (λ q. subst (λ (j : ℕ). j < m) (sym (tank_old i q)) (h.low i q))
      (eq-or-lt_of_le (omega arith));
  tank = λ i l.
      ⊎_elim
      (λ q. rw q (ap (λ (j : ℕ). get_or nodes j 0) new ∙ s ∙ sym (ap (λ (y : Level). y.tank) last)))
      (λ q. ap (λ (j : ℕ). get_or nodes j 0) (tank_old i q) ∙ h.tank i q ∙ sym (ap (λ (y : Level). y.tank) (old i q)))
      (eq-or-lt_of_le (omega arith));
  target = λ i l.
      ⊎_elim
      (λ q. rw q (get_or-set_same targets count x nan b ∙ sym (ap (λ (y : Level). y.target) last)))
      (λ q. get_or-set_other targets count i x nan (λ z. omega arith) ∙ h.target i q ∙ sym (ap (λ (y : Level). y.target) (old i q)))
      (eq-or-lt_of_le (omega arith));
}
  where
    v : Level
    v = record { tank = w; target = x }

    tank_old : (i : ℕ) → i < count → get_or (set tanks count k) i 0 ≡ get_or tanks i 0
    tank_old i l = get_or-set_other tanks count i k 0 (λ s. omega arith)

    old : (i : ℕ) → i < count → get_or (xs ++ (v ∷ [])) i no_level ≡ get_or xs i no_level
    old i l = get_or-append xs (v ∷ []) no_level i (omega (arith, h.many))

    last : get_or (xs ++ (v ∷ [])) count no_level ≡ v
    last = ap (λ (j : ℕ). get_or (xs ++ (v ∷ [])) j no_level) h.many ∙ get_or-append_seam xs v [] no_level

    new : get_or (set tanks count k) count 0 ≡ k
    new = get_or-set_same tanks count k 0 a

-- ---- the loop over the controls
-- the levels of the first i are listed
pub record Listing (controls : List Control) (nodes : List ℕ) (among i : ℕ) (tanks : List ℕ) (targets : List Float) (count : ℕ) : Type 0 where
  pub long : length tanks ≡ 64
  pub wide : length targets ≡ 64
  pub few : count ≤ i
  pub held : LevelsLaid controls i nodes among tanks targets count

-- the condition of control i
abbrev pub at : List Control → ℕ → ControlCondition
at controls i = (get_or controls i blank_control).condition

last : (controls : List Control) (nodes : List ℕ) (among i : ℕ)
    → levels_of controls (i + 1) nodes among ≡ levels_of controls i nodes among ++ levels_at (stands_at nodes among (watched (at controls i))) (at controls i)
unfolding listed
last controls nodes among i = rw (add-one i, levels_last (λ v. stands_at nodes among v.tank) (triggers_in controls i) (trigger_in controls i), levels_alone nodes among (at controls i))

module _ {controls : List Control} {nodes : List ℕ} {among : ℕ} where
  pub list_none : {tanks : List ℕ} {targets : List Float} → length tanks ≡ 64 → length targets ≡ 64 → Listing controls nodes among 0 tanks targets 0
  unfolding listed levels_in
  list_none e f = record {
    long = e;
    wide = f;
    few = omega arith;
    held = record { many = refl; low = λ i l. absurd (omega arith); tank = λ i l. absurd (omega arith); target = λ i l. absurd (omega arith) };
  }

  -- a control that is no level of a tank
  pass : {i : ℕ} {tanks : List ℕ} {targets : List Float} {count : ℕ} → Listing controls nodes among i tanks targets count
      → levels_at (stands_at nodes among (watched (at controls i))) (at controls i) ≡ [] → Listing controls nodes among (i + 1) tanks targets count
  pass {i} h e = record { long = h.long; wide = h.wide; few = omega (arith, h.few); held = rw (last controls nodes among i, e, append-nil _) h.held }

  pub list_pass : {i : ℕ} {tanks : List ℕ} {targets : List Float} {count : ℕ} → Listing controls nodes among i tanks targets count
      → level_of (at controls i) ≡ None → Listing controls nodes among (i + 1) tanks targets count
  list_pass {i} h e = pass h (levels_no _ (at controls i) e)

  pub list_untanked : {i w : ℕ} {x : Float} {tanks : List ℕ} {targets : List Float} {count : ℕ} → Listing controls nodes among i tanks targets count
      → level_of (at controls i) ≡ Some (w, x) → Numbered nodes among w None → Listing controls nodes among (i + 1) tanks targets count
  list_untanked {i} {w} {x} h e u = pass h (let l = levels_by (stands_at nodes among (watched (at controls i))) (at controls i) w x e in l.1 ∙ rw (l.0, u.stands))

  pub list_put : {i k w : ℕ} {x : Float} {tanks : List ℕ} {targets : List Float} {count : ℕ} → Listing controls nodes among i tanks targets count → i < 64
      → level_of (at controls i) ≡ Some (w, x) → Numbered nodes among w (Some k)
      → Listing controls nodes among (i + 1) (set tanks count k) (set targets count x) (count + 1)
  list_put {i} {k} {w} {x} {tanks} {targets} {count} h m e u =
      let l = levels_by (stands_at nodes among (watched (at controls i))) (at controls i) w x e in
      let f = u.found k refl in
      record {
        long = length-set tanks count k ∙ h.long;
        wide = length-set targets count x ∙ h.wide;
        few = omega (arith, h.few);
        held = rw (last controls nodes among i, l.1, l.0, u.stands) (more x h.held (omega (arith, h.few, h.long)) (omega (arith, h.few, h.wide)) f.0 f.1);
      }

-- no more than there are controls
levels_most : (controls : List Control) (nodes : List ℕ) (among n : ℕ) → length (levels_of controls n nodes among) ≤ n
unfolding listed levels_in
levels_most controls nodes among zero = omega arith
levels_most controls nodes among (suc n) =
    let r : length (levels_of controls n nodes among) ≤ n = levels_most controls nodes among n in
    rw (levels_last (λ v. stands_at nodes among v.tank) (triggers_in controls n) (trigger_in controls n), levels_alone nodes among (at controls n))
    (omega (
      arith,
      r,
      length-append (levels_of controls n nodes among) (levels_at (stands_at nodes among (watched (at controls n))) (at controls n)),
      levels_few (stands_at nodes among (watched (at controls n))) (at controls n),
    ))

pub levels_laid_few : (controls : List Control) (n : ℕ) (nodes : List ℕ) (among : ℕ) {tanks : List ℕ} {targets : List Float} {count : ℕ}
    → LevelsLaid controls n nodes among tanks targets count → count ≤ n
levels_laid_few controls n nodes among h = omega (arith, h.many, levels_most controls nodes among n)

-- a pass may read what is laid
pub levels_inside : {xs : List Level} {nodes : List ℕ} {among : ℕ} {tanks : List ℕ} {targets : List Float} {count : ℕ}
    → LevelsHeld xs nodes among tanks targets count → TanksInside nodes among → LevelsInside tanks count nodes
levels_inside {tanks = tanks} h t i l = record { tank = omega (arith, h.low i l, t.most); node = t.node (get_or tanks i 0) (h.low i l) }

-- ---- the search for a tank
found_at : (nodes : List ℕ) {n node k : ℕ} → k < n → get_or nodes k 0 ≡ node → stands_at nodes n node ≡ true
unfolding stands_at
found_at nodes {n} {node} {k} l e = rw (held_failed n (λ j. not (eqb (get_or nodes j 0) node)) k l (rw (eq-eqb (get_or nodes k 0) node e)))

pub numbered : {nodes : List ℕ} {n node : ℕ} → n ≤ length nodes → (k : Option ℕ) → k ≡ position (λ j. eqb j node) (take n nodes) → Numbered nodes n node k
unfolding stands_at
numbered {nodes} {n} {node} m (Some k) e =
    let s = position-Some (λ j. eqb j node) (take n nodes) k 0 (sym e) in
    let l : k < n = omega (arith, s.0, length-take n nodes) in
    let q : get_or nodes k 0 ≡ node = eqb-true _ _ (sym (ap (λ (j : ℕ). eqb j node) (get_or-take n nodes k 0 l)) ∙ s.1) in
    record { stands = found_at nodes l q; found = λ i r. rw (← same_Some k i r) (l, q) }
numbered {nodes} {n} {node} m None e = record { stands = rw (all_below_lem n (λ j. not (eqb (get_or nodes j 0) node)) none); found = λ i r. absurd (none-some i r) }
  where
    first : ℕ
    first = position_or_len (λ j. eqb j node) (take n nodes)

    past : (b : Bool) → ltb first (length (take n nodes)) ≡ b → None ≡ cond b (Some first) None → length (take n nodes) ≤ first
    past true t z = absurd (none-some first z)
    past false t z = ltb-false _ _ t

    none : (j : ℕ) → j < n → not (eqb (get_or nodes j 0) node) ≡ true
    none j l =
        let q = fails_before_first (λ x. eqb x node) (take n nodes) j 0 (omega (arith, l, m, length-take n nodes, past _ refl e)) in
        rw (← get_or-take n nodes j 0 l, q)

-- ---- every tank is in its table
-- a place of x in a list
record Place (xs : List ℕ) (x : ℕ) : Type 0 where
  pub at : ℕ
  pub low : at < length xs
  pub is : get_or xs at 0 ≡ x

chosen_has : (test : ℕ → Bool) (n i : ℕ) → i < n → test i ≡ true → Place (chosen test n) i
unfolding chosen
chosen_has test zero i l e = absurd (omega arith)
chosen_has test (suc n) i l e = by (test n) refl (λ m. chosen_has test n i m e) (eq-or-lt_of_le (le_of_suc-le-suc l))
  where
    C : List ℕ
    C = chosen test n

    on : Place C i → Place (C ++ (n ∷ [])) i
    on q = record { at = q.at; low = omega (arith, q.low, length-append C (n ∷ [])); is = get_or-append C (n ∷ []) 0 q.at q.low ∙ q.is }

    by : (b : Bool) → test n ≡ b → (i < n → Place C i) → (i ≡ n) ⊎ (i < n) → Place (cond b (C ++ (n ∷ [])) C) i
    by true t r w = ⊎_elim (λ q. record { at = length C; low = omega (arith, length-append C (n ∷ [])); is = get_or-append_seam C n [] 0 ∙ sym q }) (λ m. on (r m)) w
    by false t r w = ⊎_elim (λ q. absurd (true≢false (sym e ∙ ap test q ∙ t))) r w

-- where no tank stands, the node is none
pub none_stands : {table : List Node} {among : ℕ} {nodes : List ℕ} {numbers : List Float} {overflows : List ℕ} {n : ℕ}
    → TanksLaid table among nodes numbers overflows n → (j : ℕ) → j < among → stands_at nodes n j ≡ false → tank_in table j ≡ false
none_stands {table} {among} {nodes} {numbers} {overflows} {n} laid j l e = by (tank_in table j) refl
  where
    by : (b : Bool) → tank_in table j ≡ b → b ≡ false
    by false t = refl
    by true t =
        let q : Place (tank_nodes_in table among) j = chosen_has (tank_in table) among j l t in
        let m : q.at < n = omega (arith, laid.count, q.low) in
        sym (found_at nodes m (laid.node q.at m ∙ q.is)) ∙ e
