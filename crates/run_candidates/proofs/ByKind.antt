-- The lists of the kinds, one after the other, find the smallest candidate of all the controls, whatever their order. Assumes nothing.
use Prim.Native.Nat.{ℕ, zero, suc, min, ◌≤◌, ◌<◌}
use mathlib.Core.Path.{◌≡◌, refl, sym, ap, ◌∙◌}
use mathlib.Core.Bool.{Bool, true, false, cond}
use mathlib.Core.List.{List, [], ◌∷◌, ◌++◌, map}
use native.Mathlib.Omega.{arith}
use native.Mathlib.Nat.{le_of_suc-le-suc, not-suc-le-zero}
use lib.ListN.{get_or, length, take, length-map}
use lib.Seq.{take-suc, take_all}
use Rattle.number.specs.Constants.{MAX}
use Rattle.clock.specs.Lawful.{Each}
use Rattle.clock.specs.Steps.{clock_time, time_candidate, clock_candidate, smaller_positive, smallest_positive}
use Rattle.clock.specs.Triggers.{Trigger, at_time, at_clock, at_level, untimed, Moment, candidate, control_time}
use Rattle.clock.specs.declared.length.Times.{Times}
use Rattle.clock.proofs.Tests.{eqb_ind}
use Rattle.clock.proofs.Smallest.{smallest_max}
use Rattle.model.specs.Loops.{through}
use Rattle.run_kinds.specs.Calls.{times_in, clocks_in, levels_in, Laid}

-- ---- the smallest of a list that is not 0, going on from z
unfoldable pub smallest_from : List ℕ → ℕ → ℕ
smallest_from [] z = z
smallest_from (x ∷ xs) z = smaller_positive x (smallest_from xs z)

pub swapped : (x y s : ℕ) → smaller_positive x (smaller_positive y s) ≡ smaller_positive y (smaller_positive x s)
swapped x y s =
    eqb_ind (λ b. cond b (smaller_positive y s) (min x (smaller_positive y s)) ≡ smaller_positive y (cond b s (min x s))) x 0
    (λ e. refl)
    (λ e. eqb_ind (λ b. min x (cond b s (min y s)) ≡ cond b (min x s) (min y (min x s))) y 0 (λ z. refl) (λ z. omega arith))

-- a candidate may be taken before a list as well as after it
before_list : (xs : List ℕ) (y z : ℕ) → smallest_from xs (smaller_positive y z) ≡ smaller_positive y (smallest_from xs z)
unfolding smallest_from
before_list [] y z = refl
before_list (x ∷ xs) y z = ap (smaller_positive x) (before_list xs y z) ∙ swapped x y (smallest_from xs z)

-- MAX changes nothing
never : (z : ℕ) → z ≤ MAX → smaller_positive MAX z ≡ z
never z h = omega arith

-- a level that is not listed is never reached
abbrev pub Unreached : {L : Type 0} → (L → Bool) → (L → ℕ) → Trigger L → Type 0
Unreached tank level (at_time s) = Unit {0}
Unreached tank level (at_clock s) = Unit {0}
Unreached tank level (at_level l) = tank l ≡ false → level l ≡ MAX
Unreached tank level untimed = Unit {0}

module _ {L : Type 0} (o : Times) (m : Moment L) (time : ℕ) (tank : L → Bool) where
  abbrev clock : ℕ
  clock = clock_time o.start_clock time

  abbrev clocks : List (Trigger L) → List ℕ
  clocks ts = map (λ s. clock_candidate s clock) (clocks_in ts)

  abbrev times : List (Trigger L) → List ℕ
  times ts = map (λ s. time_candidate s time) (times_in ts)

  abbrev levels : List (Trigger L) → List ℕ
  levels ts = map m.level (levels_in tank ts)

  -- the levels, then the times, then the clock times
  abbrev pub by_kind : List (Trigger L) → ℕ
  by_kind ts = smallest_from (clocks ts) (smallest_from (times ts) (smallest_from (levels ts) MAX))

  pub by_kind_lem : (ts : List (Trigger L)) → Each (Unreached tank m.level) ts → by_kind ts ≡ control_time o ts m time
  unfolding control_time candidate smallest_positive smallest_from times_in clocks_in levels_in
  by_kind_lem [] u = refl
  by_kind_lem (at_time s ∷ ts) (u, us) =
      before_list (clocks ts) (time_candidate s time) (smallest_from (times ts) (smallest_from (levels ts) MAX))
      ∙ ap (smaller_positive (time_candidate s time)) (by_kind_lem ts us)
  by_kind_lem (at_clock s ∷ ts) (u, us) = ap (smaller_positive (clock_candidate s clock)) (by_kind_lem ts us)
  by_kind_lem (at_level l ∷ ts) (u, us) = by (tank l) refl (by_kind_lem ts us)
    where
      all : ℕ
      all = smallest_positive (map (candidate o m time) ts)

      by : (b : Bool) → tank l ≡ b → by_kind ts ≡ all
          → smallest_from (clocks ts) (smallest_from (times ts) (smallest_from (map m.level (cond b (l ∷ levels_in tank ts) (levels_in tank ts))) MAX))
          ≡ smaller_positive (m.level l) all
      by true e h =
          ap (smallest_from (clocks ts)) (before_list (times ts) (m.level l) (smallest_from (levels ts) MAX))
          ∙ before_list (clocks ts) (m.level l) (smallest_from (times ts) (smallest_from (levels ts) MAX))
          ∙ ap (smaller_positive (m.level l)) h
      by false e h = h ∙ sym (ap (λ (x : ℕ). smaller_positive x all) (u e) ∙ never all (smallest_max (map (candidate o m time) ts)))
  by_kind_lem (untimed ∷ ts) (u, us) = by_kind_lem ts us ∙ sym (never _ (smallest_max (map (candidate o m time) ts)))

-- ---- a loop over an array
-- the loop takes the last first, the list the first first
one_more : (xs : List ℕ) (x z : ℕ) → smallest_from (xs ++ (x ∷ [])) z ≡ smaller_positive x (smallest_from xs z)
unfolding smallest_from
one_more [] x z = refl
one_more (y ∷ xs) x z = ap (smaller_positive y) (one_more xs x z) ∙ swapped y x (smallest_from xs z)

loop_take : (g : ℕ → ℕ) (xs : List ℕ) (z n : ℕ) → n ≤ length xs → ((i : ℕ) → i < n → g i ≡ get_or xs i 0)
    → through n (λ i smallest. smaller_positive (g i) smallest) z ≡ smallest_from (take n xs) z
unfolding through smallest_from
loop_take g xs z zero h e = refl
loop_take g xs z (suc n) h e =
    ap (smaller_positive (g n)) (loop_take g xs z n (omega arith) (λ i l. e i (omega arith)))
    ∙ ap (λ (x : ℕ). smaller_positive x (smallest_from (take n xs) z)) (e n (omega arith))
    ∙ sym (ap (λ (ys : List ℕ). smallest_from ys z) (take-suc xs n 0 (omega arith)) ∙ one_more (take n xs) (get_or xs n 0) z)

-- an entry of a list of candidates
candidate_at : {A : Type 0} (f : A → ℕ) (xs : List A) (d : A) (i : ℕ) → i < length xs → get_or (map f xs) i 0 ≡ f (get_or xs i d)
candidate_at f [] d i h = absurd (not-suc-le-zero h)
candidate_at f (x ∷ xs) d zero h = refl
candidate_at f (x ∷ xs) d (suc i) h = candidate_at f xs d i (le_of_suc-le-suc h)

-- a loop whose candidates are f of a list's entries
pub loop_is : {A : Type 0} (f : A → ℕ) (g : ℕ → ℕ) (xs : List A) (d : A) (z n : ℕ) → n ≡ length xs → ((i : ℕ) → i < n → g i ≡ f (get_or xs i d))
    → through n (λ i smallest. smaller_positive (g i) smallest) z ≡ smallest_from (map f xs) z
loop_is f g xs d z n q e =
    loop_take g (map f xs) z n (omega (arith, length-map xs f)) (λ i l. e i l ∙ sym (candidate_at f xs d i (omega (arith, q))))
    ∙ ap (λ (ys : List ℕ). smallest_from ys z) (take_all n (map f xs) (omega (arith, length-map xs f)))

pub laid_is : (f : ℕ → ℕ) {array : List ℕ} {n : ℕ} {xs : List ℕ} → Laid array n xs → (z : ℕ)
    → through n (λ i smallest. smaller_positive (f (get_or array i 0)) smallest) z ≡ smallest_from (map f xs) z
laid_is f {array} {n} {xs} h z = loop_is f (λ i. f (get_or array i 0)) xs 0 z n h.count (λ i l. ap f (h.each i l))
