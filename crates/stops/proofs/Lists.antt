-- The list of stops: it has every stop above one instant and not past another, and nothing else, and it rises. Where the stops are foreseen, a step
-- from any instant leads to the first of those that are left. Assumes nothing.
use Prim.Native.Nat.{ℕ, zero, suc, ◌+◌, ◌-◌, ◌≤◌, ◌<◌}
use mathlib.Core.Path.{◌≡◌, refl, sym, ap, ◌∙◌}
use mathlib.Core.Logic.{◌⊎◌, inl, inr, ◌↔◌}
use mathlib.Core.Bool.{Bool, true, false, cond, true≢false}
use mathlib.Core.List.{List, [], ◌∷◌, ◌++◌}
use native.Mathlib.Omega.{arith}
use native.Mathlib.Nat.{add-zero, zero-add, suc-add}
use Rattle.clock.specs.Lawful.{Accepted}
use Rattle.clock.specs.Triggers.{Trigger, Moment, length_at}
use Rattle.clock.specs.declared.length.Times.{Times}
use Rattle.clock.proofs.Lengths.{length_positive, length_within}
use Rattle.clock.proofs.Smallest.{Member}
use Rattle.clock.proofs.Tests.{lt_cases}
use Rattle.stops.specs.Stops.{stops_at, stops, stops_above}
use Rattle.stops.specs.Tankless.{NoTankTime, Frequent}
use Rattle.stops.proofs.Stops.{in_a_day, misses, hits_stop}

cond_append : (b : Bool) (x : ℕ) (xs ys : List ℕ) → cond b (x ∷ (xs ++ ys)) (xs ++ ys) ≡ cond b (x ∷ xs) xs ++ ys
cond_append true x xs ys = refl
cond_append false x xs ys = refl

-- "each once, rising": the first of them lies above t, and each other above the one before
abbrev pub Rising : ℕ → List ℕ → Type 0
Rising t [] = Unit {0}
Rising t (u ∷ us) = (t < u) × Rising u us

rising_below : (t u : ℕ) (us : List ℕ) → t ≤ u → Rising u us → Rising t us
rising_below t u [] l r = tt
rising_below t u (v ∷ us) l r = (omega (arith, r.0), r.1)

module _ {L : Type 0} (o : Times) (ts : List (Trigger L)) where
  -- ---- what the list is
  abbrev pub IsStop : ℕ → ℕ → ℕ → Type 0
  IsStop t n u = (t < u) × (u ≤ t + n) × (stops_at o ts u ≡ true)

  one_more : (t n u : ℕ) (rest : List ℕ) → Member u rest ↔ IsStop (suc t) n u → (b : Bool) → stops_at o ts (suc t) ≡ b
      → Member u (cond b (suc t ∷ rest) rest) ↔ IsStop t (suc n) u
  one_more t n u rest next = go
    where
      later : Member u rest → IsStop t (suc n) u
      later k = let h = next.0 k in (omega (arith, h.0), omega (arith, h.1), h.2)

      first : IsStop t (suc n) u → (u ≡ suc t) ⊎ Member u rest
      first h = lt_cases (suc t) u (λ l. inr (next.1 (l, omega (arith, h.1), h.2))) (λ l. inl (omega (arith, h.0)))

      front : stops_at o ts (suc t) ≡ true → (u ≡ suc t) ⊎ Member u rest → IsStop t (suc n) u
      front e (inl q) = (omega arith, omega arith, rw q e)
      front e (inr k) = later k

      behind : stops_at o ts (suc t) ≡ false → IsStop t (suc n) u → (u ≡ suc t) ⊎ Member u rest → Member u rest
      behind e h (inl q) = absurd (true≢false (sym h.2 ∙ (ap (stops_at o ts) q ∙ e)))
      behind e h (inr k) = k

      go : (b : Bool) → stops_at o ts (suc t) ≡ b → Member u (cond b (suc t ∷ rest) rest) ↔ IsStop t (suc n) u
      go true e = (front e, first)
      go false e = (later, λ h. behind e h (first h))

  -- an instant is listed exactly if it lies above t and not past t + n and one of the causes sets it
  pub stops_are : (t n u : ℕ) → Member u (stops o ts t n) ↔ IsStop t n u
  unfolding stops
  stops_are t zero u = (λ h. absurd h, λ h. absurd (omega (arith, h.0, h.1)))
  stops_are t (suc n) u = one_more t n u (stops o ts (suc t) n) (stops_are (suc t) n u) (stops_at o ts (suc t)) refl

  pub stops_rise : (t n : ℕ) → Rising t (stops o ts t n)
  unfolding stops
  stops_rise t zero = tt
  stops_rise t (suc n) = go (stops_rise (suc t) n) (stops_at o ts (suc t))
    where
      go : Rising (suc t) (stops o ts (suc t) n) → (b : Bool) → Rising t (cond b (suc t ∷ stops o ts (suc t) n) (stops o ts (suc t) n))
      go r true = (omega arith, r)
      go r false = rising_below t (suc t) (stops o ts (suc t) n) (omega arith) r

  -- ---- its parts
  one_stop : (t n z : ℕ) → z ≡ t + n → 0 < n → stops_at o ts z ≡ true → ((u : ℕ) → t < u → u < z → stops_at o ts u ≡ false) → stops o ts t n ≡ z ∷ []
  unfolding stops
  one_stop t zero z e p a b = absurd (omega arith)
  one_stop t (suc zero) z e p a b = let q : z ≡ suc t = omega arith in rw (← q, a)
  one_stop t (suc (suc n)) z e p a b =
      rw (b (suc t) (omega arith) (omega arith)) (one_stop (suc t) (suc n) z (omega arith) (omega arith) a (λ u x y. b u (omega arith) y))

  pub stops_append : (t n k : ℕ) → stops o ts t (n + k) ≡ stops o ts t n ++ stops o ts (t + n) k
  unfolding stops
  stops_append t zero k = rw (zero-add, add-zero)
  stops_append t (suc n) k =
      let q : t + suc n ≡ suc t + n = omega arith in
      rw (suc-add n k, q, stops_append (suc t) n k) (cond_append (stops_at o ts (suc t)) (suc t) (stops o ts (suc t) n) (stops o ts (suc t + n) k))

  -- ---- where the stops are foreseen
  module _ (ok : Accepted o ts) (f : Frequent o) (m : Moment L) (still : NoTankTime ts m) (t n : ℕ) (e : n ≡ length_at o ts m t) (l : t < o.duration) where
    -- a step goes to the next one
    pub step_stops : stops o ts t n ≡ (t + n) ∷ []
    step_stops =
        one_stop t n (t + n) refl
        (omega (arith, e, length_positive o ts m t ok l))
        (hits_stop o ts ok f.slow m t n e f.hydraulic still l)
        (misses o ts ok f.slow m t n e (in_a_day o ts ok f.slow m t n e f.day) (omega arith))

    -- the first of those above t is where a step from t ends
    pub above_first : stops_above o ts t ≡ (t + n) ∷ stops_above o ts (t + n)
    unfolding stops_above
    above_first =
        let k : o.duration - t ≡ n + (o.duration - (t + n)) = omega (arith, e, length_within o ts m t (omega arith)) in
        ap (stops o ts t) k ∙ stops_append t n (o.duration - (t + n)) ∙ rw step_stops

  -- at or past the duration none is left
  pub above_none : (t : ℕ) → o.duration ≤ t → stops_above o ts t ≡ []
  unfolding stops_above stops
  above_none t l = let z : o.duration - t ≡ 0 = omega arith in rw z
