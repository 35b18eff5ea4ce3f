-- Without tanks and off the fast path, with a timestep of at most a day, the clock that counts seconds walks the step's length: it stops at the first
-- instant that calls for it, and that is where the step ends. Assumes nothing.
use Prim.Native.Nat.{ℕ, zero, suc, ◌+◌, ◌-◌, ◌≤◌, ◌<◌}
use mathlib.Core.Path.{◌≡◌, refl}
use mathlib.Core.Logic.{◌⊎◌, inl, inr}
use mathlib.Core.Bool.{Bool, true, false, cond, ◌||◌}
use mathlib.Core.List.{List}
use native.Mathlib.Omega.{arith}
use lib.Dec.{eqb}
use borrow.Author.Tests.{eq-eqb, ne_eqb}
use Rattle.clock.specs.Lawful.{Accepted}
use Rattle.clock.specs.Steps.{DAY}
use Rattle.clock.specs.Triggers.{Trigger, Moment, length_at}
use Rattle.clock.specs.declared.length.Times.{Times}
use Rattle.clock.proofs.Lengths.{length_past, length_positive, length_within}
use Rattle.clock.proofs.Tests.{lt_cases}
use Rattle.stops.specs.Stops.{stops_at}
use Rattle.stops.specs.Tankless.{NoTankTime, Daily}
use Rattle.stops.specs.Walk.{stops_after, walked, walk}
use Rattle.stops.proofs.Stops.{or_left, or_right, or_none, to_hydraulic, in_a_day, misses, hits}

-- the first stop ends the walk
walked_is : (stops : ℕ → Bool) (k i n : ℕ) → i < n → n ≤ i + k → stops n ≡ true → ((j : ℕ) → i < j → j < n → stops j ≡ false) → walked stops i k ≡ n
unfolding walked
walked_is stops zero i n a b s f = absurd (omega arith)
walked_is stops (suc k) i n a b s f =
    lt_cases (suc i) n
    (λ l. rw (f (suc i) (omega arith) l) (walked_is stops k (suc i) n l (omega arith) s (λ j x y. f j (omega arith) y)))
    (λ l. let q : suc i ≡ n = omega arith in rw (q, s))

-- it goes by the seconds that it walks
pub walked_same : (stops other : ℕ → Bool) (n k : ℕ) → ((j : ℕ) → n < j → j ≤ n + k → stops j ≡ other j) → walked stops n k ≡ walked other n k
unfolding walked
walked_same stops other n zero h = refl
walked_same stops other n (suc k) h =
    rw (h (suc n) (omega arith) (omega arith), walked_same stops other (suc n) k (λ j a b. h j (omega arith) (omega arith)))

pub walked_within : (stops : ℕ → Bool) (n k : ℕ) → walked stops n k ≤ n + k
unfolding walked
walked_within stops n zero = omega arith
walked_within stops n (suc k) = go (stops (suc n)) (walked_within stops (suc n) k)
  where
    go : (b : Bool) → walked stops (suc n) k ≤ suc n + k → cond b (suc n) (walked stops (suc n) k) ≤ n + suc k
    go true h = omega arith
    go false h = omega arith

module _ {L : Type 0} (o : Times) (ts : List (Trigger L)) (t : ℕ) where
  -- it never passes the duration
  pub walk_within : t ≤ o.duration → t + walk o ts t ≤ o.duration
  unfolding walk
  walk_within l = omega (arith, walked_within (stops_after o ts t) 0 (o.duration - t))

  module _ (ok : Accepted o ts) (slow : o.fast ≡ false) (daily : Daily o) (m : Moment L) (still : NoTankTime ts m) where
    -- and without tanks it is as long as a step
    pub walk_is : walk o ts t ≡ length_at o ts m t
    unfolding walk walked stops_after
    walk_is = lt_cases t o.duration on done
      where
        n : ℕ
        n = length_at o ts m t

        most : n ≤ o.hydraulic
        most = to_hydraulic o ts ok slow m t n refl daily.hydraulic

        day : (o.report ≤ DAY) ⊎ (o.pattern ≤ DAY) ⊎ (o.hydraulic ≤ DAY) → n ≤ DAY
        day (inl d) = in_a_day o ts ok slow m t n refl (inl d)
        day (inr (inl d)) = in_a_day o ts ok slow m t n refl (inr d)
        day (inr (inr d)) = omega (arith, most)

        stop : (stops_at o ts (t + n) ≡ true) ⊎ (n ≡ o.hydraulic) → (stops_at o ts (t + n) || eqb n o.hydraulic) ≡ true
        stop (inl q) = or_left (stops_at o ts (t + n)) _ q
        stop (inr q) = or_right (stops_at o ts (t + n)) _ (eq-eqb n o.hydraulic q)

        on : t < o.duration → walked (stops_after o ts t) 0 (o.duration - t) ≡ n
        on l =
            walked_is (stops_after o ts t) (o.duration - t) 0 n
            (length_positive o ts m t ok l)
            (omega (arith, length_within o ts m t (omega arith)))
            (stop (hits o ts ok slow m t n refl still l))
            (λ j a b.
            or_none (stops_at o ts (t + j)) _
            (misses o ts ok slow m t n refl (day daily.one) (omega arith) (t + j) (omega arith) (omega arith))
            (ne_eqb j o.hydraulic (λ z. omega (arith, most))))

        done : o.duration ≤ t → walked (stops_after o ts t) 0 (o.duration - t) ≡ n
        done l = let z : o.duration - t ≡ 0 = omega arith in rw (z, length_past o ts m t l)
