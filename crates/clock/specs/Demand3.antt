-- Demand 3, over any list of calls of a machine. It is proved of every lawful one (Lawful.antt).
use Rattle.std.specs.Prelude.{ℕ, ◌+◌, ◌*◌, ◌-◌, ◌/◌, ◌≤◌, ◌<◌, min, ◌≡◌, ◌↔◌, Bool, true, false, cond, List, [], ◌∷◌, eqb}
use Rattle.clock.specs.declared.length.Times.{Times}
use Rattle.clock.specs.Steps.{DAY}
use Rattle.clock.specs.Triggers.{Trigger, at_time, at_clock, at_level, untimed, length_at}
use Rattle.clock.specs.Machine.{Machine, bit, final, Along, asked, answered, times_moved, state_steps}

-- ---- the numbers of the bound
-- "Whole timesteps and days are rounded down"; of a timestep of 0, which is none, there are none
unfoldable pub whole : ℕ → ℕ → ℕ
whole n k = cond (eqb k 0) 0 (n / k)

-- "rounded up"
unfoldable pub whole_up : ℕ → ℕ → ℕ
whole_up n k = (n + (k - 1)) / k

abbrev pub is_timed : {L : Type 0} → Trigger L → Bool
is_timed (at_time s) = true
is_timed (at_clock s) = false
is_timed (at_level l) = false
is_timed untimed = false

abbrev pub is_clocked : {L : Type 0} → Trigger L → Bool
is_clocked (at_time s) = false
is_clocked (at_clock s) = true
is_clocked (at_level l) = false
is_clocked untimed = false

-- how many pass a test
unfoldable pub count_of : {A : Type 0} → (A → Bool) → List A → ℕ
count_of t [] = 0
count_of t (x ∷ xs) = bit (t x) + count_of t xs

-- "the whole report, pattern and hydraulic timesteps in the duration .., plus one per time control, plus for each clock control one more than the
-- whole days, plus the steps as long as that moment's tank or level-control time, plus one". The hydraulic timestep is the one in force: in place of
-- "(no hydraulic ones where that field is 0)" stands document 02, R-7, "The bound on steps counts whole hours where the field is 0".
unfoldable pub bound : {L : Type 0} → Times → List (Trigger L) → ℕ → ℕ
bound o ts steps =
    whole o.duration o.report + whole o.duration o.pattern + whole o.duration o.hydraulic
    + count_of is_timed ts
    + count_of is_clocked ts * (whole o.duration DAY + 1)
    + steps
    + 1

-- "A step passes what lies strictly between its two instants": no multiple of k does
pub record PassesNo (k from length : ℕ) : Type 0 where
  pub none : (i : ℕ) → from < i * k → i * k < from + length → ⊥

-- ---- the claim, in the mission's order, of the state z after the list `calls` from s
pub record Claim {L : Type 0} (M : Machine L) (o : Times) (ts : List (Trigger L)) (calls : List M.Call) (s z : M.State) : Type 0 where
  -- z is the state that the list leaves
  pub left : z ≡ final M calls s
  -- "after it the instant is the sum of the steps answered"
  pub sums : M.instant z ≡ answered M calls s
  -- "and never past the duration"
  pub within : M.instant z ≤ o.duration
  -- "It is the duration exactly when a further step would answer 0"
  pub ends : (c : M.Call) → M.is_step c ≡ true → (M.instant z ≡ o.duration) ↔ (M.answer c z ≡ 0)
  -- "and always once as many steps were asked as the duration has seconds"
  pub done : o.duration ≤ asked M calls → M.instant z ≡ o.duration
  -- "The count reported is the number of times the clock moved."
  pub counts : M.count z ≡ times_moved M calls s
  -- "On the fast path it is the smaller of the steps asked and duration over report timestep, rounded up."
  pub fast : o.fast ≡ true → M.count z ≡ min (asked M calls) (whole_up o.duration o.report)
  -- "Off it no step passes a multiple of the report or pattern timestep"
  pub passes : o.fast ≡ false → Along M (λ c u. M.is_step c ≡ true → PassesNo o.report (M.instant u) (M.answer c u) × PassesNo o.pattern (M.instant u) (M.answer c u)) calls s
  -- "and the count is at most" the bound
  pub bounded : o.fast ≡ false → M.count z ≤ bound o ts (state_steps M ts calls s)
  -- "A step answers its length, the one that demand 2's definition gives on the state for the calls before"
  pub lengths : Along M (λ c u. M.is_step c ≡ true → M.answer c u ≡ length_at o ts (M.moment u) (M.instant u)) calls s
  -- "Only loads and premises can be refused there."
  pub numbers : Along M (λ c u. M.MayGive c (M.number c u)) calls s
