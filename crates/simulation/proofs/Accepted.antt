-- The times and the controls of tables that fit are what the clock's theorems ask for. Assumes nothing.
use Prim.Native.Nat.{ℕ, zero, suc, ◌<◌}
use mathlib.Core.List.{List, [], ◌∷◌, ◌++◌}
use native.Mathlib.Omega.{arith}
use Rattle.clock.specs.Lawful.{Accepted, ClockInDay, Each}
use Rattle.model.specs.Blank.{control_at}
use Rattle.model.specs.declared.control.ControlCondition.{ControlCondition}
use Rattle.model.specs.declared.control.ControlCondition.TheVariants.{HighPressure, LowPressure, HighLevel, LowLevel, Time, ClockTime}
use Rattle.model.specs.declared.project.Project.{Project}
use Rattle.tables.specs.Fit.{ConditionFit, TablesFit}
use Rattle.simulation.specs.Steps.{listed, times_of, trigger_of, trigger_at, triggers_of}

-- ---- what holds of each of a list
each_last : {A : Type 0} (P : A → Type 0) (xs : List A) (x : A) → Each P xs → P x → Each P (xs ++ (x ∷ []))
each_last P [] x e q = (q, tt)
each_last P (y ∷ xs) x (a, e) q = (a, each_last P xs x e q)

pub each_listed : {A : Type 0} (P : A → Type 0) (f : ℕ → A) (n : ℕ) → ((i : ℕ) → i < n → P (f i)) → Each P (listed n f)
unfolding listed
each_listed P f zero h = tt
each_listed P f (suc n) h = each_last P (listed n f) (f n) (each_listed P f n (λ i l. h i (omega arith))) (h n (omega arith))

clock_in_day : (nodes : ℕ) (c : ControlCondition) → ConditionFit nodes c → ClockInDay (trigger_of c)
clock_in_day nodes (HighPressure n x) f = tt
clock_in_day nodes (LowPressure n x) f = tt
clock_in_day nodes (HighLevel n x) f = tt
clock_in_day nodes (LowLevel n x) f = tt
clock_in_day nodes (Time seconds) f = tt
clock_in_day nodes (ClockTime seconds) f = f

pub accepted_times : (p : Project) → TablesFit p → Accepted (times_of p) (triggers_of p)
unfolding times_of triggers_of
accepted_times p t = record {
  report = t.options.report;
  pattern = t.options.pattern;
  duration = let d = t.options.duration in omega arith;
  clocks = each_listed ClockInDay (trigger_at p) p.counts.controls (λ i l. clock_in_day _ (control_at p i).condition (t.control i l).condition);
}
