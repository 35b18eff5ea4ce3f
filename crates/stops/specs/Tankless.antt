-- Needs no belief: what the theorems of the walk (proofs/Walk.antt) and of the stops (proofs/Exact.antt) ask of the times, of a moment and of a
-- machine, and which the prover sees met where the second clock serves and where the stops are foreseen (second_clock/proofs, stops_ahead/proofs,
-- demand3/proofs).
use Rattle.std.specs.Prelude.{◌≤◌, ◌<◌, ◌≡◌, false, List, ◌⊎◌}
use Rattle.number.specs.Constants.{MAX}
use Rattle.clock.specs.Lawful.{Each}
use Rattle.clock.specs.Machine.{Machine}
use Rattle.clock.specs.Steps.{DAY}
use Rattle.clock.specs.Triggers.{Trigger, at_time, at_clock, at_level, untimed, Moment}
use Rattle.clock.specs.declared.length.Times.{Times}

-- "without tanks": neither they nor a level control give a time
abbrev pub NoLevelTime : {L : Type 0} → Moment L → Trigger L → Type 0
NoLevelTime m (at_time s) = Unit {0}
NoLevelTime m (at_clock s) = Unit {0}
NoLevelTime m (at_level l) = m.level l ≡ MAX
NoLevelTime m untimed = Unit {0}

pub record NoTankTime {L : Type 0} (ts : List (Trigger L)) (m : Moment L) : Type 0 where
  pub tank : m.tank ≡ MAX
  pub level : Each (NoLevelTime m) ts

-- R-10: "with at least one of its report, pattern and hydraulic timesteps at most a day"; the hydraulic one is that in force, so it is not 0
pub record Daily (o : Times) : Type 0 where
  pub hydraulic : 0 < o.hydraulic
  pub one : (o.report ≤ DAY) ⊎ (o.pattern ≤ DAY) ⊎ (o.hydraulic ≤ DAY)

-- R-14: "Where the hydraulic timestep in force is at least the report or the pattern timestep, the report or the pattern timestep is at most 86,400, ..
-- and the fast path is off"
pub record Frequent (o : Times) : Type 0 where
  pub slow : o.fast ≡ false
  pub hydraulic : (o.report ≤ o.hydraulic) ⊎ (o.pattern ≤ o.hydraulic)
  pub day : (o.report ≤ DAY) ⊎ (o.pattern ≤ DAY)

-- "there are no tanks", of a machine
pub record Foreseen {L : Type 0} (M : Machine L) (o : Times) (ts : List (Trigger L)) : Type 0 where
  pub times : Frequent o
  pub tankless : (s : M.State) → M.Sound s → NoTankTime ts (M.moment s)
