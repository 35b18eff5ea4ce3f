-- The indices that a control and a link hold are within the tables. Assumes nothing.
use Prim.Native.Nat.{ℕ, ◌≤◌, ◌<◌}
use native.Mathlib.Omega.{arith}
use Rattle.control.specs.Controls.{watched}
use Rattle.model.specs.Blank.{link_at, control_at}
use Rattle.model.specs.declared.control.ControlCondition.{ControlCondition}
use Rattle.model.specs.declared.control.ControlCondition.TheVariants.{HighPressure, LowPressure, HighLevel, LowLevel, Time, ClockTime}
use Rattle.model.specs.declared.project.Project.{Project}
use Rattle.run_rows.specs.Rows.{ControlsInside}
use Rattle.tables.specs.Fit.{TablesFit, ConditionFit}

watched_below : (nodes : ℕ) (c : ControlCondition) → nodes ≤ 256 → ConditionFit nodes c → watched c < 256
watched_below nodes (HighPressure n x) l h = omega arith
watched_below nodes (LowPressure n x) l h = omega arith
watched_below nodes (HighLevel n x) l h = omega arith
watched_below nodes (LowLevel n x) l h = omega arith
watched_below nodes (Time s) l h = omega arith
watched_below nodes (ClockTime s) l h = omega arith

module _ {p : Project} (t : TablesFit p) (i : ℕ) where
  pub watched_inside : i < p.counts.controls → watched (control_at p i).condition < 256
  watched_inside l = watched_below p.counts.nodes (control_at p i).condition t.few.nodes (t.control i l).condition

  pub controlled_inside : i < p.counts.controls → (control_at p i).link < 384
  controlled_inside l = omega (arith, t.few.links, (t.control i l).link)

  pub start_inside : i < p.counts.links → (link_at p i).start < 256
  start_inside l = omega (arith, t.few.nodes, (t.link i l).start)

  pub end_inside : i < p.counts.links → (link_at p i).end < 256
  end_inside l = omega (arith, t.few.nodes, (t.link i l).end)

pub controls_inside : {p : Project} → TablesFit p → ControlsInside p.controls p.counts.controls
controls_inside t = record { most = t.few.controls; node = watched_inside t; link = controlled_inside t }
