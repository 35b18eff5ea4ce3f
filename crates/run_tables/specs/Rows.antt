-- Needs no belief: the rows of a run's tables, as the arrays hold them.
use Rattle.std.specs.Prelude.{ℕ, ◌+◌, ◌*◌, not, List, eqb, Float, get_or}
use Rattle.std.specs.Float.{nan}
use Rattle.tank.specs.declared.tank.Tank.{Tank}

abbrev pub tank_at : List Float → List ℕ → ℕ → Tank
tank_at numbers overflows k = record {
  elevation = record { 0 = get_or numbers (5 * k) nan };
  initial_level = record { 0 = get_or numbers (5 * k + 1) nan };
  min_level = record { 0 = get_or numbers (5 * k + 2) nan };
  max_level = record { 0 = get_or numbers (5 * k + 3) nan };
  diameter = record { 0 = get_or numbers (5 * k + 4) nan };
  overflow = not (eqb (get_or overflows k 0) 0);
}
