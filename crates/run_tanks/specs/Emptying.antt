-- Needs no belief: the tanks' demands set to 0, over lists of numbers. `empty-tanks-is` shows that it comes to `empty_tanks`.
use Rattle.std.specs.Prelude.{ℕ, List, Float, get_or, set}
use Rattle.number.specs.Constants.{decimal}
use Rattle.model.specs.Loops.{through}

abbrev pub tank_emptied : List ℕ → ℕ → List Float → List Float
tank_emptied nodes k demands = set demands (get_or nodes k 0) (decimal 0 0)

unfoldable pub tanks_emptied : List ℕ → ℕ → List Float → List Float
tanks_emptied nodes n demands = through n (tank_emptied nodes) demands
