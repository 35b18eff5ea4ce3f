-- Needs no belief: the passes of `apply_patterns` over lists of numbers. `apply-patterns-is` shows that they come to `apply_patterns`.
use Rattle.std.specs.Prelude.{ℕ, ◌*◌, List, Float, get_or, set, take, drop}
use Rattle.std.specs.Float.{nan}
use Rattle.number.specs.Constants.{decimal}
use Rattle.number.specs.Operators.{◌·◌, ◌⊕◌}
use Rattle.model.specs.Loops.{through}
use Rattle.pattern_view.specs.View.{multiplier_in_force}
use Rattle.run_sources.specs.Sources.{base_at, place_at}

-- ---- the multipliers of an instant: pattern k's at k, and 1 at 32, for none
abbrev pub multiplier_put : List ℕ → List Float → ℕ → ℕ → ℕ → ℕ → List Float → List Float
multiplier_put lengths multipliers start timestep time k table =
    set table k (multiplier_in_force (take (get_or lengths k 0) (drop (k * 168) multipliers)) start timestep time)

unfoldable pub multipliers_filled : List ℕ → List Float → ℕ → ℕ → ℕ → List Float → List Float
multipliers_filled lengths multipliers start timestep time table = set (through 32 (multiplier_put lengths multipliers start timestep time) table) 32 (decimal 1 0)

-- ---- demands: those of a node, added to 0 in order
abbrev pub demand_added : List Float → List ℕ → List Float → Float → ℕ → ℕ → Float → Float
demand_added bases places table scale i j sum = sum ⊕ base_at bases i j · get_or table (place_at places i j) nan · scale

unfoldable pub demand_sum : List Float → List ℕ → List Float → Float → ℕ → ℕ → Float
demand_sum bases places table scale i count = through count (demand_added bases places table scale i) (decimal 0 0)

-- and of every node
abbrev pub demand_put : List ℕ → List Float → List ℕ → List Float → Float → ℕ → List Float → List Float
demand_put counts bases places table scale i demands = set demands i (demand_sum bases places table scale i (get_or counts i 0))

unfoldable pub demands_filled : List ℕ → List Float → List ℕ → List Float → Float → ℕ → List Float → List Float
demands_filled counts bases places table scale n demands = through n (demand_put counts bases places table scale) demands

-- ---- heads: reservoir r of those with a pattern
abbrev pub head_put : List ℕ → List Float → List ℕ → List Float → ℕ → List Float → List Float
head_put nodes elevations patterns table r heads = set heads (get_or nodes r 0) (get_or elevations r nan · get_or table (get_or patterns r 0) nan)

unfoldable pub heads_filled : List ℕ → List Float → List ℕ → List Float → ℕ → List Float → List Float
heads_filled nodes elevations patterns table n heads = through n (head_put nodes elevations patterns table) heads

-- ---- demand flows
abbrev pub demand_copied : List Float → ℕ → List Float → List Float
demand_copied demands i flows = set flows i (get_or demands i nan)

unfoldable pub demands_copied : List Float → ℕ → List Float → List Float
demands_copied demands n flows = through n (demand_copied demands) flows
