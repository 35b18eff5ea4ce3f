-- Document 01, module 7: `apply_patterns`.
use Rattle.std.specs.Prelude.{None, Option, Some}
use Rattle.std.specs.Prelude.{ℕ, cond, ltb, Float}
use Rattle.number.specs.Constants.{decimal}
use Rattle.model.specs.Blank.{node_at, node_state_at, with_node}
use Rattle.model.specs.Loops.{through}
use Rattle.model.specs.Patterns.{period, multiplier_at, pattern_at}
use Rattle.model.specs.declared.project.Project.{Project}
use Rattle.model.specs.declared.state.State.{State}
use Rattle.state_patterns.specs.Patterns.{patterned}

-- the multiplier of a pattern at a period; 1 where none is named, or one past the table, which no accepted project does
unfoldable pub multiplier_of : Project → ℕ → Option ℕ → Float
multiplier_of p t None = decimal 1 0
multiplier_of p t (Some k) = cond (ltb k 32) (multiplier_at (pattern_at p k) t) (decimal 1 0)

abbrev pub node_patterned : Project → (Option ℕ → Float) → ℕ → State → State
node_patterned p m i s = with_node s i (patterned m p.options (node_at p i) (node_state_at s i))

unfoldable pub apply_patterns : Project → State → State
apply_patterns p s =
    let o = p.options in
    through p.counts.nodes (node_patterned p (multiplier_of p (period o.pattern_start o.pattern s.clock.instant))) s
