-- Document 01, module 2: `pattern.rs`.
use Rattle.std.specs.Prelude.{ℕ, ◌+◌, ◌*◌, ◌/◌, ◌%◌, cond, List, eqb, Float, length, get_or, take, drop}
use Rattle.std.specs.Float.{nan}
use Rattle.number.specs.Constants.{decimal}
use Rattle.model.specs.declared.project.Project.{Project}

-- "Period = (pattern_start + time) / pattern_timestep"; a timestep of 0, which no accepted project has, gives 0
abbrev pub period : ℕ → ℕ → ℕ → ℕ
period start timestep time = (start + time) / timestep

-- "multiplier = the one at period modulo length"; an empty pattern, which no accepted project has, gives 1
unfoldable pub multiplier_at : List Float → ℕ → Float
multiplier_at ms p = cond (eqb (length ms) 0) (decimal 1 0) (get_or ms (p % length ms) nan)

-- a project's pattern k
unfoldable pub pattern_at : Project → ℕ → List Float
pattern_at p k = take (get_or p.lengths k 0) (drop (k * 168) p.multipliers)
