-- Needs no belief: the level controls of tanks, and what the arrays hold of them.
use Rattle.std.specs.Prelude.{ℕ, ◌<◌, ◌≡◌, Bool, cond, not, List, [], ◌∷◌, Option, Some, None, is_some, eqb, Float, get_or, length}
use Rattle.std.specs.Float.{nan}
use Rattle.control.specs.Controls.{Level}
use Rattle.model.specs.Loops.{all_below}
use Rattle.model.specs.declared.control.Control.{Control}
use Rattle.model.specs.declared.control.ControlCondition.{ControlCondition}
use Rattle.model.specs.declared.control.ControlCondition.TheVariants.{HighPressure, LowPressure, HighLevel, LowLevel, Time, ClockTime}
use Rattle.run_kinds.specs.Calls.{levels_in}
use Rattle.run_kinds.specs.Triggers.{triggers_in}

-- ---- one control
-- what it adds to the levels, where a tank is at its node and where none is
abbrev pub levels_at : Bool → ControlCondition → List Level
levels_at tank (HighPressure n x) = []
levels_at tank (LowPressure n x) = []
levels_at tank (HighLevel n x) = cond tank (record { tank = n; target = x } ∷ []) []
levels_at tank (LowLevel n x) = cond tank (record { tank = n; target = x } ∷ []) []
levels_at tank (Time s) = []
levels_at tank (ClockTime s) = []

-- its node and its target
abbrev pub level_of : ControlCondition → Option (ℕ × Float)
level_of (HighPressure n x) = None
level_of (LowPressure n x) = None
level_of (HighLevel n x) = Some (n, x)
level_of (LowLevel n x) = Some (n, x)
level_of (Time s) = None
level_of (ClockTime s) = None

-- ---- the nodes of the tanks
-- whether one of the first n is a node
unfoldable pub stands_at : List ℕ → ℕ → ℕ → Bool
stands_at nodes n node = not (all_below n (λ k. not (eqb (get_or nodes k 0) node)))

-- k is the number of such a one, if there is one
pub record Numbered (nodes : List ℕ) (n node : ℕ) (k : Option ℕ) : Type 0 where
  pub stands : stands_at nodes n node ≡ is_some k
  pub found : (i : ℕ) → k ≡ Some i → (i < n) × (get_or nodes i 0 ≡ node)

-- ---- the arrays
-- the levels of the first n controls whose node is that of a tank
abbrev pub levels_of : List Control → ℕ → List ℕ → ℕ → List Level
levels_of controls n nodes among = levels_in (λ l. stands_at nodes among l.tank) (triggers_in controls n)

abbrev pub no_level : Level
no_level = record { tank = 0; target = nan }

-- the first entries of two arrays are the numbers of the tanks and the targets of a list of levels
pub record LevelsHeld (xs : List Level) (nodes : List ℕ) (among : ℕ) (tanks : List ℕ) (targets : List Float) (count : ℕ) : Type 0 where
  pub many : count ≡ length xs
  pub low : (i : ℕ) → i < count → get_or tanks i 0 < among
  pub tank : (i : ℕ) → i < count → get_or nodes (get_or tanks i 0) 0 ≡ (get_or xs i no_level).tank
  pub target : (i : ℕ) → i < count → get_or targets i nan ≡ (get_or xs i no_level).target

abbrev pub LevelsLaid : List Control → ℕ → List ℕ → ℕ → List ℕ → List Float → ℕ → Type 0
LevelsLaid controls n nodes among tanks targets count = LevelsHeld (levels_of controls n nodes among) nodes among tanks targets count

-- inside the arrays that a pass reads
pub record LevelInside (tanks nodes : List ℕ) (i : ℕ) : Type 0 where
  pub tank : get_or tanks i 0 < 256
  pub node : get_or nodes (get_or tanks i 0) 0 < 256

abbrev pub LevelsInside : List ℕ → ℕ → List ℕ → Type 0
LevelsInside tanks n nodes = (i : ℕ) → i < n → LevelInside tanks nodes i
