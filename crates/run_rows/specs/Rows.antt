-- Needs no belief: a control as a row of numbers, and what the arrays of the rows hold.
use Rattle.std.specs.Prelude.{None, Option, Some}
use Rattle.std.specs.Prelude.{ℕ, ◌+◌, ◌*◌, ◌≤◌, ◌<◌, ◌≡◌, Bool, cond, List, Float, get_or}
use Rattle.std.specs.Float.{nan}
use Rattle.number.specs.Constants.{decimal}
use Rattle.control.specs.Controls.{watched}
use Rattle.control.specs.Named.{condition_target, condition_seconds}
use Rattle.model.specs.Blank.{blank_node, blank_link, blank_control}
use Rattle.model.specs.Links.{initial_flow}
use Rattle.model.specs.Nodes.{elevation, is_tank}
use Rattle.model.specs.declared.control.Control.{Control}
use Rattle.model.specs.declared.control.ControlCondition.{ControlCondition}
use Rattle.model.specs.declared.control.ControlCondition.TheVariants.{HighPressure, LowPressure, HighLevel, LowLevel, Time, ClockTime}
use Rattle.model.specs.declared.link.Link.{Link}
use Rattle.model.specs.declared.node.Node.{Node}
use Rattle.run_rows.specs.declared.rows.Row.{Row}

-- row i, read from the arrays: six words from 6 * i on, four numbers from 4 * i on
abbrev pub row_at : List ℕ → List Float → ℕ → Row
row_at words numbers i = record {
  kind = get_or words (6 * i) 0;
  node = get_or words (6 * i + 1) 0;
  link = get_or words (6 * i + 2) 0;
  seconds = get_or words (6 * i + 3) 0;
  action = get_or words (6 * i + 4) 0;
  status = get_or words (6 * i + 5) 0;
  elevation = get_or numbers (4 * i) nan;
  target = get_or numbers (4 * i + 1) nan;
  setting = get_or numbers (4 * i + 2) nan;
  flow = get_or numbers (4 * i + 3) nan;
}

-- ---- the row of a control
-- 0 for what never acts here: a pressure, or a level of no tank
abbrev pub kind_of : Bool → ControlCondition → ℕ
kind_of tank (HighPressure n x) = 0
kind_of tank (LowPressure n x) = 0
kind_of tank (HighLevel n x) = cond tank 1 0
kind_of tank (LowLevel n x) = cond tank 2 0
kind_of tank (Time s) = 3
kind_of tank (ClockTime s) = 4

-- 1 a status, 2 a setting, 0 neither: a status wins
abbrev pub action_of : Option ℕ → Option Float → ℕ
action_of (Some x) setting = 1
action_of None (Some x) = 2
action_of None None = 0

-- the status that an action sets; 0 where it sets none
abbrev pub new_status : Option ℕ → ℕ
new_status (Some x) = x
new_status None = 0

-- the setting; 0 where it sets none
abbrev pub new_setting : Option Float → Float
new_setting (Some x) = x
new_setting None = decimal 0 0

-- with the node that it watches and the link that it sets
abbrev pub row_from : Control → Node → Link → Row
row_from c n l = record {
  kind = kind_of (is_tank n) c.condition;
  node = watched c.condition;
  link = c.link;
  seconds = condition_seconds c.condition;
  action = action_of c.status c.setting;
  status = new_status c.status;
  elevation = elevation n;
  target = condition_target c.condition;
  setting = new_setting c.setting;
  flow = initial_flow l;
}

-- that of control i of a table
abbrev pub row_in : List Control → List Node → List Link → ℕ → Row
row_in controls nodes links i =
    let c = get_or controls i blank_control in
    row_from c (get_or nodes (watched c.condition) blank_node) (get_or links c.link blank_link)

-- ---- what the arrays hold
-- the first n controls of a table name nodes and links of the tables
pub record ControlsInside (controls : List Control) (n : ℕ) : Type 0 where
  pub most : n ≤ 64
  pub node : (i : ℕ) → i < n → watched (get_or controls i blank_control).condition < 256
  pub link : (i : ℕ) → i < n → (get_or controls i blank_control).link < 384

-- the rows are those of the first controls of a table, in order
pub record RowsLaid (controls : List Control) (among : ℕ) (nodes : List Node) (links : List Link) (words : List ℕ) (numbers : List Float) (n : ℕ) : Type 0 where
  pub count : n ≡ among
  pub row : (i : ℕ) → i < n → row_at words numbers i ≡ row_in controls nodes links i

-- the first n rows name nodes and links of the arrays
pub record RowsInside (words : List ℕ) (n : ℕ) : Type 0 where
  pub most : n ≤ 64
  pub node : (i : ℕ) → i < n → get_or words (6 * i + 1) 0 < 256
  pub link : (i : ℕ) → i < n → get_or words (6 * i + 2) 0 < 384
