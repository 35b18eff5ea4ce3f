-- Needs no belief: what the tables of a run hold, as a reading of them gives it, against the project that they are laid out from.
use Rattle.std.specs.Prelude.{ℕ, ◌≡◌, true, List}
use Rattle.model.specs.declared.control.Control.{Control}
use Rattle.model.specs.declared.link.Link.{Link}
use Rattle.model.specs.declared.node.Node.{Node}
use Rattle.model.specs.declared.options.Options.{Options}
use Rattle.model.specs.declared.project.Counts.{Counts}
use Rattle.model.specs.declared.project.Project.{Project}
use Rattle.tables.specs.Fit.{TablesFit}
use Rattle.tables.specs.Tables.{Few}
use Rattle.simulation.specs.Steps.{times_of}
use Rattle.run_tables.specs.Held.{TanksLaid}
use Rattle.run_rows.specs.Rows.{ControlsInside, RowsLaid}
use Rattle.run_kinds.specs.Calls as calls
use Rattle.run_kinds.specs.Levels.{LevelsLaid, LevelsInside}
use Rattle.run_kinds.specs.Triggers.{triggers_in}
use Rattle.run_sources.specs.Laid.{PatternsLaid}
use Rattle.run_closing.specs.Closing.{GroupsInside}
use Rattle.run_load_tables.specs.Laid.{LoadLaid}
use Rattle.tank_links.specs.Groups.{is_laid_out}
use Rattle.tank_links.specs.Laid.{EndsInside}
use Rattle.driver_tables.specs.declared.Tables.{Tables}

-- what laying out asks of a project
pub record PartsInside (c : Counts) (links : List Link) (controls : List Control) : Type 0 where
  pub few : Few c
  pub ends : EndsInside links c.links
  pub controls_inside : ControlsInside controls c.controls

-- the parts are those of a project
pub record From (p : Project) (o : Options) (c : Counts) (lengths : List ℕ) (nodes : List Node) (links : List Link) (controls : List Control) : Type 0 where
  pub options : p.options ≡ o
  pub counts : p.counts ≡ c
  pub lengths_are : p.lengths ≡ lengths
  pub nodes_are : p.nodes ≡ nodes
  pub links_are : p.links ≡ links
  pub controls_are : p.controls ≡ controls

-- the tables are a project's
pub record Laid (p : Project) (t : Tables) : Type 0 where
  pub options : t.options ≡ p.options
  pub times : t.times ≡ times_of p
  pub tanks : TanksLaid p.nodes p.counts.nodes t.tanks.at.nodes t.tanks.numbers t.tanks.overflows t.tanks.at.count
  pub groups : is_laid_out p t.groups.begins t.groups.middles t.groups.links ≡ true
  pub controls : RowsLaid p.controls p.counts.controls p.nodes p.links t.controls.words t.controls.numbers t.controls.count
  pub time_calls : calls.Laid t.calls.times.seconds t.calls.times.count (calls.times_in (triggers_in p.controls p.counts.controls))
  pub clock_calls : calls.Laid t.calls.clocks.seconds t.calls.clocks.count (calls.clocks_in (triggers_in p.controls p.counts.controls))
  pub levels : LevelsLaid p.controls p.counts.controls t.tanks.at.nodes t.tanks.at.count t.calls.levels.tanks t.calls.levels.targets t.calls.levels.count
  pub patterns : PatternsLaid p.options p.lengths p.nodes p.counts.nodes t.patterns
  pub load : LoadLaid p.nodes p.counts.nodes p.links p.counts.links t.load

-- of every project that has these parts
abbrev pub LaidFrom : Options → Counts → List ℕ → List Node → List Link → List Control → Tables → Type 0
LaidFrom o c lengths nodes links controls t = (p : Project) → From p o c lengths nodes links controls → TablesFit p → Laid p t

-- ---- what a step asks of the tables: the indices that it takes from them are inside
pub record TablesInside (t : Tables) : Type 0 where
  pub groups : GroupsInside t.groups.begins t.groups.middles t.groups.links t.tanks.at.count
  pub levels : LevelsInside t.calls.levels.tanks t.calls.levels.count t.tanks.at.nodes
