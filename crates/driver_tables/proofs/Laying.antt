-- The tables that are laid out from the parts of a project are the project's, and every other's that has these parts. Assumes nothing.
use Prim.Native.Nat.{ℕ, zero, suc}
use mathlib.Core.Path.{◌≡◌, refl, sym, ap, ◌∙◌}
use mathlib.Core.Bool.{Bool, true, false, cond, not, ◌&&◌, and-true, and-false}
use mathlib.Core.List.{List, [], ◌∷◌, ◌++◌}
use native.Mathlib.Omega.{arith}
use borrow.Author.Tests.{ne_eqb}
use lib.Dec.{eqb}
use lib.ListN.{length, length-append, replicate}
use lib.Seq.{sets}
use Rattle.clock.specs.declared.length.Times.{Times}
use Rattle.model.specs.Loops.{all_below}
use Rattle.model.specs.declared.control.Control.{Control}
use Rattle.model.specs.declared.link.Link.{Link}
use Rattle.model.specs.declared.node.Node.{Node}
use Rattle.model.specs.declared.options.Options.{Options}
use Rattle.model.specs.declared.project.Counts.{Counts}
use Rattle.model.specs.declared.project.Project.{Project}
use Rattle.simulation.specs.Steps.{no_tanks, on_fast_path, hydraulic_in_force, times_of}
use Rattle.tables.specs.Fit.{TablesFit}
use Rattle.solver.proofs.ByTable.{laid_is}
use Rattle.run_tables.specs.Chosen.{chosen}
use Rattle.run_tables.specs.Held.{TanksLaid}
use Rattle.run_tables.specs.declared.tanks.TankTable.{TankTable}
use Rattle.run_rows.specs.Rows.{RowsLaid}
use Rattle.run_rows.specs.declared.rows.ControlTable.{ControlTable}
use Rattle.run_kinds.specs.Calls as calls
use Rattle.run_kinds.specs.Levels.{LevelsLaid}
use Rattle.run_kinds.specs.Triggers.{triggers_in}
use Rattle.run_kinds.specs.declared.calls.Calls.{Calls}
use Rattle.run_sources.specs.Laid.{PatternsLaid}
use Rattle.run_sources.specs.declared.PatternTables.{PatternTables}
use Rattle.run_load_tables.specs.Laid.{LoadLaid}
use Rattle.run_loads.specs.declared.table.LoadTable.{LoadTable}
use Rattle.tank_links.specs.Groups.{joined, listed}
use Rattle.tank_links.specs.Laid.{group_in, begin_in, middle_in}
use Rattle.tank_links.specs.declared.laid.LinkGroups.{LinkGroups}
use Rattle.driver_tables.specs.Laid.{From, Laid, LaidFrom}
use Rattle.driver_tables.specs.declared.Tables.{Tables}

-- where no test holds, none is chosen
none_chosen : (test : ℕ → Bool) (n : ℕ) → all_below n (λ i. not (test i)) ≡ eqb (length (chosen test n)) 0
unfolding all_below chosen
none_chosen test zero = refl
none_chosen test (suc n) = by (test n) (none_chosen test n)
  where
    by : (b : Bool) → all_below n (λ i. not (test i)) ≡ eqb (length (chosen test n)) 0
        → (all_below n (λ i. not (test i)) && not b) ≡ eqb (length (cond b (chosen test n ++ (n ∷ [])) (chosen test n))) 0
    by true e = and-false (all_below n (λ i. not (test i))) ∙ sym (ne_eqb (length (chosen test n ++ (n ∷ []))) 0 (λ z. omega (arith, z, length-append (chosen test n) (n ∷ []))))
    by false e = and-true (all_below n (λ i. not (test i))) ∙ e

module _ (p : Project) (tanks : TankTable) (laid : TanksLaid p.nodes p.counts.nodes tanks.at.nodes tanks.numbers tanks.overflows tanks.at.count) where
  no_tanks_lem : no_tanks p ≡ eqb tanks.at.count 0
  unfolding no_tanks
  no_tanks_lem = none_chosen _ p.counts.nodes ∙ ap (λ (k : ℕ). eqb k 0) (sym laid.count)

  fast_there : {fast : Bool} → fast ≡ (p.options.skip && eqb p.counts.controls 0 && eqb tanks.at.count 0) → fast ≡ on_fast_path p
  unfolding on_fast_path
  fast_there quick = quick ∙ ap (λ (x : Bool). p.options.skip && eqb p.counts.controls 0 && x) (sym no_tanks_lem)

  pub times_there : {fast : Bool} {times : Times} → fast ≡ (p.options.skip && eqb p.counts.controls 0 && eqb tanks.at.count 0)
      → times ≡ record { duration = p.options.duration; hydraulic = hydraulic_in_force p.options.hydraulic; report = p.options.report; pattern = p.options.pattern; start_clock = p.options.start_clock; fast = fast }
      → times ≡ times_of p
  unfolding times_of
  times_there quick stepping =
      stepping
      ∙ ap (λ (x : Bool). record { duration = p.options.duration; hydraulic = hydraulic_in_force p.options.hydraulic; report = p.options.report; pattern = p.options.pattern; start_clock = p.options.start_clock; fast = x }) (fast_there quick)

-- of every project with the parts that tables are laid out from
module _ {o : Options} {c : Counts} {lengths : List ℕ} {nodes : List Node} {links : List Link} {controls : List Control}
    (tanks : TankTable) (rows : ControlTable) (waits : Calls) {times : Times} {groups : LinkGroups} {patterns : PatternTables} {load : LoadTable} {fast : Bool}
    (quick : fast ≡ (o.skip && eqb c.controls 0 && eqb tanks.at.count 0))
    (stepping : times ≡ record { duration = o.duration; hydraulic = hydraulic_in_force o.hydraulic; report = o.report; pattern = o.pattern; start_clock = o.start_clock; fast = fast })
    (t : TanksLaid nodes c.nodes tanks.at.nodes tanks.numbers tanks.overflows tanks.at.count)
    (begins : groups.begins ≡ sets (replicate 257 0) 0 (listed (begin_in links c.links tanks.at.nodes) (suc tanks.at.count)))
    (middles : groups.middles ≡ sets (replicate 256 0) 0 (listed (middle_in links c.links tanks.at.nodes) tanks.at.count))
    (entries : groups.links ≡ sets (replicate 768 0) 0 (joined (group_in links c.links tanks.at.nodes) tanks.at.count))
    (r : RowsLaid controls c.controls nodes links rows.words rows.numbers rows.count)
    (at : calls.Laid waits.times.seconds waits.times.count (calls.times_in (triggers_in controls c.controls)))
    (of-day : calls.Laid waits.clocks.seconds waits.clocks.count (calls.clocks_in (triggers_in controls c.controls)))
    (l : LevelsLaid controls c.controls tanks.at.nodes tanks.at.count waits.levels.tanks waits.levels.targets waits.levels.count)
    (s : PatternsLaid o lengths nodes c.nodes patterns)
    (n : LoadLaid nodes c.nodes links c.links load) where
  tanks_there : {p : Project} → From p o c lengths nodes links controls → TanksLaid p.nodes p.counts.nodes tanks.at.nodes tanks.numbers tanks.overflows tanks.at.count
  tanks_there from = rw (from.nodes_are, from.counts) t

  pub laid_all : LaidFrom o c lengths nodes links controls (record {
    options = o;
    times = times;
    tanks = tanks;
    groups = groups;
    controls = rows;
    calls = waits;
    patterns = patterns;
    load = load;
  })
  laid_all p from fit = record {
    options = sym from.options;
    times = times_there p tanks (tanks_there from) {fast = fast} (rw (from.options, from.counts) quick) (rw from.options stepping);
    tanks = tanks_there from;
    groups = laid_is fit (tanks_there from) _ _ _ refl refl refl (rw (from.links_are, from.counts) begins) (rw (from.links_are, from.counts) middles) (rw (from.links_are, from.counts) entries);
    controls = rw (from.controls_are, from.counts, from.nodes_are, from.links_are) r;
    time_calls = rw (from.controls_are, from.counts) at;
    clock_calls = rw (from.controls_are, from.counts) of-day;
    levels = rw (from.controls_are, from.counts) l;
    patterns = rw (from.options, from.lengths_are, from.nodes_are, from.counts) s;
    load = rw (from.nodes_are, from.links_are, from.counts) n;
  }

-- and so the project's own
pub laid_own : {p : Project} {t : Tables} → LaidFrom p.options p.counts p.lengths p.nodes p.links p.controls t → TablesFit p → Laid p t
laid_own {p} every fit = every p (record { options = refl; counts = refl; lengths_are = refl; nodes_are = refl; links_are = refl; controls_are = refl }) fit
