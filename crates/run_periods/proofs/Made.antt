-- What the calls of the passes leave, one after the other, is what the patterns write. Assumes nothing.
use Prim.Native.Nat.{ℕ}
use mathlib.Core.Path.{◌≡◌}
use mathlib.Core.Bool.{Bool, true, false, cond}
use mathlib.Core.List.{List}
use borrow.Author.Tests.{eq-eqb, ne_eqb}
use lib.Ieee.{Float}
use Rattle.model.specs.Loops.{through}
use Rattle.model.specs.Patterns.{period}
use Rattle.run_tanks.specs.Emptying.{tanks_emptied}
use Rattle.run_periods.specs.Applying.{Written, Inputs, filled, patterns_applied}
use Rattle.run_patterns.specs.Filling.{multipliers_filled, demands_filled, heads_filled, demands_copied}

-- as many are copied as there are nodes, or none
pub copied : {pda : Bool} {new : List Float} (n : ℕ) (demands flows : List Float) → pda ≡ true → new ≡ demands_copied demands n flows → new ≡ demands_copied demands (cond pda n 0) flows
copied n demands flows e h = rw e h

pub uncopied : {pda : Bool} (n : ℕ) (demands flows : List Float) → pda ≡ false → flows ≡ demands_copied demands (cond pda n 0) flows
unfolding demands_copied through
uncopied n demands flows e = rw e

module _ (t : Inputs) (time : ℕ) (w : Written) where
  pub filled_made : {table heads demands flows : List Float}
      → table ≡ multipliers_filled t.lengths t.multipliers t.start t.timestep time w.table
      → demands ≡ demands_filled t.counts t.bases t.places table t.scale t.n w.demands
      → heads ≡ heads_filled t.reservoirs t.elevations t.patterns table t.patterned w.heads
      → flows ≡ demands_copied demands (cond t.pda t.n 0) w.flows
      → filled t time w ≡ record { table = table; heads = heads; demands = demands; flows = flows }
  unfolding filled
  filled_made m d h f = rw (f, h, d, m)

  module _ (tanks : List ℕ) (tank-count in-force : ℕ) where
    pub again_made : {now : ℕ} {demands : List Float} → now ≡ period t.start t.timestep time → now ≡ in-force → demands ≡ tanks_emptied tanks tank-count w.demands
        → patterns_applied t tanks tank-count in-force time w ≡ record { table = w.table; heads = w.heads; demands = demands; flows = w.flows }
    unfolding patterns_applied
    again_made {now} q e d = rw (← q, eq-eqb now in-force e, d)

    pub anew_made : {now : ℕ} {u : Written} → now ≡ period t.start t.timestep time → (now ≡ in-force → ⊥) → filled t time w ≡ u
        → patterns_applied t tanks tank-count in-force time w ≡ u
    unfolding patterns_applied
    anew_made {now} q ne f = rw (← q, ne_eqb now in-force ne) f
