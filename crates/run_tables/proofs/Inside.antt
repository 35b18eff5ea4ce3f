-- The nodes of the tanks are inside, and no two the same. Assumes nothing.
use Prim.Native.Nat.{ℕ, ◌≤◌}
use mathlib.Core.Bool.{Bool}
use mathlib.Core.List.{List}
use native.Mathlib.Omega.{arith}
use lib.Ieee.{Float}
use Rattle.model.specs.declared.node.Node.{Node}
use Rattle.run_tables.specs.Held.{Pushed, TanksInside, Distinct, TanksLaid}
use Rattle.run_tables.specs.Tanks.{tank_in}
use Rattle.run_tables.proofs.Listed.{chosen_rising, chosen_few}
use Rattle.run_tables.proofs.TankRows.{pushed_at}

pub inside : {test : ℕ → Bool} {n : ℕ} {nodes : List ℕ} {count : ℕ} → Pushed test n nodes count → n ≤ 256 → TanksInside nodes count
inside h few = record { most = omega (arith, h.few); node = λ k l. let a = (pushed_at h k l).low in omega arith }

pub distinct : {test : ℕ → Bool} {n : ℕ} {nodes : List ℕ} {count : ℕ} → Pushed test n nodes count → Distinct nodes count
distinct {test} {n} h k l j m q =
    let a = h.each j (omega arith) in
    let b = h.each k l in
    let c = chosen_rising test n j k m (omega (arith, h.many)) in
    omega (arith, a, b, c, q)

-- of the table of the tanks
pub laid_pushed : {table : List Node} {among : ℕ} {nodes : List ℕ} {numbers : List Float} {overflows : List ℕ} {n : ℕ}
    → TanksLaid table among nodes numbers overflows n → Pushed (tank_in table) among nodes n
laid_pushed {table} {among} laid = record { many = laid.count; few = omega (arith, laid.count, chosen_few (tank_in table) among); each = laid.node }

module _ {table : List Node} {among : ℕ} {nodes : List ℕ} {numbers : List Float} {overflows : List ℕ} {n : ℕ} (laid : TanksLaid table among nodes numbers overflows n) where
  pub tanks_inside : among ≤ 256 → TanksInside nodes n
  tanks_inside few = inside (laid_pushed laid) few

  pub tanks_distinct : Distinct nodes n
  tanks_distinct = distinct (laid_pushed laid)
