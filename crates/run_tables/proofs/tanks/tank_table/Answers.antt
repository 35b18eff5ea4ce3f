-- `run_tables::tanks::tank_table` meets its contract. The invariant: the numbers of the tanks passed are stored. Assumes nothing.
use native.Mathlib.Omega.{arith}
use borrow.Author.Rules.{rules}
use mathlib.Core.Path.{◌∙◌}
use Rattle.run_tables.proofs.Pushing.{byte}
use Rattle.run_tables.proofs.TankRows.{pushed_at, tanks_none, tanks_put}
use Rattle.run_tables.proofs.tanks.tank_table.Goals as goal

pub loop-k-init : goal.loop-k-init
loop-k-init c = tanks_none (search rules) (search rules)

pub tank_of-tank-requires : goal.tank_of-tank-requires
tank_of-tank-requires c = (pushed_at c.tank_nodes-at.ensures c.loop-k.k c.loop-k-test.true).holds

pub loop-k-preserved : goal.loop-k-preserved
loop-k-preserved c = tanks_put c.loop-k.invariant c.loop-k-test.true c.tank_nodes-at.result.inside.most c.tank_of-tank.ensures c.put_tank.ensures (c.from.ensures ∙ byte _)

pub returns : goal.returns
returns c = record { count = c.tank_nodes-at.ensures.many; node = c.tank_nodes-at.ensures.each; tank = λ k l. c.loop-k.invariant.each k (omega (arith, c.loop-k-test.false)) }
