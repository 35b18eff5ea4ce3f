-- `image_pattern::multipliers_ok` meets its contract. Each number of the range is judged. Assumes nothing.
use Prim.Native.Nat.{◌/◌}
use mathlib.Core.Path.{◌∙◌}
use lib.ListN.{length}
use Rattle.std.proofs.Common.{arith, rules, tests}
use Rattle.std.proofs.lemmas.Iterator.{YieldsList-from_range}
use Rattle.std.proofs.lemmas.Iterator.Search.{all_from_yields_List}
use Rattle.image_pattern.specs.Entries.{multiplier_ok, multipliers_ok}
use Rattle.image_pattern.proofs.Below.{below}
use Rattle.image_pattern.proofs.multipliers_ok.Goals as goal

pub returns : goal.returns
unfolding multipliers_ok
returns c =
    let n = length c.args.p.now / 2 in
    all_from_yields_List (multiplier_ok c.args.p.now) _ _ c.all.result c.all.ensures.ran (YieldsList-from_range 0 n n (cc) (omega arith)) (λ x b q k. search (rules, tests))
    ∙ below n (multiplier_ok c.args.p.now)
