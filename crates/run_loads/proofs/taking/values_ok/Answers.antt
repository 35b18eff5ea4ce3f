-- `run_loads::taking::values_ok` meets its contract. Each number of the range is judged. Assumes nothing.
use lib.Ieee.{of_bits}
use mathlib.Core.Path.{◌∙◌}
use Rattle.std.proofs.Common.{arith, rules, tests}
use Rattle.std.proofs.lemmas.Iterator.{YieldsList-from_range}
use Rattle.std.proofs.lemmas.Iterator.Search.{all_from_yields_List}
use Rattle.number.specs.Constants.{decimal}
use Rattle.run_loads.specs.Values.{value_ok, values_ok}
use Rattle.run_loads.proofs.Below.{below}
use Rattle.run_loads.proofs.taking.values_ok.Goals as goal

pub returns : goal.returns
unfolding values_ok decimal of_bits
returns c =
    let n = c.args.count in
    all_from_yields_List (value_ok c.args.words.now) _ _ c.all.result c.all.ensures.ran (YieldsList-from_range 0 n n (cc) (omega arith)) (λ x b q k. search (rules, tests))
    ∙ below n (value_ok c.args.words.now)
