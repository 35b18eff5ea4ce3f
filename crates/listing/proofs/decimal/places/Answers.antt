-- `listing::decimal::places` meets its contract: the digits left to take off are counted. Assumes nothing.
use mathlib.Core.Path.{◌≡◌, refl, ap}
use mathlib.Core.List.{[]}
use native.Mathlib.Omega.{arith}
use borrow.Author.Rules.{rules}
use lib.ListN.{length}
use Rattle.listing.proofs.Digits.{split_begun, split_more, split_ended}
use Rattle.listing.proofs.decimal.places.Goals as goal

pub loop-rest-init : goal.loop-rest-init
loop-rest-init c = record { tail = []; split = split_begun (search rules); count = refl }

pub loop-rest-preserved : goal.loop-rest-preserved
loop-rest-preserved c =
    let v = c.loop-rest.invariant in
    record { tail = _; split = split_more c.loop-rest-test.true v.split; count = omega (arith, v.count) }

pub returns-clause-value : goal.returns-clause-value
returns-clause-value c =
    let v = c.loop-rest.invariant in
    let e : _ ≡ _ = ap length (split_ended c.loop-rest-test.false v.split) in
    omega (arith, v.count, e)
