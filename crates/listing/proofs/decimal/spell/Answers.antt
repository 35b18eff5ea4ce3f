-- `listing::decimal::spell` meets its contract: the digits are written from the last to the first. Assumes nothing.
use native.Mathlib.Omega.{arith}
use borrow.Author.Rules.{rules}
use Rattle.listing.proofs.Digits.{spelled_begun, spelled_more, spelled_ended, spelled_last}
use Rattle.listing.proofs.decimal.spell.Goals as goal

pub loop-rest-init : goal.loop-rest-init
loop-rest-init c = spelled_begun (search rules)

-- a digit that is left has a place
pub overflow_sub-i : goal.overflow_sub-i
overflow_sub-i c = omega (arith, spelled_last c.requires.k_value c.loop-rest.invariant)

pub bounds-buf-i : goal.bounds-buf-i
bounds-buf-i c = let v = c.loop-rest.invariant in omega (arith, v.written.place, spelled_last c.requires.k_value v)

pub loop-rest-preserved : goal.loop-rest-preserved
loop-rest-preserved c =
    spelled_more c.requires.k_value c.requires.k_in_bounds c.loop-rest-test.true c.loop-rest.invariant

pub bounds-buf-at : goal.bounds-buf-at
bounds-buf-at c = let v = c.loop-rest.invariant in omega (arith, v.written.place, spelled_last c.requires.k_value v)

pub returns-clause-buf_after : goal.returns-clause-buf_after
returns-clause-buf_after c = spelled_ended c.requires.k_value c.requires.k_in_bounds c.loop-rest-test.false c.loop-rest.invariant
