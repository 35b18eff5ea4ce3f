-- `number::seconds::round_to_u64` meets its contract. Each branch is a law of `proofs/Rounding.antt`. Assumes nothing.
use Rattle.std.proofs.Common.{ℕ, ◌+◌, ◌/◌, ◌^◌, ◌<◌, sym, ap, ◌∙◌, subst}
use lib.Ieee.{of_bits}
use Rattle.number.proofs.Rounding.{is, is_not, Small, small, whole, above_minus_one, past, none}
use Rattle.number.proofs.seconds.round_to_u64.Goals as goal

-- what owning an `f64` tells is that the format holds it
in_small : (c : goal.Then-x-2) → Small c.args.x
unfolding of_bits
in_small c = small c.args.x (is c.well_formed.0.1) (is c.if-x.true) (is c.if-x-2.true)

pub truncating_f64_to_u64-requires : goal.truncating_f64_to_u64-requires
truncating_f64_to_u64-requires c = record { lower_bound = (in_small c).low; upper_bound = (in_small c).high }

pub overflow_add-result : goal.overflow_add-result
overflow_add-result c = record { fits = subst (λ (n : ℕ). n + 1 < 2 ^ 64) (sym c.truncating_f64_to_u64.ensures) (in_small c.before).room }

pub returns-then-x-2 : goal.returns-then-x-2
returns-then-x-2 c = ap (λ (n : ℕ). (n + 1) / 2) c.truncating_f64_to_u64.ensures ∙ (in_small c.before).rounded

pub truncating_f64_to_u64-requires-then-x-3 : goal.truncating_f64_to_u64-requires-then-x-3
unfolding of_bits
truncating_f64_to_u64-requires-then-x-3 c = record { lower_bound = above_minus_one c.args.x (is c.if-x.true); upper_bound = is c.if-x-3.true }

pub returns-then-x-3 : goal.returns-then-x-3
unfolding of_bits
returns-then-x-3 c =
    c.truncating_f64_to_u64-then-x-3.ensures
    ∙ whole c.args.x (is c.well_formed.0.1) (is c.if-x.true) (is_not c.if-x-2.false) (is c.if-x-3.true)

pub returns-then-x : goal.returns-then-x
unfolding of_bits
returns-then-x c = past c.args.x (is c.if-x.true) (is_not c.if-x-3.false)

pub returns : goal.returns
unfolding of_bits
returns c = none c.args.x (is_not c.if-x.false)
