-- `stops_ahead::ahead::fill` meets its contract. The invariant: the stops written so far and those above the last of them are all. Assumes nothing.
use Prim.Native.Nat.{◌<◌}
use native.Mathlib.Omega.{arith}
use mathlib.Core.Path.{ap}
use lib.ListN.{length, length-set}
use Rattle.awaited.specs.declared.Awaited.{Awaited}
use Rattle.stops_ahead.proofs.Filling.{goes_on, goes_off, stops_begun, stops_turned, stops_ended}
use borrow.Author.Rules.{rules}
use Rattle.stops_ahead.proofs.ahead.fill.Goals as goal

pub awaited_by-awaited-requires : goal.awaited_by-awaited-requires
awaited_by-awaited-requires c = c.requires.few

pub loop-time-init : goal.loop-time-init
loop-time-init c = stops_begun

pub next_after-time-requires : goal.next_after-time-requires
next_after-time-requires c =
    let inside : (c.loop-time.time < c.args.o.duration) × (c.loop-time.n < length c.loop-time.out) = goes_on _ _ _ _ c.loop-time-test.true in
    let t = c in
    record { duration_bound = (t.requires.duration, (inside).0); count_bound = t.requires.few }

pub offset_bounds-out-n : goal.offset_bounds-out-n
offset_bounds-out-n c =
    let inside : (c.loop-time.time < c.args.o.duration) × (c.loop-time.n < length c.loop-time.out) = goes_on _ _ _ _ c.loop-time-test.true in
    search (rules, (inside).1)

pub bounds-out-n : goal.bounds-out-n
bounds-out-n c =
    let inside : (c.loop-time.time < c.args.o.duration) × (c.loop-time.n < length c.loop-time.out) = goes_on _ _ _ _ c.loop-time-test.true in
    (inside).1

pub overflow_add-n : goal.overflow_add-n
overflow_add-n c =
    let inside : (c.loop-time.time < c.args.o.duration) × (c.loop-time.n < length c.loop-time.out) = goes_on _ _ _ _ c.loop-time-test.true in
    search (rules, (inside).1)

pub loop-time-smaller : goal.loop-time-smaller
loop-time-smaller c =
    let inside : (c.loop-time.time < c.args.o.duration) × (c.loop-time.n < length c.loop-time.out) = goes_on _ _ _ _ c.loop-time-test.true in
    simp length-set (omega (arith, (inside).1))

pub loop-time-preserved : goal.loop-time-preserved
loop-time-preserved c =
    let inside : (c.loop-time.time < c.args.o.duration) × (c.loop-time.n < length c.loop-time.out) = goes_on _ _ _ _ c.loop-time-test.true in
    let on = inside in
    stops_turned c.loop-time.invariant c.next_after-time.result c.next_after-time.ensures on.0 on.1

pub shape_of-out : goal.shape_of-out
shape_of-out c = c.loop-time.invariant.same

pub returns : goal.returns
returns c =
    let w = c.awaited_by-awaited.ensures in
    record {
      value = (stops_ended c.loop-time.invariant
          (record { timely = c.requires; noted = (ap (λ (x : Awaited). x.times) w, ap (λ (x : Awaited). x.clocks) w) })
          (goes_off _ _ _ _ c.loop-time-test.false)).0;
      out_after = (stops_ended c.loop-time.invariant
          (record { timely = c.requires; noted = (ap (λ (x : Awaited). x.times) w, ap (λ (x : Awaited). x.clocks) w) })
          (goes_off _ _ _ _ c.loop-time-test.false)).1;
    }
