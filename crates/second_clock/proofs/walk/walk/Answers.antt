-- `second_clock::walk::walk` meets its contract. The invariant: what is left of the walk gives the whole. Assumes nothing.
use mathlib.Core.Path.{◌∙◌}
use native.Mathlib.Omega.{arith}
use Rattle.second_clock.proofs.Walks.{walk_by_is, going_begun, going_stops, going_turned, going_ended, stop_told}
use Rattle.second_clock.proofs.walk.walk.Goals as goal

pub awaited_by-awaited-requires : goal.awaited_by-awaited-requires
awaited_by-awaited-requires c = c.requires.count_bound

pub loop-instant-init : goal.loop-instant-init
loop-instant-init c = going_begun

pub overflow_add-instant : goal.overflow_add-instant
overflow_add-instant c = omega (arith, c.requires.times_fit.duration)

pub overflow_add-seconds : goal.overflow_add-seconds
overflow_add-seconds c = omega (arith, c.requires.times_fit.duration, c.loop-instant.invariant.at)

pub overflow_add-clock : goal.overflow_add-clock
overflow_add-clock c = omega (arith, c.requires.times_fit.duration, c.requires.times_fit.clock)

pub any_calls-called-requires : goal.any_calls-called-requires
any_calls-called-requires c = c.requires.count_bound

pub stops_then-requires : goal.stops_then-requires
stops_then-requires c = let f = c.requires.times_fit in (f.report, f.pattern)

pub returns-then-stops_then : goal.returns-then-stops_then
returns-then-stops_then c =
    let a = c.args in
    let l = c.loop-instant in
    let told = stop_told a.o c.words_of-times.result c.words_of-clocks.result a.count a.from l.instant l.seconds l.invariant.at c.any_calls-called.ensures c.stops_then.ensures in
    going_stops l.invariant c.loop-instant-test.true told c.if-stops_then.true
    ∙ walk_by_is a.o a.controls.now a.count a.from c.awaited_by-awaited.result c.requires.times_fit c.requires.count_bound c.awaited_by-awaited.ensures
    c.words_of-times.ensures c.words_of-clocks.ensures

pub loop-instant-preserved : goal.loop-instant-preserved
loop-instant-preserved c =
    let a = c.args in
    let l = c.loop-instant in
    let told = stop_told a.o c.words_of-times.result c.words_of-clocks.result a.count a.from l.instant l.seconds l.invariant.at c.any_calls-called.ensures c.stops_then.ensures in
    going_turned l.invariant c.loop-instant-test.true told c.if-stops_then.false

pub returns : goal.returns
returns c =
    let a = c.args in
    going_ended c.loop-instant.invariant c.loop-instant-test.false
    ∙ walk_by_is a.o a.controls.now a.count a.from c.awaited_by-awaited.result c.requires.times_fit c.requires.count_bound c.awaited_by-awaited.ensures
    c.words_of-times.ensures c.words_of-clocks.ensures
