-- `list_run::run_calls` meets its contract. Assumes nothing.
use Prim.Native.Nat.{◌<◌, ◌≤◌, ◌^◌}
use mathlib.Core.Path.{◌≡◌, ap, ◌∙◌}
use native.Mathlib.Omega.{arith}
use lib.ListN.{length, length-drop}
use borrow.Author.Rules.{rules}
use Rattle.std.proofs.Common.{tests}
use Rattle.list_words.specs.Lists.{calls_of}
use Rattle.list_words.proofs.Lists.{behind, length_some, ok_whole}
use Rattle.list_run.specs.Runs.{counted_all}
use Rattle.list_run.proofs.Counts.{running, call_whole, ran_more, ran_all}
use Rattle.list_run.proofs.run_calls.Goals as goal

pub loop-rest-init : goal.loop-rest-init
loop-rest-init c = running c.requires.s_value c.requires.words_value c.none_run-r.ensures

pub counted-r-requires : goal.counted-r-requires
counted-r-requires c =
    let g = c.loop-rest.invariant in
    let some : 0 < length c.loop-rest.rest.now = search (rules, tests) in
    let long : length c.args.words.now < 2 ^ 64 = search rules in
    record { serves_value = c.requires.serves_value; state_value = g.order; asked_bound = (omega (arith, g.room, some, long), g.sum, g.moving, call_whole g some) }

pub slice_bounds-rest-count : goal.slice_bounds-rest-count
slice_bounds-rest-count c =
    let some : 0 < length c.loop-rest.rest.now = search (rules, tests) in
    omega (arith, c.call_length.ensures, ok_whole c.loop-rest.rest.now (call_whole c.loop-rest.invariant some))

pub offset_bounds-rest-call_length : goal.offset_bounds-rest-call_length
offset_bounds-rest-call_length c =
    let some : 0 < length c.loop-rest.rest.now = search (rules, tests) in
    let short = c.loop-rest.invariant.short in
    let fits : c.call_length.result ≤ length c.loop-rest.rest.now = omega (arith, c.call_length.ensures, ok_whole c.loop-rest.rest.now (call_whole c.loop-rest.invariant some)) in
    search rules

pub slice_bounds-rest-start : goal.slice_bounds-rest-start
slice_bounds-rest-start c =
    let some : 0 < length c.loop-rest.rest.now = search (rules, tests) in
    let fits : c.call_length.result ≤ length c.loop-rest.rest.now = omega (arith, c.call_length.ensures, ok_whole c.loop-rest.rest.now (call_whole c.loop-rest.invariant some)) in
    search rules

pub loop-rest-smaller : goal.loop-rest-smaller
loop-rest-smaller c =
    let ws = c.loop-rest.rest.now in
    let some : 0 < length ws = search (rules, tests) in
    let fits = ok_whole ws (call_whole c.loop-rest.invariant some) in
    rw (behind ws c.call_length.result (omega (arith, c.call_length.ensures, fits))) (omega (arith, length-drop c.call_length.result ws, c.call_length.ensures, length_some ws, fits))

pub loop-rest-preserved : goal.loop-rest-preserved
loop-rest-preserved c =
    let ws = c.loop-rest.rest.now in
    let some : 0 < length ws = search (rules, tests) in
    let fits = ok_whole ws (call_whole c.loop-rest.invariant some) in
    rw (behind ws c.call_length.result (omega (arith, c.call_length.ensures, fits)), c.call_length.ensures) (ran_more c.loop-rest.invariant some c.counted-r.ensures)

pub returns : goal.returns
returns c =
    let none : length c.loop-rest.rest.now ≡ 0 = search (rules, tests) in
    ran_all c.loop-rest.invariant none ∙ ap (counted_all c.args.p (calls_of 0 c.args.words.now)) c.none_run-r.ensures
