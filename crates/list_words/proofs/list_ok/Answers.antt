-- `list_words::list_ok` meets its contract: a turn at a call passes over its words. Assumes nothing.
use Prim.Native.Nat.{◌<◌}
use mathlib.Core.Path.{sym, ◌≡◌, ◌∙◌}
use mathlib.Core.Bool.{true}
use native.Mathlib.Omega.{arith}
use lib.ListN.{length, length-drop}
use borrow.Author.Rules.{rules}
use Rattle.std.proofs.Common.{tests}
use Rattle.list_words.specs.Lists.{call_ok, call_length}
use Rattle.list_words.proofs.Lists.{ok_more, ok_end, ok_whole, length_some, behind}
use Rattle.list_words.proofs.list_ok.Goals as goal

pub returns-then-not-call_ok : goal.returns-then-not-call_ok
returns-then-not-call_ok c =
    let some : 0 < length c.loop-rest.rest.now = search (rules, tests) in
    sym (c.loop-rest.invariant.same ∙ ok_more c.loop-rest.rest.now some ∙ rw (← c.call_ok.ensures, c.if-not-call_ok.true))

pub loop-rest-smaller : goal.loop-rest-smaller
loop-rest-smaller c =
    let fits = ok_whole c.loop-rest.rest.now (sym c.call_ok.ensures ∙ c.if-not-call_ok.false) in
    let e = behind c.loop-rest.rest.now c.call_length.result (omega (arith, c.call_length.ensures, fits)) in
    rw e (omega (arith, length-drop c.call_length.result c.loop-rest.rest.now, c.call_length.ensures, length_some c.loop-rest.rest.now, fits))

pub loop-rest-preserved : goal.loop-rest-preserved
loop-rest-preserved c =
    let ws = c.loop-rest.rest.now in
    let some : 0 < length ws = search (rules, tests) in
    let ok : call_ok ws ≡ true = sym c.call_ok.ensures ∙ c.if-not-call_ok.false in
    let e = behind ws c.call_length.result (omega (arith, c.call_length.ensures, ok_whole ws ok)) in
    rw (e, c.call_length.ensures) (record {
      short = omega (arith, length-drop (call_length ws) ws, c.loop-rest.invariant.short);
      same = c.loop-rest.invariant.same ∙ ok_more ws some ∙ rw ok;
    })

pub returns : goal.returns
returns c =
    let none : length c.loop-rest.rest.now ≡ 0 = search (rules, tests) in
    sym (c.loop-rest.invariant.same ∙ ok_end c.loop-rest.rest.now none)
