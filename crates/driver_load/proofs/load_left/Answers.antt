-- `driver_load::load_left` meets its contract: the words are lent, filled and read. Assumes nothing.
use mathlib.Core.Path.{◌≡◌, refl, sym, ◌∙◌}
use borrow.Author.Rules.{rules}
use borrow.Author.Tests.{eqb-true, eqb-false}
use Rattle.driver_load.specs.Left.{none, cut, faulty, whole}
use Rattle.driver_load.proofs.Words.{words_read}
use Rattle.driver_load.proofs.load_left.Goals as goal

pub returns-then-is_empty : goal.returns-then-is_empty
returns-then-is_empty c = none (eqb-true _ _ (sym c.is_empty.ensures ∙ c.if-is_empty.true))

pub returns-then-bytes-size : goal.returns-then-bytes-size
returns-then-bytes-size c = cut (eqb-false _ _ (sym c.is_empty.ensures ∙ c.if-is_empty.false)) c.if-bytes-size.true

pub returns-in-Err : goal.returns-in-Err
returns-in-Err c =
    let w = c.words_of.ensures in
    let e = words_read _ c.args.bytes.now _ c.words_of.new.words _ c.if-bytes-size.false (search rules) w.value w.words_after in
    faulty (eqb-false _ _ (sym c.is_empty.ensures ∙ c.if-is_empty.false)) c.if-bytes-size.false _ (c.in-Err.ensures ∙ rw e)

pub returns : goal.returns
returns c =
    let w = c.words_of.ensures in
    let e = words_read _ c.args.bytes.now _ c.words_of.new.words _ c.if-bytes-size.false (search rules) w.value w.words_after in
    whole (eqb-false _ _ (sym c.is_empty.ensures ∙ c.if-is_empty.false)) c.if-bytes-size.false (c.in_default.ensures ∙ rw e) _ (c.take.ensures ∙ rw e) _ refl
