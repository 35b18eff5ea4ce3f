-- `stops_ahead::next::next_stops` meets its contract: each test decides one of the definition's. Assumes nothing.
use mathlib.Core.Path.{◌≡◌, sym, ◌∙◌}
use mathlib.Core.Bool.{true}
use Rattle.tables.specs.Tables.{tables_ok}
use Rattle.tables.proofs.Fits.{tables_fit}
use Rattle.stops_ahead.specs.Foreseen.{stops_foreseen}
use Rattle.stops_ahead.proofs.Tables.{timely, refused_written, unforeseen_written, stops_written_lem}
use Rattle.stops_ahead.proofs.next.next_stops.Goals as goal

pub returns-then-not-tables_ok : goal.returns-then-not-tables_ok
returns-then-not-tables_ok c =
    let a = c.args in
    record { value = (refused_written a.p a.instant a.out.now (sym c.tables_ok.ensures ∙ c.if-not-tables_ok.true)).0; result_value = (refused_written a.p a.instant a.out.now (sym c.tables_ok.ensures ∙ c.if-not-tables_ok.true)).1.0; out_after = (refused_written a.p a.instant a.out.now (sym c.tables_ok.ensures ∙ c.if-not-tables_ok.true)).1.1 }

pub stops_foreseen-requires : goal.stops_foreseen-requires
stops_foreseen-requires c =
    let fit : tables_ok c.args.p ≡ true = sym c.tables_ok.ensures ∙ c.if-not-tables_ok.false in
    tables_fit c.args.p (fit)

pub returns-then-not-stops_foreseen : goal.returns-then-not-stops_foreseen
returns-then-not-stops_foreseen c =
    let fit : tables_ok c.args.p ≡ true = sym c.tables_ok.ensures ∙ c.if-not-tables_ok.false in
    let a = c.args in
    record {
      value = (unforeseen_written a.p a.instant a.out.now (fit)
          (sym c.stops_foreseen.ensures ∙ c.if-not-stops_foreseen.true)).0;
      result_value = (unforeseen_written a.p a.instant a.out.now (fit)
          (sym c.stops_foreseen.ensures ∙ c.if-not-stops_foreseen.true)).1.0;
      out_after = (unforeseen_written a.p a.instant a.out.now (fit)
          (sym c.stops_foreseen.ensures ∙ c.if-not-stops_foreseen.true)).1.1;
    }

pub times_of-requires : goal.times_of-requires
times_of-requires c =
    let fit : tables_ok c.args.p ≡ true = sym c.tables_ok.ensures ∙ c.if-not-tables_ok.false in
    tables_fit c.args.p (fit)

pub fill-requires : goal.fill-requires
fill-requires c =
    let fit : tables_ok c.args.p ≡ true = sym c.tables_ok.ensures ∙ c.if-not-tables_ok.false in
    let known : stops_foreseen c.args.p ≡ true = sym c.stops_foreseen.ensures ∙ c.if-not-stops_foreseen.false in
    let a = c.args in
    timely a.p (tables_fit a.p (fit)) (known) _ c.times_of.ensures

pub returns : goal.returns
returns c =
    let fit : tables_ok c.args.p ≡ true = sym c.tables_ok.ensures ∙ c.if-not-tables_ok.false in
    let known : stops_foreseen c.args.p ≡ true = sym c.stops_foreseen.ensures ∙ c.if-not-stops_foreseen.false in
    let a = c.args in
    let f = c.fill.ensures in
    record {
      value = (stops_written_lem a.p a.instant a.out.now (fit) (known)
          c.times_of.ensures f.value f.out_after).0;
      result_value = (stops_written_lem a.p a.instant a.out.now (fit) (known)
          c.times_of.ensures f.value f.out_after).1.0;
      out_after = (stops_written_lem a.p a.instant a.out.now (fit) (known)
          c.times_of.ensures f.value f.out_after).1.1;
    }
