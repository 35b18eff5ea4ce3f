-- `stops_ahead::next::next_stop` meets its contract. Assumes nothing.
use mathlib.Core.Path.{◌≡◌, ◌∙◌}
use Rattle.stops_ahead.specs.Foreseen.{next_stop}
use Rattle.stops_ahead.proofs.Tables.{first_written, stop_answers}
use Rattle.stops_ahead.proofs.next.next_stop.Goals as goal

pub returns : goal.returns
returns c =
    let a = c.args in
    let s = c.next_stops-answer.ensures in
    let e : c.first_of.result ≡ next_stop a.p a.instant = c.first_of.ensures ∙ rw (s.value, s.out_after) (first_written a.p a.instant) in
    record { value = e; result_value = stop_answers a.p a.instant e }
