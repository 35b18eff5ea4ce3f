-- The starred instants hold, all in one equation, by computation. Assumes nothing.
use mathlib.Core.Path.{◌≡◌, refl}
use mathlib.Core.List.{map}
use lib.Ieee.{neg, add, sub, mul, div, lt, eq, le, of_int}
use Rattle.number.specs.Constants.{decimal}
use Rattle.number.specs.Compare.{compare_f64}
use Rattle.number.specs.Order.{clamp}
use Rattle.number.specs.Seconds.{round_to_u64, u64_to_f64}
use Rattle.clock.specs.Steps.{time_candidate, clock_candidate, smallest_positive}
use Rattle.tank.specs.Tanks.{volume_at_level, gap_time, time_to_reach_level, time_to_fill_or_drain, new_head, head_after}
use Rattle.model.specs.Patterns.{multiplier_at}
use Rattle.instants.specs.Instants.{Instant, starred}

starred_hold : map (λ (i : Instant). i.answer) starred ≡ map (λ (i : Instant). i.due) starred
unfolding starred time_to_fill_or_drain time_to_reach_level gap_time volume_at_level new_head head_after u64_to_f64 of_int clamp compare_f64 round_to_u64 decimal time_candidate clock_candidate smallest_positive multiplier_at lt eq le neg add sub mul div
starred_hold = refl
