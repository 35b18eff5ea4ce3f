use Prim.Native.Nat.{◌-◌, ◌≤◌}
use mathlib.Core.Path.{◌≡◌}
use lib.ListN.{length}
use Rattle.driver_chunk.proofs.Turns.{AllTurns}
use Rattle.driver_chunk.proofs.advance.Given as goal

abbrev pub invariant-loop-table : goal.invariant-loop-table
invariant-loop-table l = record {
  wide : length l.table ≡ 33;
  long : length l.out ≡ length l.initial.out;
  room : l.written ≤ length l.out;
  inside : l.used ≤ length l.input;
  turns : AllTurns l.t l.multipliers l.initial.lists l.input l.whole l.initial.out l.out l.lists l.in_force l.used l.written l.wants;
}

abbrev pub decreases-loop-table : goal.decreases-loop-table
decreases-loop-table l = l.t.options.duration - l.lists.clock.instant
