use Prim.Native.Nat.{◌/◌}
use lib.ListN.{length}
use Rattle.model.proofs.Loops.{Ran}
use Rattle.image_place.specs.Placed.{multiplier_placed}
use Rattle.image_place.proofs.place_multipliers.Given as goal

abbrev pub invariant-loop-i : goal.invariant-loop-i
invariant-loop-i l = Ran (length l.payload / 2) (multiplier_placed l.payload l.k) l.initial.out l.i l.out
