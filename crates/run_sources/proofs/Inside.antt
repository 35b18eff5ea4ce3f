-- Tables laid out hold what the passes ask of them. Assumes nothing.
use Prim.Native.Nat.{ℕ, ◌≤◌, ◌<◌}
use mathlib.Core.Path.{◌≡◌, refl}
use mathlib.Core.Bool.{Bool, true, false, cond}
use mathlib.Core.List.{List}
use native.Mathlib.Omega.{arith}
use borrow.Author.Tests.{ltb-true}
use lib.Dec.{ltb}
use lib.Ieee.{Float}
use lib.ListN.{get_or}
use Rattle.std.specs.Prelude.{None, Option, Some}
use Rattle.model.specs.Blank.{blank_node}
use Rattle.model.specs.declared.node.Node.{Node}
use Rattle.state_patterns.specs.Patterns.{or_default}
use Rattle.run_tables.proofs.Listed.{chosen_at, chosen_few}
use Rattle.run_sources.specs.Sources.{place_of, demand_in, DemandsLaid, NodeInside, DemandsInside, head_pattern_of, patterned_in, HeadsLaid, HeadsInside}
use Rattle.run_sources.proofs.Laying.{demands_most}

place_inside : (q : Option ℕ) → place_of q < 33
place_inside None = omega arith
place_inside (Some k) = by (ltb k 32) refl
  where
    by : (b : Bool) → ltb k 32 ≡ b → cond b k 32 < 33
    by true e = omega (arith, ltb-true k 32 e)
    by false e = omega arith

pub demands_inside : {table : List Node} {n : ℕ} {default : Option ℕ} {counts : List ℕ} {bases : List Float} {patterns : List ℕ}
    → DemandsLaid table n default counts bases patterns → n ≤ 256 → DemandsInside counts patterns n
demands_inside {table} {n} {default} {counts} {bases} {patterns} laid few = record { most = few; node = node }
  where
    node : (i : ℕ) → i < n → NodeInside patterns i (get_or counts i 0)
    node i l = record {
      most = omega (arith, l, few);
      few = omega (arith, laid.count.each i l, demands_most (get_or table i blank_node).kind);
      place = λ j k. omega (arith, laid.place i j l k, place_inside (or_default default (demand_in table i j).pattern));
    }

pub heads_inside : {table : List Node} {among : ℕ} {nodes : List ℕ} {elevations : List Float} {patterns : List ℕ} {n : ℕ}
    → HeadsLaid table among nodes elevations patterns n → among ≤ 256 → HeadsInside nodes patterns n
heads_inside {table} {among} {nodes} laid few = record {
  most = omega (arith, few, laid.count, chosen_few (patterned_in table) among);
  node = λ r l. omega (arith, few, laid.node r l, (chosen_at (patterned_in table) among r (omega (arith, l, laid.count))).low);
  place = λ r l. omega (arith, laid.place r l, place_inside (head_pattern_of (get_or table (get_or nodes r 0) blank_node).kind));
}
