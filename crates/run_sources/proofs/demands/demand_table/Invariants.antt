use Prim.Native.Nat.{◌+◌, ◌*◌}
use lib.Ieee.{nan}
use Rattle.run_state.proofs.Filled.{Filled}
use Rattle.run_sources.proofs.Laying.{count_of, base_of, pattern_of}
use Rattle.run_sources.proofs.demands.demand_table.Given as goal

abbrev pub invariant-loop-i : goal.invariant-loop-i
invariant-loop-i l = record {
  counts : Filled 0 256 (count_of l.nodes) l.i l.counts;
  bases : Filled nan 1024 (base_of l.nodes) (4 * l.i) l.bases;
  places : Filled 0 1024 (pattern_of l.nodes l.fn.default) (4 * l.i) l.patterns;
}

abbrev pub invariant-loop-j : goal.invariant-loop-j
invariant-loop-j l = record {
  bases : Filled nan 1024 (base_of l.nodes) (4 * l.i + l.j) l.bases;
  places : Filled 0 1024 (pattern_of l.nodes l.fn.default) (4 * l.i + l.j) l.patterns;
}
