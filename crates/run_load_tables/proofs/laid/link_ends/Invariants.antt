use Rattle.run_state.proofs.Filled.{Filled}
use Rattle.tank_links.specs.Laid.{end_in, start_in}
use Rattle.run_load_tables.proofs.laid.link_ends.Given as goal

abbrev pub invariant-loop-i : goal.invariant-loop-i
invariant-loop-i l = Filled 0 384 (start_in l.fn.table) l.i l.starts × Filled 0 384 (end_in l.fn.table) l.i l.ends
