use Rattle.run_rows.specs.Rows.{row_in}
use Rattle.run_rows.proofs.Stored.{Rows}
use Rattle.run_rows.proofs.rows.control_table.Given as goal

abbrev pub invariant-loop-i : goal.invariant-loop-i
invariant-loop-i l = Rows (row_in l.fn.controls l.fn.nodes l.fn.links) l.n l.i l.words l.numbers
