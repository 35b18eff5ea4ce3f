-- `run_rows::rows::control_table` meets its contract. The invariant: the rows of the controls passed are stored. Assumes nothing.
use Rattle.run_rows.proofs.Stored.{rows_put}
use Rattle.run_rows.proofs.rows.control_table.Goals as goal

pub loop-i-preserved : goal.loop-i-preserved
loop-i-preserved c = rows_put c.loop-i.invariant c.loop-i-test.true c.requires.most (rw (c.row_of-r.ensures, c.watched.ensures)) c.put_words.ensures c.put_numbers.ensures
