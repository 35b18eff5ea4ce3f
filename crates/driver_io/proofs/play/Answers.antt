-- `driver_io::play` meets its contract: of an image that is accepted the tables are laid out, and the start is in order. Assumes nothing.
use Rattle.tables.proofs.Fits.{tables_fit}
use Rattle.driver_io.proofs.Opened.{parts_inside, run_of}
use Rattle.driver_io.proofs.play.Goals as goal

pub tables_of-requires : goal.tables_of-requires
tables_of-requires g c = parts_inside c.args.p.now c.requires.accepted

pub start_of-start-requires : goal.start_of-start-requires
start_of-start-requires g c = let f = (tables_fit c.args.p.now c.requires.accepted).few in (f.nodes, f.links)

pub run-requires-clause-run_of : goal.run-requires-clause-run_of
run-requires-clause-run_of g c = run_of c.requires.accepted c.tables_of.ensures.laid c.start_of-start.ensures
