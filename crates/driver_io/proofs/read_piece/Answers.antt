-- `driver_io::read_piece` meets its contract. Assumes nothing.
use mathlib.Core.Path.{sym}
use lib.Seq.{length-take-le}
use borrow.Author.Rules.{rules}
use Rattle.driver_io.proofs.read_piece.Goals as goal

pub slice_bounds-read_full-end-2 : goal.slice_bounds-read_full-end-2
slice_bounds-read_full-end-2 g c = sym (length-take-le _ _ (search rules))

pub slice_bounds-words_of-end-2 : goal.slice_bounds-words_of-end-2
slice_bounds-words_of-end-2 g c = sym (length-take-le _ _ (search rules))
