-- All that the driver prints (document 01, "The program `driver` reads standard input").
-- Assumes nothing.
use Rattle.std.specs.Prelude.{ℕ, suc, ◌+◌, ◌*◌, false, cond, List, [], ltb, eqb, length, drop}
use Rattle.listing.specs.Listing.{Line, refused_line, listing}
use Rattle.words.specs.Words.{first_words}
use Rattle.model.specs.declared.project.Project.{Project}
use Rattle.image.specs.Image.{decode, number_of}
use Rattle.image.specs.declared.walk.Decoded.{Decoded}
use Rattle.calls.specs.Calls.{start}
use Rattle.driver_image.specs.Opening.{image_words}
use Rattle.driver_chunk.specs.Runs.{Run, turns}

-- all the lines of a run: every turn but the last moves the clock, so that there are at most duration + 1
unfoldable pub lines_from : Project → Run → List Line
lines_from p r = (turns (suc p.options.duration) p r).lines

-- the run of a project on the bytes behind its image
abbrev pub started : Project → List ℕ → Run
started p bytes = record { state = (start p).state; left = bytes; lines = []; over = false }

-- "alone for an image, after the header and steps so far for a load"
unfoldable pub opened : Decoded → List ℕ → List ℕ
opened d rest = cond (eqb (number_of d.fault) 0) (listing (lines_from d.project (started d.project rest))) (refused_line (number_of d.fault))

-- all that the program prints for an input. "A count of 0 or over 16,384, or fewer bytes than it needs, is number 1"
unfoldable pub printed : List ℕ → List ℕ
printed input =
    cond (eqb (image_words input) 0) (refused_line 1)
    (cond (ltb (length input) (4 + image_words input * 4)) (refused_line 1)
    (opened (decode (first_words (image_words input) (drop 4 input))) (drop (4 + image_words input * 4) input)))
