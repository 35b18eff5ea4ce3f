-- What the program `timetable` prints. Document 02, R-14: "Works without tanks want to know the stops beforehand."
use Rattle.std.specs.Prelude.{ℕ, ◌+◌, cond, List, [], ◌∷◌, ◌++◌, eqb, length}
use Rattle.listing.specs.Listing.{number_line, steps_line, refused_line}
use Rattle.model.specs.declared.project.Project.{Project}
use Rattle.tables.specs.Tables.{tables_ok}
use Rattle.image.specs.Image.{number_of}
use Rattle.image.specs.declared.walk.Decoded.{Decoded}
use Rattle.stops_ahead.specs.Foreseen.{stops_foreseen, stops_of}

-- a line for each instant
unfoldable pub lines_text : List ℕ → List ℕ
lines_text [] = []
lines_text (u ∷ us) = number_line u ++ lines_text us

-- `none`: the stops are not foreseen
abbrev pub none_line : List ℕ
none_line = 110 ∷ 111 ∷ 110 ∷ 101 ∷ 10 ∷ []

-- the stops above an instant, and how many there are with the count of those up to it
unfoldable pub stops_text : Project → ℕ → ℕ → List ℕ
stops_text p instant count = lines_text (stops_of p instant) ++ steps_line (count + length (stops_of p instant))

-- what is left to print of a project's timetable from an instant on
unfoldable pub timetable : Project → ℕ → ℕ → List ℕ
timetable p instant count = cond (tables_ok p) (cond (stops_foreseen p) (stops_text p instant count) none_line) (refused_line 10)

-- all that is printed for an image; a fault's line stands alone
unfoldable pub printed : Decoded → List ℕ
printed d = cond (eqb (number_of d.fault) 0) (timetable d.project 0 0) (refused_line (number_of d.fault))
