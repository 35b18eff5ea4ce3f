-- The listing that the program `driver` prints, as bytes (document 01).
-- Assumes nothing.
use Rattle.std.specs.Prelude.{ℕ, List, [], ◌∷◌, ◌++◌}
use Rattle.listing.specs.Numbers.{decimal_text}

-- "It prints a header, each step's starting instant and length in seconds, then the count. Lines end in byte 10, the last too".

-- `from length`
abbrev pub header : List ℕ
header = 102 ∷ 114 ∷ 111 ∷ 109 ∷ 32 ∷ 108 ∷ 101 ∷ 110 ∷ 103 ∷ 116 ∷ 104 ∷ 10 ∷ []

-- the line of a step
unfoldable pub step_line : ℕ → ℕ → List ℕ
step_line from seconds = decimal_text from ++ (32 ∷ (decimal_text seconds ++ (10 ∷ [])))

-- a label, a number and the line's end
abbrev pub labelled : List ℕ → ℕ → List ℕ
labelled label n = label ++ (decimal_text n ++ (10 ∷ []))

-- a number alone
abbrev pub number_line : ℕ → List ℕ
number_line n = labelled [] n

-- `steps N`
abbrev pub steps_line : ℕ → List ℕ
steps_line n = labelled (115 ∷ 116 ∷ 101 ∷ 112 ∷ 115 ∷ 32 ∷ []) n

-- "A fault prints the line `refused N` and ends"
abbrev pub refused_line : ℕ → List ℕ
refused_line n = labelled (114 ∷ 101 ∷ 102 ∷ 117 ∷ 115 ∷ 101 ∷ 100 ∷ 32 ∷ []) n

-- a line after the header: a step with its starting instant and its length, or the end, after so many steps or at a fault
pub data Line : Type 0 where
  step : ℕ → ℕ → Line
  finished : ℕ → Line
  refused : ℕ → Line

abbrev pub line_text : Line → List ℕ
line_text (step from seconds) = step_line from seconds
line_text (finished n) = steps_line n
line_text (refused n) = refused_line n

-- the text of some lines, in order
unfoldable pub text_of : List Line → List ℕ
text_of [] = []
text_of (l ∷ rest) = line_text l ++ text_of rest

-- the whole listing of an accepted image; "alone for an image", a fault's line has no header
abbrev pub listing : List Line → List ℕ
listing lines = header ++ text_of lines
