-- Document 02, R-9: a block of result numbers in rows of 8 bytes, the lowest first, and the same bytes in planes.
-- Assumes nothing.
use Rattle.std.specs.Prelude.{ℕ, zero, suc, ◌+◌, ◌*◌, List, [], ◌∷◌, ◌++◌, Bool, cond, not, ◌&&◌, eqb, leb, length, get_or}

-- f 0, f 1, .. and f (n - 1)
unfoldable pub list_of : ℕ → (ℕ → ℕ) → List ℕ
list_of zero f = []
list_of (suc n) f = list_of n f ++ (f n ∷ [])

-- the lists f 0, f 1, .. and f (n - 1), one behind the other
unfoldable pub joined : ℕ → (ℕ → List ℕ) → List ℕ
joined zero f = []
joined (suc n) f = joined n f ++ f n

-- of n rows of w bytes, one byte of each, in the order of the rows
abbrev pub plane : ℕ → ℕ → ℕ → List ℕ → List ℕ
plane w n byte from = list_of n (λ (row : ℕ). get_or from (w * row + byte) 0)

-- n rows of w bytes, plane by plane: the first byte of each row, then the second of each, up to the last
unfoldable pub turned : ℕ → ℕ → List ℕ → List ℕ
turned w n from = joined w (λ (byte : ℕ). plane w n byte from)

-- "the lowest bytes of all, then the second bytes, up to the eighth"
abbrev pub to_planes : ℕ → List ℕ → List ℕ
to_planes rows block = turned 8 rows block

-- "The inverse restores it": the 8 planes are turned as 8 rows of as many bytes as there are numbers
abbrev pub from_planes : ℕ → List ℕ → List ℕ
from_planes rows planes = turned rows 8 planes

-- "no rows, more than 512"
abbrev pub rows_ok : ℕ → Bool
rows_ok rows = not (eqb rows 0) && leb rows 512

-- "or either buffer of the wrong size", the one that is read and the one that is written: "Buffers are sized exactly"
abbrev pub sized : ℕ → ℕ → ℕ → Bool
sized rows from into = rows_ok rows && eqb from (8 * rows) && eqb into (8 * rows)

-- "Refused: 13"
unfoldable pub planes_number : ℕ → ℕ → ℕ → ℕ
planes_number rows from into = cond (sized rows from into) 0 13

-- what the second buffer holds after the call; "on refusal" it stays "untouched"
unfoldable pub written : (ℕ → List ℕ → List ℕ) → ℕ → List ℕ → List ℕ → List ℕ
written turn rows from into = cond (sized rows (length from) (length into)) (turn rows from) into
