-- The worked example of document 01 is what the definition gives, computed; and the longest lines.
-- Assumes nothing.
use mathlib.Core.Path.{◌≡◌, refl}
use mathlib.Core.List.{[], ◌∷◌, ◌++◌}
use Rattle.listing.specs.Numbers.{decimal_digits, hex_digit, hex_digits, hex_text}
use Rattle.listing.specs.Listing.{step_line, text_of, listing, step, finished, refused}

-- "from length", "0 3600", "3600 3600", "7200 2800", "steps 3"
pub document_01 : listing (step 0 3600 ∷ step 3600 3600 ∷ step 7200 2800 ∷ finished 3 ∷ [])
    ≡ (102 ∷ 114 ∷ 111 ∷ 109 ∷ 32 ∷ 108 ∷ 101 ∷ 110 ∷ 103 ∷ 116 ∷ 104 ∷ 10 ∷ [])
    ++ ((48 ∷ 32 ∷ 51 ∷ 54 ∷ 48 ∷ 48 ∷ 10 ∷ [])
    ++ ((51 ∷ 54 ∷ 48 ∷ 48 ∷ 32 ∷ 51 ∷ 54 ∷ 48 ∷ 48 ∷ 10 ∷ [])
    ++ ((55 ∷ 50 ∷ 48 ∷ 48 ∷ 32 ∷ 50 ∷ 56 ∷ 48 ∷ 48 ∷ 10 ∷ [])
    ++ (115 ∷ 116 ∷ 101 ∷ 112 ∷ 115 ∷ 32 ∷ 51 ∷ 10 ∷ []))))
unfolding decimal_digits step_line text_of
document_01 = refl

-- "315359999 1", "refused 7"
pub late_fault : text_of (step 315359999 1 ∷ refused 7 ∷ [])
    ≡ (51 ∷ 49 ∷ 53 ∷ 51 ∷ 53 ∷ 57 ∷ 57 ∷ 57 ∷ 57 ∷ 32 ∷ 49 ∷ 10 ∷ []) ++ (114 ∷ 101 ∷ 102 ∷ 117 ∷ 115 ∷ 101 ∷ 100 ∷ 32 ∷ 55 ∷ 10 ∷ [])
unfolding decimal_digits step_line text_of
late_fault = refl

-- " 405ec00000000000", the f64 123.0
pub hex_123 : hex_text 0 1079951360 ≡ 32 ∷ 52 ∷ 48 ∷ 53 ∷ 101 ∷ 99 ∷ 48 ∷ 48 ∷ 48 ∷ 48 ∷ 48 ∷ 48 ∷ 48 ∷ 48 ∷ 48 ∷ 48 ∷ 48 ∷ []
unfolding hex_text hex_digits hex_digit
hex_123 = refl
