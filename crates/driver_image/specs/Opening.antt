-- The count of the image's words (document 01, "The program `driver` reads standard input").
-- Assumes nothing.
use Rattle.std.specs.Prelude.{ℕ, cond, List, ltb, length}
use Rattle.words.specs.Words.{word_at}

-- the count of image words in the first four bytes; 0 where there is none that serves
unfoldable pub image_words : List ℕ → ℕ
image_words bytes = cond (ltb (length bytes) 4) 0 (cond (ltb 16384 (word_at bytes 0)) 0 (word_at bytes 0))
