-- Needs no belief: how far the loops over rows and bytes have come, for their proofs.
-- Assumes nothing.
use Rattle.std.specs.Prelude.{ℕ, ◌+◌, ◌*◌, ◌<◌, ◌≡◌, List, length, get_or}

-- of n rows of w bytes, the first bytes of one stand in their planes, and the rows before it stand as they did
pub record RowPut (w n : ℕ) (from : List ℕ) (row bytes : ℕ) (before after : List ℕ) : Type 0 where
  pub size : length after ≡ length before
  pub put : (byte : ℕ) → byte < bytes → get_or after (n * byte + row) 0 ≡ get_or from (w * row + byte) 0
  pub kept : (byte r : ℕ) → r < row → get_or after (n * byte + r) 0 ≡ get_or before (n * byte + r) 0

-- the first rows stand in the planes
pub record RowsPut (w n : ℕ) (from : List ℕ) (upto : ℕ) (after : List ℕ) : Type 0 where
  pub size : length after ≡ w * n
  pub put : (byte row : ℕ) → byte < w → row < upto → get_or after (n * byte + row) 0 ≡ get_or from (w * row + byte) 0
