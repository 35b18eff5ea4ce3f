-- Rows turned to planes: how many bytes they are, which byte stands where, that any list with each byte there is the rows turned, and that
-- turned back they are the rows. All of it for every number of rows, and of bytes in a row.
-- Assumes nothing.
use mathlib.Core.Path.{◌≡◌, sym, ◌∙◌}
use mathlib.Core.List.{List}
use Prim.Native.Nat.{ℕ, zero, suc, ◌+◌, ◌*◌, ◌/◌, ◌%◌, ◌<◌}
use native.Mathlib.Nat.{mod-lt, div-lt_iff_lt-mul, mul_comm, mul-zero, div-add-mod, not-suc-le-zero}
use native.Mathlib.Omega.{arith}
use lib.ListN.{length, get_or}
use lib.Seq.{ext_get_or}
use Rattle.planes.specs.Planes.{turned}
use Rattle.planes.proofs.Places.{length_list_of, get_or_list_of, length_joined, get_or_joined}

pub length_turned : (w n : ℕ) (from : List ℕ) → length (turned w n from) ≡ w * n
unfolding turned
length_turned w n from = length_joined n _ (λ byte. length_list_of n _) w ∙ mul_comm n w

-- byte `byte` of row `row` stands in plane `byte`, at `row`
pub byte_at : (w n : ℕ) (from : List ℕ) (byte row : ℕ) → byte < w → row < n → get_or (turned w n from) (n * byte + row) 0 ≡ get_or from (w * row + byte) 0
unfolding turned
byte_at w n from byte row h k = get_or_joined n _ (λ i. length_list_of n _) w byte row h k ∙ get_or_list_of n _ row k

-- where each byte stands so, it is the rows turned
pub is_turned : (w n : ℕ) (from after : List ℕ) → length after ≡ w * n
    → ((byte row : ℕ) → byte < w → row < n → get_or after (n * byte + row) 0 ≡ get_or from (w * row + byte) 0)
    → after ≡ turned w n from
is_turned w n from after size put =
    ext_get_or 0 after (turned w n from) (size ∙ sym (length_turned w n from)) (λ k h.
    let inside : k < w * n = rw size at h in
    let byte : k / n < w = (div-lt_iff_lt-mul (nonzero w n k inside)).1 inside in
    let row : k % n < n = mod-lt k (nonzero w n k inside) in
    rw (← div-add-mod k n) (put (k / n) (k % n) byte row ∙ sym (byte_at w n from (k / n) (k % n) byte row)))
  where
    nonzero : (w n k : ℕ) → k < w * n → 0 < n
    nonzero w zero k h = absurd (not-suc-le-zero (rw (mul-zero w) at h))
    nonzero w (suc n) k h = omega arith

-- rows turned to planes and back are the rows
pub round : (w n : ℕ) (from : List ℕ) → length from ≡ w * n → turned n w (turned w n from) ≡ from
round w n from size =
    sym (is_turned n w (turned w n from) from (size ∙ mul_comm w n) (λ row byte h k. sym (byte_at w n from byte row k h)))
