-- A text that is written from its last byte to its first.
-- Assumes nothing.
use Prim.Native.Nat.{ℕ, suc, ◌+◌, ◌≤◌, ◌<◌}
use mathlib.Core.Path.{◌≡◌, refl, sym, ap, ◌∙◌}
use mathlib.Core.List.{List, [], ◌∷◌, ◌++◌}
use native.Mathlib.Omega.{arith}
use lib.ListN.{length, take, drop, set, length-append, length-set, take-append-drop}
use lib.Seq.{set_split, take-append-le, take-take, drop_at, length-take-le}
use Rattle.listing.specs.Text.{pasted}

-- a store in front of what has been written
stored : (buf rest : List ℕ) (j d : ℕ) → j < length buf → set (take (suc j) buf ++ rest) j d ≡ take j buf ++ (d ∷ rest)
stored buf rest j d h =
    let e : length (take (suc j) buf) ≡ suc j = length-take-le (suc j) buf h in
    let inside : j < length (take (suc j) buf ++ rest) = omega (arith, length-append (take (suc j) buf) rest) in
    let low : j ≤ length (take (suc j) buf) = omega arith in
    let less : j ≤ suc j = omega arith in
    set_split (take (suc j) buf ++ rest) j d inside
    ∙ rw (take-append-le j (take (suc j) buf) rest low, take-take j (suc j) buf less, drop_at (take (suc j) buf) rest (suc j) e)

-- `now` is the buffer with the tail written from i up to the end
pub record Written (buf : List ℕ) (end : ℕ) (now : List ℕ) (i : ℕ) (tail : List ℕ) : Type 0 where
  pub place : i + length tail ≡ end
  pub same : length now ≡ length buf
  pub made : now ≡ take i buf ++ (tail ++ drop end buf)

pub written_none : (buf : List ℕ) (end : ℕ) → Written buf end buf end []
written_none buf end = record { place = omega arith; same = refl; made = sym (take-append-drop end buf) }

module _ {buf : List ℕ} {end : ℕ} {now tail : List ℕ} where
  -- one byte more in front
  pub written_more : {i j : ℕ} (d : ℕ) → end ≤ length buf → i ≡ suc j → Written buf end now i tail → Written buf end (set now j d) j (d ∷ tail)
  written_more {i} {j} d room e w =
      let inside : j < length buf = omega (arith, w.place) in
      let m : now ≡ take (suc j) buf ++ (tail ++ drop end buf) = w.made ∙ rw e in
      record {
        place = omega (arith, w.place);
        same = length-set now j d ∙ w.same;
        made = ap (λ (l : List ℕ). set l j d) m ∙ stored buf (tail ++ drop end buf) j d inside;
      }

  -- all of it
  pub written_all : {at : ℕ} → Written buf end now at tail → now ≡ pasted buf at tail
  unfolding pasted
  written_all {at} w = w.made ∙ rw (← w.place)
