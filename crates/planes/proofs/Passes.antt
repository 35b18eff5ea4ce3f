-- The loops over the bytes of a row, and over the rows: how they begin, go on and end.
-- Assumes nothing.
use mathlib.Core.Path.{◌≡◌, ◌∙◌}
use mathlib.Core.Logic.{⊎_elim}
use mathlib.Core.List.{List}
use Prim.Native.Nat.{ℕ, ◌+◌, ◌*◌, ◌<◌, ◌≤◌}
use native.Mathlib.Nat.{eq-or-lt_of_le, le_of_suc-le-suc, mul-lt-mul_of_pos_left}
use native.Mathlib.Numerals.{add-one}
use native.Mathlib.Omega.{arith}
use lib.ListN.{length, get_or, set, length-set}
use lib.Seq.{get_or-set_same, get_or-set_other}
use Rattle.planes.specs.Planes.{turned}
use Rattle.planes.specs.Passes.{RowPut, RowsPut}
use Rattle.planes.proofs.Places.{same_place}
use Rattle.planes.proofs.Turned.{is_turned}

module _ {w n : ℕ} {from : List ℕ} where
  -- the row's next byte
  pub row_next : {row bytes : ℕ} {before after : List ℕ} → row < n → n * bytes + row < length before → RowPut w n from row bytes before after
      → RowPut w n from row (bytes + 1) before (set after (n * bytes + row) (get_or from (w * row + bytes) 0))
  row_next {row} {bytes} {before} {after} h room p = record {
    size = simp length-set p.size;
    put = λ byte l.
        ⊎_elim
        (λ e. rw e (get_or-set_same after (n * bytes + row) (get_or from (w * row + bytes) 0) 0 (omega (arith, p.size))))
        (λ l'. get_or-set_other after (n * bytes + row) (n * byte + row) _ 0 (λ e. omega (arith, mul-lt-mul_of_pos_left l' nonzero)) ∙ p.put byte l')
        (eq-or-lt_of_le (le_of_suc-le-suc (rw add-one at l)));
    kept = λ byte r l. get_or-set_other after (n * bytes + row) (n * byte + r) _ 0 (λ e. omega (arith, same_place n byte r bytes row (omega arith) h e)) ∙ p.kept byte r l;
  }
    where
      nonzero : 0 < n
      nonzero = omega arith

  -- after the last row
  pub rows_ended : {upto : ℕ} {after : List ℕ} → n ≤ upto → RowsPut w n from upto after → after ≡ turned w n from
  rows_ended {upto} {after} h p = is_turned w n from after p.size (λ byte row l k. p.put byte row l (omega arith))
