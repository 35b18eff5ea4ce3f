-- The fact of R-9: for every number of rows each way undoes the other, and two blocks that store alike are one block. And both of the calls:
-- what `to_planes` has put in planes `from_planes` restores, and what it has left alike it was given as one block.
-- Assumes nothing.
use mathlib.Core.Path.{◌≡◌, refl, sym, ap, subst, ◌∙◌}
use mathlib.Core.Bool.{Bool, true, false, cond, ◌&&◌}
use mathlib.Core.List.{List}
use Prim.Native.Nat.{ℕ, ◌*◌, ◌<◌}
use native.Mathlib.Nat.{mul_comm}
use native.Mathlib.Omega.{arith}
use lib.Dec.{T, eqb, eqb→eq}
use lib.Ieee.Fits.{and_l, and_r}
use lib.ListN.{length}
use Rattle.planes.specs.Planes.{to_planes, from_planes, rows_ok, sized, planes_number, written}
use Rattle.planes.proofs.Turned.{length_turned, round}

-- "Both are one fact over the number of rows, and two blocks that store alike are one block."
pub record Stores (n : ℕ) : Type 0 where
  pub back : (block : List ℕ) → length block ≡ 8 * n → from_planes n (to_planes n block) ≡ block
  pub forth : (planes : List ℕ) → length planes ≡ 8 * n → to_planes n (from_planes n planes) ≡ planes
  pub alike : (m : ℕ) (block other : List ℕ) → length block ≡ 8 * n → length other ≡ 8 * m → to_planes n block ≡ to_planes m other → block ≡ other

pub stores : (n : ℕ) → Stores n
stores n = record {
  back = back;
  forth = λ planes size. round n 8 planes (size ∙ mul_comm 8 n);
  alike = alike;
}
  where
    back : (block : List ℕ) → length block ≡ 8 * n → from_planes n (to_planes n block) ≡ block
    back block size = round 8 n block size

    alike : (m : ℕ) (block other : List ℕ) → length block ≡ 8 * n → length other ≡ 8 * m → to_planes n block ≡ to_planes m other → block ≡ other
    alike m block other size size' same =
        let rows : n ≡ m = omega (arith, length_turned 8 n block, ap length same, length_turned 8 m other) in
        sym (back block size)
        ∙ ap (from_planes n) same
        ∙ ap (λ (k : ℕ). from_planes k (to_planes m other)) rows
        ∙ round 8 m other size'

-- what the test of the sizes shows
pub sized_is : (rows from into : ℕ) → sized rows from into ≡ true → (from ≡ 8 * rows) × (into ≡ 8 * rows)
sized_is rows from into e =
    let all : T (sized rows from into) = subst T (sym e) tt in
    let first : T (rows_ok rows && eqb from (8 * rows)) = and_l (rows_ok rows && eqb from (8 * rows)) (eqb into (8 * rows)) all in (
      eqb→eq from (8 * rows) (and_r (rows_ok rows) (eqb from (8 * rows)) first),
      eqb→eq into (8 * rows) (and_r (rows_ok rows && eqb from (8 * rows)) (eqb into (8 * rows)) all),
    )

-- a call that answers 0 has found the sizes right
accepted : (rows from into : ℕ) → planes_number rows from into ≡ 0 → sized rows from into ≡ true
unfolding planes_number
accepted rows from into e = chosen (sized rows from into) _ (omega arith) e
  where
    chosen : (b : Bool) (n : ℕ) → 0 < n → cond b 0 n ≡ 0 → b ≡ true
    chosen true n h q = refl
    chosen false n h q = absurd (omega arith)

-- "The inverse restores it", of the calls: where `to_planes` has answered 0, `from_planes` of what it left answers 0 too, and leaves the block
pub restores : (rows : ℕ) (block planes again : List ℕ) → planes_number rows (length block) (length planes) ≡ 0 → length again ≡ length block
    → (planes_number rows (length (written to_planes rows block planes)) (length again) ≡ 0) × (written from_planes rows (written to_planes rows block planes) again ≡ block)
unfolding planes_number written
restores rows block planes again e same =
    let ok = accepted rows (length block) (length planes) e in
    let sizes = sized_is rows (length block) (length planes) ok in
    let exact : sized rows (8 * rows) (8 * rows) ≡ true = rw (sizes.0, sizes.1) at ok in
    rw (ok, length_turned 8 rows block, same, sizes.0, exact) (refl, (stores rows).back block sizes.0)

-- "two blocks that store alike are one block", of the calls: where `to_planes` has answered 0 twice and left the same bytes, it was given one block
pub one_block : (n m : ℕ) (block planes other planes' : List ℕ) → planes_number n (length block) (length planes) ≡ 0 → planes_number m (length other) (length planes') ≡ 0
    → written to_planes n block planes ≡ written to_planes m other planes' → block ≡ other
unfolding written
one_block n m block planes other planes' e e' same =
    let ok = accepted n (length block) (length planes) e in
    let ok' = accepted m (length other) (length planes') e' in
    let sizes = sized_is n (length block) (length planes) ok in
    let sizes' = sized_is m (length other) (length planes') ok' in
    (stores n).alike m block other sizes.0 sizes'.0 (rw (ok, ok') at same)
