-- What stands in an array after a row was stored at a base: the row there, all else as it was. Assumes nothing.
use Prim.Native.Nat.{ℕ, zero, suc, ◌+◌, ◌≤◌, ◌<◌}
use mathlib.Core.Path.{◌≡◌, refl, ap, ◌∙◌}
use mathlib.Core.List.{List, [], ◌∷◌}
use native.Mathlib.Nat.{le_of_suc-le-suc, not-suc-le-zero}
use native.Mathlib.Omega.{arith}
use lib.ListN.{get_or, set, length, length-set}
use lib.Seq.{get_or-set_same, get_or-set_other}
use Rattle.run_tables.specs.Blocks.{stores, block}

module _ {A : Type 0} (d : A) where
  stores_before : (vs l : List A) (b o j : ℕ) → j < b + o → get_or (stores l b o vs) j d ≡ get_or l j d
  stores_before [] l b o j h = refl
  stores_before (v ∷ vs) l b o j h = stores_before vs (set l (b + o) v) b (suc o) j (omega arith) ∙ get_or-set_other l (b + o) j v d (λ q. omega arith)

  stores_after : (vs l : List A) (b o j : ℕ) → b + o + length vs ≤ j → get_or (stores l b o vs) j d ≡ get_or l j d
  stores_after [] l b o j h = refl
  stores_after (v ∷ vs) l b o j h = stores_after vs (set l (b + o) v) b (suc o) j (omega arith) ∙ get_or-set_other l (b + o) j v d (λ q. omega arith)

  stores_at : (vs l : List A) (b o m j : ℕ) → m < length vs → b + o + length vs ≤ length l → j ≡ b + o + m → get_or (stores l b o vs) j d ≡ get_or vs m d
  stores_at [] l b o m j h r e = absurd (not-suc-le-zero h)
  stores_at (v ∷ vs) l b o zero j h r e =
      let q : j ≡ b + o = omega arith in
      stores_before vs (set l (b + o) v) b (suc o) j (omega arith)
      ∙ ap (λ (k : ℕ). get_or (set l (b + o) v) k d) q
      ∙ get_or-set_same l (b + o) v d (omega arith)
  stores_at (v ∷ vs) l b o (suc m) j h r e =
      stores_at vs (set l (b + o) v) b (suc o) m j (le_of_suc-le-suc h) (omega (arith, length-set l (b + o) v)) (omega arith)

  stores_length : (vs l : List A) (b o : ℕ) → length (stores l b o vs) ≡ length l
  stores_length [] l b o = refl
  stores_length (v ∷ vs) l b o = stores_length vs (set l (b + o) v) b (suc o) ∙ length-set l (b + o) v

  pub block_length : (vs l : List A) (b : ℕ) → length (block l b vs) ≡ length l
  block_length [] l b = refl
  block_length (v ∷ vs) l b = stores_length vs (set l b v) b 1 ∙ length-set l b v

  pub block_before : (vs l : List A) (b j : ℕ) → j < b → get_or (block l b vs) j d ≡ get_or l j d
  block_before [] l b j h = refl
  block_before (v ∷ vs) l b j h = stores_before vs (set l b v) b 1 j (omega arith) ∙ get_or-set_other l b j v d (λ q. omega arith)

  pub block_first : (v : A) (vs l : List A) (b : ℕ) → b < length l → get_or (block l b (v ∷ vs)) b d ≡ v
  block_first v vs l b h = stores_before vs (set l b v) b 1 b (omega arith) ∙ get_or-set_same l b v d h

  -- the one at offset m + 1
  pub block_at : (v : A) (vs l : List A) (b m : ℕ) → m < length vs → b + 1 + length vs ≤ length l → get_or (block l b (v ∷ vs)) (b + suc m) d ≡ get_or vs m d
  block_at v vs l b m h r = stores_at vs (set l b v) b 1 m (b + suc m) h (omega (arith, length-set l b v)) (omega arith)
