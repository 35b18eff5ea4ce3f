-- Rows stored one after the other are the rows of the controls. Assumes nothing.
use Prim.Native.Nat.{ℕ, ◌+◌, ◌*◌, ◌≤◌, ◌<◌}
use mathlib.Core.Path.{◌≡◌, sym, ◌∙◌}
use mathlib.Core.List.{List, [], ◌∷◌}
use mathlib.Core.Logic.{⊎_elim}
use native.Mathlib.Nat.{eq-or-lt_of_le}
use native.Mathlib.Omega.{arith}
use lib.Ieee.{Float, nan}
use lib.ListN.{length}
use Rattle.run_tables.specs.Blocks.{block}
use Rattle.run_tables.proofs.Blocks.{block_length, block_before, block_first, block_at}
use Rattle.run_rows.specs.Rows.{row_at}
use Rattle.run_rows.specs.declared.rows.Row.{Row}

abbrev words_of : Row → List ℕ
words_of r = r.node ∷ r.link ∷ r.seconds ∷ r.action ∷ r.status ∷ []

abbrev numbers_of : Row → List Float
numbers_of r = r.target ∷ r.setting ∷ r.flow ∷ []

abbrev pub words_with : List ℕ → ℕ → Row → List ℕ
words_with words i r = block words (6 * i) (r.kind ∷ r.node ∷ r.link ∷ r.seconds ∷ r.action ∷ r.status ∷ [])

abbrev pub numbers_with : List Float → ℕ → Row → List Float
numbers_with numbers i r = block numbers (4 * i) (r.elevation ∷ r.target ∷ r.setting ∷ r.flow ∷ [])

row_made : {a b c d e f a' b' c' d' e' f' : ℕ} {g h i j g' h' i' j' : Float}
    → a ≡ a' → b ≡ b' → c ≡ c' → d ≡ d' → e ≡ e' → f ≡ f' → g ≡ g' → h ≡ h' → i ≡ i' → j ≡ j'
    → ◌≡◌ {A = Row}
    (record { kind = a; node = b; link = c; seconds = d; action = e; status = f; elevation = g; target = h; setting = i; flow = j })
    (record { kind = a'; node = b'; link = c'; seconds = d'; action = e'; status = f'; elevation = g'; target = h'; setting = i'; flow = j' })
row_made a b c d e f g h i j = rw (a, b, c, d, e, f, g, h, i, j)

-- the first i rows are those that row gives
pub record Rows (row : ℕ → Row) (n i : ℕ) (words : List ℕ) (numbers : List Float) : Type 0 where
  pub most : i ≤ n
  pub long : length words ≡ 384
  pub wide : length numbers ≡ 256
  pub each : (k : ℕ) → k < i → row_at words numbers k ≡ row k

module _ {row : ℕ → Row} {n : ℕ} {words : List ℕ} {numbers : List Float} where
  pub rows_none : 384 ≡ length words → 256 ≡ length numbers → Rows row n 0 words numbers
  rows_none a b = record { most = omega arith; long = sym a; wide = sym b; each = λ k l. absurd (omega arith) }

  pub rows_put : {i : ℕ} {ws : List ℕ} {ns : List Float} {r : Row} → Rows row n i words numbers → i < n → n ≤ 64 → r ≡ row i
      → ws ≡ words_with words i r → ns ≡ numbers_with numbers i r → Rows row n (i + 1) ws ns
  rows_put {i} {ws} {ns} {r} h l m e a b = rw (a, b) (record {
    most = omega arith;
    long = block_length 0 (r.kind ∷ words_of r) words (6 * i) ∙ h.long;
    wide = block_length nan (r.elevation ∷ numbers_of r) numbers (4 * i) ∙ h.wide;
    each = λ k q. ⊎_elim (λ s. rw s (here ∙ e)) (λ s. before k s ∙ h.each k s) (eq-or-lt_of_le (omega arith));
  })
    where
      wl : 6 * i + 6 ≤ length words
      wl = omega (arith, h.long)

      nl : 4 * i + 4 ≤ length numbers
      nl = omega (arith, h.wide)

      here : row_at (words_with words i r) (numbers_with numbers i r) i ≡ r
      here =
          row_made
          (block_first 0 r.kind (words_of r) words (6 * i) (omega (arith, wl)))
          (block_at 0 r.kind (words_of r) words (6 * i) 0 (omega arith) (omega (arith, wl)))
          (block_at 0 r.kind (words_of r) words (6 * i) 1 (omega arith) (omega (arith, wl)))
          (block_at 0 r.kind (words_of r) words (6 * i) 2 (omega arith) (omega (arith, wl)))
          (block_at 0 r.kind (words_of r) words (6 * i) 3 (omega arith) (omega (arith, wl)))
          (block_at 0 r.kind (words_of r) words (6 * i) 4 (omega arith) (omega (arith, wl)))
          (block_first nan r.elevation (numbers_of r) numbers (4 * i) (omega (arith, nl)))
          (block_at nan r.elevation (numbers_of r) numbers (4 * i) 0 (omega arith) (omega (arith, nl)))
          (block_at nan r.elevation (numbers_of r) numbers (4 * i) 1 (omega arith) (omega (arith, nl)))
          (block_at nan r.elevation (numbers_of r) numbers (4 * i) 2 (omega arith) (omega (arith, nl)))

      before : (k : ℕ) → k < i → row_at (words_with words i r) (numbers_with numbers i r) k ≡ row_at words numbers k
      before k s =
          row_made
          (block_before 0 (r.kind ∷ words_of r) words (6 * i) (6 * k) (omega arith))
          (block_before 0 (r.kind ∷ words_of r) words (6 * i) (6 * k + 1) (omega arith))
          (block_before 0 (r.kind ∷ words_of r) words (6 * i) (6 * k + 2) (omega arith))
          (block_before 0 (r.kind ∷ words_of r) words (6 * i) (6 * k + 3) (omega arith))
          (block_before 0 (r.kind ∷ words_of r) words (6 * i) (6 * k + 4) (omega arith))
          (block_before 0 (r.kind ∷ words_of r) words (6 * i) (6 * k + 5) (omega arith))
          (block_before nan (r.elevation ∷ numbers_of r) numbers (4 * i) (4 * k) (omega arith))
          (block_before nan (r.elevation ∷ numbers_of r) numbers (4 * i) (4 * k + 1) (omega arith))
          (block_before nan (r.elevation ∷ numbers_of r) numbers (4 * i) (4 * k + 2) (omega arith))
          (block_before nan (r.elevation ∷ numbers_of r) numbers (4 * i) (4 * k + 3) (omega arith))
