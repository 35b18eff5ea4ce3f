-- A sum that is stored where a node has a mark, and the entry left as it is where it has none. Assumes nothing.
use Prim.Native.Nat.{ℕ}
use mathlib.Core.Path.{◌≡◌, sym}
use mathlib.Core.Bool.{cond}
use mathlib.Core.List.{List}
use borrow.Author.Tests.{eq-eqb, ne_eqb}
use lib.Dec.{eqb}
use lib.Ieee.{Float, nan}
use lib.ListN.{get_or, set}
use lib.Seq.{set-get_or}

module _ (sums : List Float) (node mark : ℕ) (sum : Float) where
  pub marked : (mark ≡ 0 → ⊥) → set sums node sum ≡ set sums node (cond (eqb mark 0) (get_or sums node nan) sum)
  marked h = rw (ne_eqb mark 0 h)

  pub unmarked : mark ≡ 0 → sums ≡ set sums node (cond (eqb mark 0) (get_or sums node nan) sum)
  unmarked h = rw (eq-eqb mark 0 h) (sym (set-get_or sums node nan))
