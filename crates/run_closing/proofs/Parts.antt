-- A part of the table, as a list of its own. Assumes nothing.
use Prim.Native.Nat.{ℕ, ◌+◌, ◌<◌}
use mathlib.Core.Path.{◌≡◌, ap, ◌∙◌}
use mathlib.Core.Bool.{Bool}
use mathlib.Core.List.{List}
use native.Mathlib.Omega.{arith}
use lib.Ieee.{Float}
use lib.ListN.{get_or, length, length-drop, length-take, take, drop}
use lib.Seq.{get_or-take, get_or-drop, length-take-le}
use Rattle.model.specs.Loops.{through}
use Rattle.model.proofs.Pointwise.{same_turns}
use Rattle.run_closing.specs.Closing.{PartInside, link_marked, part_closed}

abbrev pub part : List ℕ → ℕ → ℕ → List ℕ
part links from n = take n (drop from links)

module _ {links : List ℕ} {from n : ℕ} (h : PartInside links from n) where
  pub part_long : length links ≡ 768 → length (part links from n) ≡ n
  part_long e = length-take-le n (drop from links) (omega (arith, h.most, e, length-drop from links))

  low : {i : ℕ} → i < length (part links from n) → i < n
  low l = omega (arith, l, length-take n (drop from links))

  pub part_at : (i : ℕ) → i < length (part links from n) → get_or (part links from n) i 0 ≡ get_or links (from + i) 0
  part_at i l = get_or-take n (drop from links) i 0 (low l) ∙ get_or-drop from links i 0

  pub part_inside : (i : ℕ) → i < length (part links from n) → get_or (part links from n) i 0 < 384
  part_inside i l = rw (part_at i l) (h.link i (low l))

  pub part_is : length links ≡ 768 → (flows : List Float) (forward backward : Bool) (st : List ℕ)
      → through (length (part links from n)) (λ i. link_marked flows forward backward (get_or (part links from n) i 0)) st ≡ part_closed links from n flows forward backward st
  unfolding part_closed
  part_is e flows forward backward st =
      rw (part_long e)
      (same_turns n _ (λ i. link_marked flows forward backward (get_or links (from + i) 0)) st
      (λ i t l. ap (λ (m : ℕ). link_marked flows forward backward m t) (part_at i (omega (arith, l, part_long e)))))
