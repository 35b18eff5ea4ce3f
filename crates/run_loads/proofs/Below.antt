-- A test of each number of a range is `all_below`. Assumes nothing.
use Prim.Native.Nat.{ℕ, zero, suc, ◌+◌}
use mathlib.Core.Path.{◌≡◌, refl, sym, subst, ◌∙◌}
use mathlib.Core.Bool.{Bool, ◌&&◌}
use mathlib.Core.List.{map}
use Rattle.std.specs.List.{list_all, range_with_len}
use Rattle.std.proofs.lemmas.List.Folds.{list_all-append, list_all-map}
use Rattle.std.proofs.lemmas.List.FromFn.{map-range_with_len_more}
use Rattle.model.specs.Loops.{all_below}
use Rattle.std.proofs.Common.{arith, add-one}
use Rattle.std.proofs.Math.Bool.{and-true}

mapped : (n : ℕ) (t : ℕ → Bool) → list_all t (map (λ x. x) (range_with_len 0 n)) ≡ all_below n t
unfolding all_below
mapped zero t = refl
mapped (suc n) t =
    let more : list_all t (map (λ x. x) (range_with_len 0 (n + 1))) ≡ (all_below n t && t n) = rw (map-range_with_len_more (λ x. x) 0 n n (omega arith), list_all-append, mapped n t, and-true) in
    subst (λ k. list_all t (map (λ x. x) (range_with_len 0 k)) ≡ (all_below n t && t n)) (add-one n) more

pub below : (n : ℕ) (t : ℕ → Bool) → list_all t (range_with_len 0 n) ≡ all_below n t
below n t = sym (list_all-map t (λ x. x) (range_with_len 0 n)) ∙ mapped n t
