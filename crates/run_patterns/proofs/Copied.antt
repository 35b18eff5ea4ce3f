-- Copied one by one from the front, or all at once: the lists are the same. Assumes nothing.
use Prim.Native.Nat.{ℕ, ◌-◌, ◌≤◌, ◌<◌}
use mathlib.Core.Path.{◌≡◌, refl, sym, ap, ◌∙◌}
use mathlib.Core.Bool.{Bool, true, false}
use mathlib.Core.List.{List, ◌++◌}
use native.Mathlib.Omega.{arith}
use borrow.Author.Tests.{ltb-true, ltb-false}
use lib.Dec.{ltb}
use lib.Ieee.{Float, nan}
use lib.ListN.{get_or, length, take, drop, length-append, length-drop, get_or-append}
use lib.Seq.{ext_get_or}
use Rattle.std.proofs.lemmas.List.{length-take, get_or-take, get_or-drop, get_or-append_right}
use Rattle.model.proofs.Each.{same_length, from, below}
use Rattle.run_patterns.specs.Filling.{demands_copied}

pub copied_is : (n : ℕ) (ds fs : List Float) → n ≤ length ds → n ≤ length fs → take n ds ++ drop n fs ≡ demands_copied ds n fs
unfolding demands_copied
copied_is n ds fs l m =
    ext_get_or nan (take n ds ++ drop n fs) (demands_copied ds n fs)
    (omega (arith, length-append (take n ds) (drop n fs), taken, length-drop n fs, same_length g nan fs n))
    (λ k q. by k (ltb k n) refl)
  where
    g : ℕ → Float → Float
    g i x = get_or ds i nan

    taken : length (take n ds) ≡ n
    taken = omega (arith, length-take n ds)

    early : (k : ℕ) → k < n → get_or (take n ds ++ drop n fs) k nan ≡ get_or (demands_copied ds n fs) k nan
    early k a = get_or-append (take n ds) (drop n fs) nan k (omega (arith, taken)) ∙ get_or-take n ds k nan a ∙ sym (below g nan fs n k a m)

    late : (k : ℕ) → n ≤ k → get_or (take n ds ++ drop n fs) k nan ≡ get_or (demands_copied ds n fs) k nan
    late k b =
        get_or-append_right (take n ds) (drop n fs) n k nan taken b ∙ get_or-drop n fs (k - n) nan ∙ ap (λ (j : ℕ). get_or fs j nan) (omega arith)
        ∙ sym (from g nan fs n k b)

    by : (k : ℕ) (b : Bool) → ltb k n ≡ b → get_or (take n ds ++ drop n fs) k nan ≡ get_or (demands_copied ds n fs) k nan
    by k true e = early k (ltb-true k n e)
    by k false e = late k (omega (arith, ltb-false k n e))
