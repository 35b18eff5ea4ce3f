-- An index written at the count, which moves on where the test holds. Assumes nothing.
use Prim.Native.Nat.{ℕ, suc, ◌+◌, ◌<◌}
use mir.Val.{bool_byte}
use mathlib.Core.Path.{◌≡◌, refl, sym, ap, ◌∙◌}
use mathlib.Core.Bool.{Bool, true, false, cond}
use mathlib.Core.List.{List, [], ◌∷◌, ◌++◌}
use mathlib.Core.Logic.{⊎_elim}
use native.Mathlib.Nat.{eq-or-lt_of_le}
use native.Mathlib.Numerals.{add-one}
use native.Mathlib.Omega.{arith}
use lib.ListN.{get_or, set, length, length-append, get_or-append}
use lib.Seq.{get_or-set_same, get_or-set_other, get_or-append_seam}
use Rattle.run_tables.specs.Chosen.{chosen}
use Rattle.run_tables.specs.Held.{Pushed}

-- a truth as a number
pub byte : (b : Bool) → bool_byte b ≡ cond b 1 0
byte true = refl
byte false = refl

pub push_none : (test : ℕ → Bool) (array : List ℕ) → Pushed test 0 array 0
unfolding chosen
push_none test array = record { many = refl; few = omega arith; each = λ k l. absurd (omega arith) }

-- the index i at the count
pub push : {test : ℕ → Bool} {i : ℕ} {array : List ℕ} {count next : ℕ} → Pushed test i array count → count < length array → next ≡ count + cond (test i) 1 0
    → Pushed test (i + 1) (set array count i) next
unfolding chosen
push {test} {i} {array} {count} {next} h room e = rw (add-one i) (by (test i) refl e)
  where
    C : List ℕ
    C = chosen test i

    before : (k : ℕ) → k < count → get_or (set array count i) k 0 ≡ get_or C k 0
    before k l = get_or-set_other array count k i 0 (λ q. omega arith) ∙ h.each k l

    last : (k : ℕ) → k ≡ count → get_or (set array count i) k 0 ≡ get_or (C ++ (i ∷ [])) k 0
    last k q = rw q (get_or-set_same array count i 0 room ∙ sym (ap (λ (m : ℕ). get_or (C ++ (i ∷ [])) m 0) h.many ∙ get_or-append_seam C i [] 0))

    by : (b : Bool) → test i ≡ b → next ≡ count + cond b 1 0 → Pushed test (suc i) (set array count i) next
    by true t n = record {
      many = rw t (n ∙ omega (arith, h.many, length-append C (i ∷ [])));
      few = omega (arith, h.few);
      each = λ k l. rw t (⊎_elim (λ q. last k q) (λ m. before k m ∙ sym (get_or-append C (i ∷ []) 0 k (omega (arith, h.many)))) (eq-or-lt_of_le (omega arith)));
    }
    by false t n = record {
      many = rw t (omega (arith, h.many));
      few = omega (arith, h.few);
      each = λ k l. rw t (before k (omega arith));
    }
