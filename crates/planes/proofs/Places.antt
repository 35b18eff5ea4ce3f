-- Places in n-byte runs, one behind the other: byte k of run i stands at n * i + k.
-- Assumes nothing.
use mathlib.Core.Path.{◌≡◌, refl, sym, ap, ◌∙◌}
use mathlib.Core.List.{List, [], ◌∷◌, ◌++◌}
use mathlib.Core.Logic.{⊎_elim}
use Prim.Native.Nat.{ℕ, zero, suc, ◌+◌, ◌*◌, ◌%◌, ◌<◌}
use native.Mathlib.Nat.{eq-or-lt_of_le, le_of_suc-le-suc, not-suc-le-zero, mul-le-mul_left, mul-suc, mul-zero, mul-add-mod_self_left, mod-eq_of_lt}
use native.Mathlib.Numerals.{add-one}
use native.Mathlib.Omega.{arith}
use lib.ListN.{length, get_or, length-append, get_or-append}
use lib.Seq.{get_or_at, get_or-append-add}
use Rattle.planes.specs.Planes.{list_of, joined}

-- a byte of one of m runs is among them all
pub among : (n : ℕ) {m i k : ℕ} → k < n → i < m → n * i + k < n * m
among n {m} {i} {k} h l = omega (arith, mul-suc n i, mul-le-mul_left n l)

-- bytes at one place are at one place of their runs
pub same_place : (n i k j l : ℕ) → k < n → l < n → n * i + k ≡ n * j + l → k ≡ l
same_place n i k j l h h' e =
    sym (mod-eq_of_lt h) ∙ sym (mul-add-mod_self_left n i k) ∙ ap (λ (p : ℕ). p % n) e ∙ mul-add-mod_self_left n j l ∙ mod-eq_of_lt h'

pub length_list_of : (n : ℕ) (f : ℕ → ℕ) → length (list_of n f) ≡ n
unfolding list_of
length_list_of zero f = refl
length_list_of (suc n) f = rw (length-append, length_list_of n f) (add-one n)

pub get_or_list_of : (n : ℕ) (f : ℕ → ℕ) (i : ℕ) → i < n → get_or (list_of n f) i 0 ≡ f i
unfolding list_of
get_or_list_of zero f i h = absurd (not-suc-le-zero h)
get_or_list_of (suc n) f i h =
    ⊎_elim
    (λ e. rw e (get_or_at (list_of n f) (f n) [] 0 n (length_list_of n f)))
    (λ l. get_or-append (list_of n f) (f n ∷ []) 0 i (rw (length_list_of n f) l) ∙ get_or_list_of n f i l)
    (eq-or-lt_of_le (le_of_suc-le-suc h))

module _ (n : ℕ) (f : ℕ → List ℕ) (each : (i : ℕ) → length (f i) ≡ n) where
  pub length_joined : (m : ℕ) → length (joined m f) ≡ n * m
  unfolding joined
  length_joined zero = sym (mul-zero n)
  length_joined (suc m) = rw (length-append, length_joined m, each m) (sym (mul-suc n m))

  pub get_or_joined : (m i k : ℕ) → i < m → k < n → get_or (joined m f) (n * i + k) 0 ≡ get_or (f i) k 0
  unfolding joined
  get_or_joined zero i k h in-run = absurd (not-suc-le-zero h)
  get_or_joined (suc m) i k h in-run =
      ⊎_elim
      (λ e. rw e (ap (λ (start : ℕ). get_or (joined m f ++ f m) (start + k) 0) (sym (length_joined m)) ∙ get_or-append-add (joined m f) (f m) k 0))
      (λ l. get_or-append (joined m f) (f m) 0 (n * i + k) (rw (length_joined m) (among n in-run l)) ∙ get_or_joined m i k l in-run)
      (eq-or-lt_of_le (le_of_suc-le-suc h))
