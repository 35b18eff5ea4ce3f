-- Bytes moved to the front of a buffer, and read behind them. Assumes nothing.
use Prim.Native.Nat.{ℕ, suc, ◌+◌, ◌-◌, ◌≤◌, ◌<◌}
use mathlib.Core.Path.{◌≡◌, refl, sym, ap, ◌∙◌}
use mathlib.Core.List.{List, ◌++◌}
use mathlib.Core.Bool.{Bool, true, false}
use mathlib.Core.Logic.{◌⊎◌, inl, inr}
use native.Mathlib.Nat.{add_comm}
use native.Mathlib.Numerals.{add-one}
use native.Mathlib.Omega.{arith}
use borrow.Author.Tests.{ltb-false}
use lib.Dec.{ltb}
use lib.ListN.{length, take, drop, get_or, set, length-drop}
use lib.Seq.{length-take-le, take-suc, drop-cons, set_at, append_snoc, get_or-append-add, get_or-drop, take_at, take-append-le, take-take}
use Rattle.driver_io.specs.declared.Held.{Held}
use Rattle.driver_io.specs.Held.{Filled}

-- one byte more
pub shifted_more : (buf : List ℕ) (from i : ℕ) → from + i < length buf
    → set (take i (drop from buf) ++ drop i buf) i (get_or (take i (drop from buf) ++ drop i buf) (from + i) 0) ≡ take (i + 1) (drop from buf) ++ drop (i + 1) buf
shifted_more buf from i h =
    let n : length (drop from buf) ≡ length buf - from = length-drop from buf in
    let k : i ≤ length (drop from buf) = omega arith in
    let m : i < length (drop from buf) = omega arith in
    let t : length (take i (drop from buf)) ≡ i = length-take-le i (drop from buf) k in
    let j : i < length buf = omega arith in
    let place : from + i ≡ length (take i (drop from buf)) + from = omega arith in
    let x : ℕ = get_or (drop from buf) i 0 in
    let seen : get_or (take i (drop from buf) ++ drop i buf) (from + i) 0 ≡ x =
    ap (λ (k : ℕ). get_or (take i (drop from buf) ++ drop i buf) k 0) place ∙ get_or-append-add (take i (drop from buf)) (drop i buf) from 0
    ∙ get_or-drop i buf from 0 ∙ ap (λ (k : ℕ). get_or buf k 0) (add_comm i from) ∙ sym (get_or-drop from buf i 0) in
    rw (seen, add-one i, take-suc (drop from buf) i 0 m, drop-cons buf i 0 j, set_at (take i (drop from buf)) (get_or buf i 0) (drop (suc i) buf) x i t)
    (sym (append_snoc (take i (drop from buf)) x (drop (suc i) buf)))

-- the front of a buffer that bytes were moved to
pub shifted_front : (buf : List ℕ) (from n : ℕ) → from + n ≤ length buf → take n (take n (drop from buf) ++ drop n buf) ≡ take n (drop from buf)
shifted_front buf from n h =
    let l : n ≤ length (drop from buf) = omega (arith, length-drop from buf) in
    take_at (take n (drop from buf)) (drop n buf) n (length-take-le n (drop from buf) l)

-- the front of a buffer stays where bytes are read behind it
pub front_stays : (buf more : List ℕ) (have n : ℕ) → have ≤ n → n ≤ length buf → take have (take n buf ++ more) ≡ take have buf
front_stays buf more have n k l =
    let m : have ≤ length (take n buf) = omega (arith, length-take-le n buf l) in
    take-append-le have (take n buf) more m ∙ take-take have n buf k

-- the part of a buffer from one place up to another
pub part_length : (xs : List ℕ) (from to : ℕ) → from ≤ to → to ≤ length xs → length (take (to - from) (drop from xs)) ≡ to - from
part_length xs from to l k =
    let m : to - from ≤ length (drop from xs) = omega (arith, length-drop from xs) in
    length-take-le (to - from) (drop from xs) m

-- a buffer that was shifted and read into
pub filled : (h : Held) (wants : ℕ) (before mid after : List ℕ) (kept n : ℕ) → h.used ≤ h.have → h.have ≤ length before
    → kept ≡ h.have - h.used → mid ≡ take (h.have - h.used) (drop h.used before) ++ drop (h.have - h.used) before
    → length mid ≡ length before → kept ≤ n → n ≤ length mid → take kept after ≡ take kept mid
    → Filled h wants before after (record { used = 0; have = n; whole = ltb n wants })
filled h wants before mid after kept n u v e m l a b s =
    let k = h.have - h.used in
    let fits : h.used + k ≤ length before = omega arith in
    let front : take k mid ≡ take k (drop h.used before) = ap (take k) m ∙ shifted_front before h.used k fits in
    record {
      used = omega arith;
      have = omega arith;
      same = rw (← e) s ∙ front;
      served = λ _. tested (ltb n wants) refl;
    }
  where
    tested : (b : Bool) → ltb n wants ≡ b → (b ≡ true) ⊎ (wants ≤ n - 0)
    tested true t = inl refl
    tested false t = let w = ltb-false n wants t in inr (omega arith)
