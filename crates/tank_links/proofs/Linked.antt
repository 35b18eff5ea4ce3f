-- The links at each node as a chain: a link put before those that come after it begins its chains anew, and leaves the others. Assumes nothing.
use Prim.Native.Nat.{ℕ, zero, suc, ◌+◌, ◌-◌, ◌≤◌, ◌<◌}
use mathlib.Core.Path.{◌≡◌, refl, sym, ap, ◌∙◌, subst}
use mathlib.Core.Bool.{Bool, true, false, cond}
use mathlib.Core.List.{List, [], ◌∷◌, ◌++◌, append-nil, append_assoc}
use native.Mathlib.Nat.{le_of_suc-le-suc, not-suc-le-zero}
use native.Mathlib.Omega.{arith}
use borrow.Author.Tests.{lt-ltb, le-ltb, eqb-true, eqb-false}
use lib.Dec.{eqb}
use lib.ListN.{get_or, set, length, length-set, replicate, length-replicate, get_or-replicate}
use lib.Seq.{get_or-set_same, get_or-set_other}
use Rattle.run_tables.specs.Chosen.{chosen}
use Rattle.run_tables.proofs.Listed.{chosen_few}
use Rattle.tank_links.specs.Chains.{Rising, linked, Chains}

-- ---- the links that a chain has, from l on
abbrev pub Chain : List ℕ → ℕ → List ℕ → Type 0
Chain next l [] = 384 ≤ l
Chain next l (x ∷ xs) = (l ≡ x) × (x < 384) × Chain next (get_or next x 0) xs

chain_linked : (n : ℕ) (next : List ℕ) (l : ℕ) (xs : List ℕ) → Chain next l xs → length xs ≤ n → linked n next l ≡ xs
unfolding linked
chain_linked zero next l [] c h = refl
chain_linked zero next l (x ∷ xs) c h = absurd (not-suc-le-zero h)
chain_linked (suc n) next l [] c h = rw (le-ltb l 384 c)
chain_linked (suc n) next l (x ∷ xs) c h =
    rw (c.0, lt-ltb x 384 c.1) (ap (λ (ys : List ℕ). x ∷ ys) (chain_linked n next (get_or next x 0) xs c.2 (le_of_suc-le-suc h)))

-- all of them are above i
abbrev Above : ℕ → List ℕ → Type 0
Above i [] = Unit {0}
Above i (x ∷ xs) = (i < x) × Above i xs

chain_set : (next : List ℕ) (i v l : ℕ) (xs : List ℕ) → Above i xs → Chain next l xs → Chain (set next i v) l xs
chain_set next i v l [] a c = c
chain_set next i v l (x ∷ xs) a c = (
  c.0,
  c.1,
  subst (λ (m : ℕ). Chain (set next i v) m xs) (sym (get_or-set_other next i x v 0 (λ q. omega (arith, a.0, q)))) (chain_set next i v (get_or next x 0) xs a.1 c.2),
)

-- the first of a chain above i is above i
chain_above : (next : List ℕ) (i l : ℕ) (xs : List ℕ) → i < 384 → Above i xs → Chain next l xs → i < l
chain_above next i l [] h a c = omega (arith, c)
chain_above next i l (x ∷ xs) h a c = omega (arith, c.0, a.0)

-- ---- those of m links from i on at which a test holds
unfoldable pub from : (ℕ → Bool) → ℕ → ℕ → List ℕ
from test i zero = []
from test i (suc m) = cond (test i) (i ∷ from test (suc i) m) (from test (suc i) m)

from_above : (test : ℕ → Bool) (i j m : ℕ) → i < j → Above i (from test j m)
unfolding from
from_above test i j zero h = tt
from_above test i j (suc m) h = by (test j) (from_above test i (suc j) m (omega arith))
  where
    by : (b : Bool) → Above i (from test (suc j) m) → Above i (cond b (j ∷ from test (suc j) m) (from test (suc j) m))
    by true a = (h, a)
    by false a = a

chosen_from : (test : ℕ → Bool) (m i : ℕ) → chosen test (i + m) ≡ chosen test i ++ from test i m
unfolding from chosen
chosen_from test zero i = let z : i + 0 ≡ i = omega arith in ap (chosen test) z ∙ sym (append-nil (chosen test i))
chosen_from test (suc m) i =
    let z : i + suc m ≡ suc i + m = omega arith in
    ap (chosen test) z ∙ chosen_from test m (suc i) ∙ by (test i)
  where
    by : (b : Bool) → cond b (chosen test i ++ (i ∷ [])) (chosen test i) ++ from test (suc i) m ≡ chosen test i ++ cond b (i ∷ from test (suc i) m) (from test (suc i) m)
    by true = append_assoc (chosen test i) (i ∷ []) (from test (suc i) m)
    by false = refl

from_all : (test : ℕ → Bool) (n : ℕ) → from test 0 n ≡ chosen test n
unfolding chosen
from_all test n = let z : 0 + n ≡ n = omega arith in sym (chosen_from test n 0) ∙ ap (chosen test) z

-- ---- the links from i on are chained
abbrev pub here : (ℕ → ℕ) → ℕ → ℕ → Bool
here f j i = eqb (f i) j

pub record Chained (f : ℕ → ℕ) (n i : ℕ) (first next : List ℕ) : Type 0 where
  pub most : i ≤ n
  pub wide : length first ≡ 256
  pub long : length next ≡ 384
  pub rising : Rising next
  pub chain : (j : ℕ) → j < 256 → Chain next (get_or first j 0) (from (here f j) i (n - i))

module _ {f : ℕ → ℕ} {n : ℕ} where
  pub chained_none : {first next : List ℕ} → first ≡ replicate 256 384 → next ≡ replicate 384 384 → Chained f n n first next
  unfolding from
  chained_none a b = rw (a, b) (record {
    most = omega arith;
    wide = length-replicate {A = ℕ} 256 384;
    long = length-replicate {A = ℕ} 384 384;
    rising = λ i h. rw (get_or-replicate {A = ℕ} 384 i 384 0 h) h;
    chain = λ j h. rw (get_or-replicate {A = ℕ} 256 j 384 0 h) (none (n - n) (omega arith) j);
  })
    where
      none : (m : ℕ) → m ≡ 0 → (j : ℕ) → Chain (replicate 384 384) 384 (from (here f j) n m)
      none m e j = rw e (omega arith)

  -- link i before those that come after it
  put_next : {i : ℕ} {first next : List ℕ} → Chained f n (suc i) first next → n ≤ 384 → f i < 256
      → Chained f n i (set first (f i) i) (set next i (get_or first (f i) 0))
  unfolding from
  put_next {i} {first} {next} c few h = record {
    most = omega (arith, c.most);
    wide = length-set first (f i) i ∙ c.wide;
    long = length-set next i _ ∙ c.long;
    rising = λ k l. rises k l (eqb k i) refl;
    chain = λ j l. subst (λ (m : ℕ). Chain next' (get_or first' j 0) (from (here f j) i m)) more (made j l (eqb (f i) j) refl);
  }
    where
      m : ℕ
      m = n - suc i

      more : suc m ≡ n - i
      more = omega (arith, c.most)

      first' : List ℕ
      first' = set first (f i) i

      next' : List ℕ
      next' = set next i (get_or first (f i) 0)

      low : i < 384
      low = omega (arith, c.most)

      above : (j : ℕ) → Above i (from (here f j) (suc i) m)
      above j = from_above (here f j) i (suc i) m (omega arith)

      old : (j : ℕ) → j < 256 → Chain next' (get_or first j 0) (from (here f j) (suc i) m)
      old j l = chain_set next i (get_or first (f i) 0) (get_or first j 0) (from (here f j) (suc i) m) (above j) (c.chain j l)

      rises : (k : ℕ) → k < 384 → (b : Bool) → eqb k i ≡ b → k < get_or next' k 0
      rises k l true e =
          let q : k ≡ i = eqb-true k i e in
          rw (q, get_or-set_same next i (get_or first (f i) 0) 0 (omega (arith, c.long)))
          (chain_above next i (get_or first (f i) 0) (from (here f (f i)) (suc i) m) low (above (f i)) (c.chain (f i) h))
      rises k l false e = rw (get_or-set_other next i k (get_or first (f i) 0) 0 (λ q. eqb-false k i e q)) (c.rising k l)

      made : (j : ℕ) → j < 256 → (b : Bool) → eqb (f i) j ≡ b → Chain next' (get_or first' j 0) (from (here f j) i (suc m))
      made j l true e =
          let q : f i ≡ j = eqb-true (f i) j e in
          rw (e, ← q, get_or-set_same first (f i) i 0 (omega (arith, c.wide)))
          (refl, low, rw (get_or-set_same next i (get_or first (f i) 0) 0 (omega (arith, c.long))) (subst (λ (x : ℕ). Chain next' (get_or first (f i) 0) (from (here f x) (suc i) m)) q (old (f i) h)))
      made j l false e = rw (e, get_or-set_other first (f i) j i 0 (λ q. eqb-false (f i) j e (sym q))) (old j l)

  pub chained_put : {i : ℕ} {first next : List ℕ} → Chained f n i first next → 0 < i → n ≤ 384 → f (i - 1) < 256
      → Chained f n (i - 1) (set first (f (i - 1)) (i - 1)) (set next (i - 1) (get_or first (f (i - 1)) 0))
  chained_put {i} {first} {next} c some few h =
      let z : i ≡ suc (i - 1) = omega arith in
      put_next (subst (λ (k : ℕ). Chained f n k first next) z c) few h

  pub chained_all : {first next : List ℕ} → Chained f n 0 first next → n ≤ 384 → Chains f n first next
  chained_all {first} {next} c few = record {
    rising = c.rising;
    chain = λ j l.
        let z : n - 0 ≡ n = omega arith in
        let q : from (here f j) 0 (n - 0) ≡ chosen (here f j) n = ap (from (here f j) 0) z ∙ from_all (here f j) n in
        chain_linked 384 next (get_or first j 0) (chosen (here f j) n) (subst (Chain next (get_or first j 0)) q (c.chain j l)) (omega (arith, chosen_few (here f j) n));
  }
