-- A list put into an array from a place on, one after the other, and the loop that does so along a chain. Assumes nothing.
use Prim.Native.Nat.{ℕ, zero, suc, ◌+◌, ◌≤◌, ◌<◌}
use mathlib.Core.Path.{◌≡◌, refl, sym, ap, ◌∙◌}
use mathlib.Core.List.{List, [], ◌∷◌, ◌++◌, append-nil, append_assoc}
use native.Mathlib.Omega.{arith}
use borrow.Author.Tests.{lt-ltb, le-ltb}
use lib.ListN.{length, get_or, set, length-append, get_or-append}
use lib.Seq.{sets, sets-eq}
use Rattle.tank_links.specs.Chains.{Rising, linked}

pub sets_append : (l : List ℕ) (i : ℕ) (xs ys : List ℕ) → sets (sets l i xs) (i + length xs) ys ≡ sets l i (xs ++ ys)
sets_append l i [] ys = let z : i + 0 ≡ i = omega arith in ap (λ (n : ℕ). sets l n ys) z
sets_append l i (x ∷ xs) ys =
    let z : i + suc (length xs) ≡ suc i + length xs = omega arith in
    ap (λ (n : ℕ). sets (sets (set l i x) (suc i) xs) n ys) z ∙ sets_append (set l i x) (suc i) xs ys

-- one more behind them
pub sets_last : (l : List ℕ) (i : ℕ) (xs : List ℕ) (v n : ℕ) → n ≡ i + length xs → set (sets l i xs) n v ≡ sets l i (xs ++ (v ∷ []))
sets_last l i xs v n e = ap (λ (m : ℕ). set (sets l i xs) m v) e ∙ sets_append l i xs (v ∷ [])

-- what stands there
pub sets_at : (l xs : List ℕ) (i : ℕ) → length xs ≤ length l → i < length xs → get_or (sets l 0 xs) i 0 ≡ get_or xs i 0
sets_at l xs i room h = ap (λ (ys : List ℕ). get_or ys i 0) (sets-eq xs l 0 (omega arith)) ∙ get_or-append xs _ 0 i h

-- ---- along a chain: `front` of it is put
pub record Putting (next links₀ : List ℕ) (first at l place : ℕ) (links : List ℕ) : Type 0 where
  pub front : List ℕ
  pub fuel : ℕ
  pub enough : 384 ≤ fuel + l
  pub whole : front ++ linked fuel next l ≡ linked 384 next first
  pub to : place ≡ at + length front
  pub made : links ≡ sets links₀ at front

linked_one : (n : ℕ) (next : List ℕ) (l : ℕ) → l < 384 → linked (suc n) next l ≡ l ∷ linked n next (get_or next l 0)
unfolding linked
linked_one n next l h = rw (lt-ltb l 384 h)

linked_none : (n : ℕ) (next : List ℕ) (l : ℕ) → 384 ≤ l → linked n next l ≡ []
unfolding linked
linked_none zero next l h = refl
linked_none (suc n) next l h = rw (le-ltb l 384 h)

module _ {next links₀ : List ℕ} {first at : ℕ} where
  pub putting_begun : Putting next links₀ first at first at links₀
  putting_begun = record { front = []; fuel = 384; enough = omega arith; whole = refl; to = omega arith; made = refl }

  module _ {l place : ℕ} {links : List ℕ} (p : Putting next links₀ first at l place links) where
    -- there is room for the next
    pub putting_room : l < 384 → at + length (linked 384 next first) ≤ 768 → place < 768
    putting_room h room = by p.fuel p.enough p.whole
      where
        by : (n : ℕ) → 384 ≤ n + l → p.front ++ linked n next l ≡ linked 384 next first → place < 768
        by zero e w = absurd (omega arith)
        by (suc n) e w =
            omega (arith, p.to, room, ap length (sym w), length-append p.front (linked (suc n) next l), ap length (linked_one n next l h))

    pub putting_next : l < 384 → Rising next → Putting next links₀ first at (get_or next l 0) (place + 1) (set links place l)
    putting_next h rising = by p.fuel p.enough p.whole
      where
        by : (n : ℕ) → 384 ≤ n + l → p.front ++ linked n next l ≡ linked 384 next first → Putting next links₀ first at (get_or next l 0) (place + 1) (set links place l)
        by zero e w = absurd (omega arith)
        by (suc n) e w = record {
          front = p.front ++ (l ∷ []);
          fuel = n;
          enough = omega (arith, rising l h);
          whole =
              append_assoc p.front (l ∷ []) (linked n next (get_or next l 0))
              ∙ ap (λ (ys : List ℕ). p.front ++ ys) (sym (linked_one n next l h))
              ∙ w;
          to = omega (arith, p.to, length-append p.front (l ∷ []));
          made = ap (λ (xs : List ℕ). set xs place l) p.made ∙ sets_last links₀ at p.front l place p.to;
        }

    pub putting_ended : 384 ≤ l → (place ≡ at + length (linked 384 next first)) × (links ≡ sets links₀ at (linked 384 next first))
    putting_ended h =
        let q : p.front ≡ linked 384 next first = sym (append-nil p.front) ∙ ap (λ (ys : List ℕ). p.front ++ ys) (sym (linked_none p.fuel next l h)) ∙ p.whole in
        (p.to ∙ ap (λ (ys : List ℕ). at + length ys) q, p.made ∙ ap (sets links₀ at) q)
