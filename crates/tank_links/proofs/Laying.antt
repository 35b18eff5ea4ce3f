-- The loop that lays the table out: the groups of the tanks passed stand from the first place on, and their places are noted. Assumes nothing.
use Prim.Native.Nat.{ℕ, zero, suc, ◌+◌, ◌≤◌, ◌<◌}
use mathlib.Core.Path.{◌≡◌, refl, sym, ap, ◌∙◌}
use mathlib.Core.List.{List, [], ◌∷◌, ◌++◌}
use mathlib.Core.Logic.{⊎_elim}
use native.Mathlib.Nat.{eq-or-lt_of_le}
use native.Mathlib.Numerals.{add-one}
use native.Mathlib.Omega.{arith}
use lib.ListN.{length, get_or, set, length-append, get_or-append}
use lib.Seq.{sets, get_or_at}
use Rattle.model.specs.declared.link.Link.{Link}
use Rattle.run_tables.specs.Held.{TanksInside, Distinct}
use Rattle.tank_links.specs.Groups.{joined, listed}
use Rattle.tank_links.specs.Chains.{linked, Chains}
use Rattle.tank_links.specs.Laid.{end_in, start_in, into_in, out_of_in, group_in, begin_in, middle_in}
use Rattle.tank_links.proofs.Fitting.{groups_few}
use Rattle.tank_links.proofs.Putting.{sets_append, sets_last}

-- ---- lists one behind the other, and what a function gives
pub length_listed : (f : ℕ → ℕ) (n : ℕ) → length (listed f n) ≡ n
unfolding listed
length_listed f zero = refl
length_listed f (suc n) = omega (arith, length-append (listed f n) (f n ∷ []), length_listed f n)

pub listed_at : (f : ℕ → ℕ) (n k : ℕ) → k < n → get_or (listed f n) k 0 ≡ f k
unfolding listed
listed_at f zero k h = absurd (omega arith)
listed_at f (suc n) k h =
    ⊎_elim
    (λ q. rw q (get_or_at (listed f n) (f n) [] 0 n (length_listed f n)))
    (λ m. get_or-append (listed f n) (f n ∷ []) 0 k (omega (arith, length_listed f n)) ∙ listed_at f n k m)
    (eq-or-lt_of_le (omega arith))

pub listed_same : (f g : ℕ → ℕ) (n : ℕ) → ((k : ℕ) → k < n → f k ≡ g k) → listed f n ≡ listed g n
unfolding listed
listed_same f g zero h = refl
listed_same f g (suc n) h = rw (listed_same f g n (λ k l. h k (omega arith)), h n (omega arith))

pub joined_same : (f g : ℕ → List ℕ) (n : ℕ) → ((k : ℕ) → k < n → f k ≡ g k) → joined f n ≡ joined g n
unfolding joined
joined_same f g zero h = refl
joined_same f g (suc n) h = rw (joined_same f g n (λ k l. h k (omega arith)), h n (omega arith))

pub joined_more : (f : ℕ → List ℕ) (k : ℕ) → length (joined f (suc k)) ≡ length (joined f k) + length (f k)
unfolding joined
joined_more f k = length-append (joined f k) (f k)

-- ---- the places of groups, each of two parts
module _ (into out : ℕ → List ℕ) where
  abbrev pub group : ℕ → List ℕ
  group k = into k ++ out k

  abbrev pub begin : ℕ → ℕ
  begin k = length (joined group k)

  abbrev pub middle : ℕ → ℕ
  middle k = begin k + length (into k)

  pub record Laying (n : ℕ) (begins₀ middles₀ links₀ : List ℕ) (k at : ℕ) (begins middles links : List ℕ) : Type 0 where
    pub most : k ≤ n
    pub to : at ≡ begin k
    pub first : begins ≡ sets begins₀ 0 (listed begin k)
    pub second : middles ≡ sets middles₀ 0 (listed middle k)
    pub made : links ≡ sets links₀ 0 (joined group k)

module _ {into out : ℕ → List ℕ} {n : ℕ} {begins₀ middles₀ links₀ : List ℕ} where
  pub laying_begun : Laying into out n begins₀ middles₀ links₀ 0 0 begins₀ middles₀ links₀
  unfolding joined listed
  laying_begun = record { most = omega arith; to = refl; first = refl; second = refl; made = refl }

  module _ {k at : ℕ} {begins middles links : List ℕ} (y : Laying into out n begins₀ middles₀ links₀ k at begins middles links) where
    pub laying_next : k < n → {mid at' : ℕ} {links' links'' : List ℕ} → mid ≡ at + length (into k) → links' ≡ sets links at (into k)
        → at' ≡ mid + length (out k) → links'' ≡ sets links' mid (out k)
        → Laying into out n begins₀ middles₀ links₀ (k + 1) at' (set begins k at) (set middles k mid) links''
    unfolding joined listed
    laying_next h {mid} {at'} {links'} {links''} m a e b = rw (add-one k) (record {
      most = omega arith;
      to = omega (arith, e, m, y.to, joined_more (group into out) k, length-append (into k) (out k));
      first = ap (λ (xs : List ℕ). set xs k at) y.first ∙ sets_last begins₀ 0 (listed (begin into out) k) at k (sym long_begins) ∙ ap (λ (v : ℕ). sets begins₀ 0 (listed (begin into out) k ++ (v ∷ []))) y.to;
      second = ap (λ (xs : List ℕ). set xs k mid) y.second ∙ sets_last middles₀ 0 (listed (middle into out) k) mid k (sym long_middles) ∙ ap (λ (v : ℕ). sets middles₀ 0 (listed (middle into out) k ++ (v ∷ []))) at_middle;
      made =
          b ∙ ap (λ (xs : List ℕ). sets xs mid (out k)) (a ∙ ap (λ (xs : List ℕ). sets xs at (into k)) y.made)
          ∙ ap (λ (i : ℕ). sets (sets (sets links₀ 0 (joined (group into out) k)) at (into k)) i (out k)) m
          ∙ sets_append (sets links₀ 0 (joined (group into out) k)) at (into k) (out k)
          ∙ ap (λ (i : ℕ). sets (sets links₀ 0 (joined (group into out) k)) i (into k ++ out k)) at_begin
          ∙ sets_append links₀ 0 (joined (group into out) k) (into k ++ out k);
    })
      where
        long_begins : 0 + length (listed (begin into out) k) ≡ k
        long_begins = omega (arith, length_listed (begin into out) k)

        long_middles : 0 + length (listed (middle into out) k) ≡ k
        long_middles = omega (arith, length_listed (middle into out) k)

        at_begin : at ≡ 0 + begin into out k
        at_begin = omega (arith, y.to)

        at_middle : mid ≡ middle into out k
        at_middle = omega (arith, m, y.to)

    pub laying_ended : n ≤ k
        → (set begins n at ≡ sets begins₀ 0 (listed (begin into out) (suc n))) × (middles ≡ sets middles₀ 0 (listed (middle into out) n)) × (links ≡ sets links₀ 0 (joined (group into out) n))
    unfolding listed
    laying_ended h =
        let z : k ≡ n = omega (arith, y.most) in (
          ap (λ (xs : List ℕ). set xs n at) y.first
              ∙ ap (λ (i : ℕ). set (sets begins₀ 0 (listed (begin into out) i)) n at) z
              ∙ sets_last begins₀ 0 (listed (begin into out) n) at n (omega (arith, length_listed (begin into out) n))
              ∙ ap (λ (v : ℕ). sets begins₀ 0 (listed (begin into out) n ++ (v ∷ []))) (y.to ∙ ap (begin into out) z),
          y.second ∙ ap (λ (i : ℕ). sets middles₀ 0 (listed (middle into out) i)) z,
          y.made ∙ ap (λ (i : ℕ). sets links₀ 0 (joined (group into out) i)) z,
        )

-- ---- the same parts have the same places
module _ (into out into' out' : ℕ → List ℕ) (n : ℕ) (a : (k : ℕ) → k < n → into k ≡ into' k) (b : (k : ℕ) → k < n → out k ≡ out' k) where
  pub group_same : (k : ℕ) → k ≤ n → joined (group into out) k ≡ joined (group into' out') k
  group_same k h = joined_same (group into out) (group into' out') k (λ m l. rw (a m (omega arith), b m (omega arith)))

  pub begins_same : listed (begin into out) (suc n) ≡ listed (begin into' out') (suc n)
  begins_same = listed_same (begin into out) (begin into' out') (suc n) (λ k l. ap length (group_same k (omega arith)))

  pub middles_same : listed (middle into out) n ≡ listed (middle into' out') n
  middles_same = listed_same (middle into out) (middle into' out') n (λ k l. rw (group_same k (omega arith), a k l))

-- ---- the parts as the chains give them
abbrev pub on_chain : List ℕ → List ℕ → List ℕ → ℕ → List ℕ
on_chain first next nodes k = linked 384 next (get_or first (get_or nodes k 0) 0)

module _ (table : List Link) {count : ℕ} {nodes : List ℕ} {n : ℕ} {into next-into out next-out : List ℕ}
    (a : Chains (end_in table) count into next-into) (b : Chains (start_in table) count out next-out) (inside : TanksInside nodes n) where
  on_into : (k : ℕ) → k < n → on_chain into next-into nodes k ≡ into_in table count nodes k
  on_into k l = a.chain (get_or nodes k 0) (inside.node k l)

  on_out : (k : ℕ) → k < n → on_chain out next-out nodes k ≡ out_of_in table count nodes k
  on_out k l = b.chain (get_or nodes k 0) (inside.node k l)

  module _ (distinct : Distinct nodes n) (few : count ≤ 384) where
    place_fits : (k : ℕ) → k ≤ n → begin (on_chain into next-into nodes) (on_chain out next-out nodes) k ≤ 768
    place_fits k l =
        omega (
          arith,
          ap length (group_same (on_chain into next-into nodes) (on_chain out next-out nodes) (into_in table count nodes) (out_of_in table count nodes) n on_into on_out k l),
          groups_few table count nodes n distinct few k l,
        )

    module _ {begins₀ middles₀ links₀ : List ℕ} {k at : ℕ} {begins middles links : List ℕ}
        (y : Laying (on_chain into next-into nodes) (on_chain out next-out nodes) n begins₀ middles₀ links₀ k at begins middles links) where
      -- the place reached fits, and so does the next group
      pub fits_here : at ≤ 768
      fits_here = omega (arith, y.to, place_fits k y.most)

      pub next_fits : k < n → at + length (on_chain into next-into nodes k) + length (on_chain out next-out nodes k) ≤ 768
      next_fits l =
          omega (
            arith,
            y.to,
            place_fits (suc k) l,
            joined_more (group (on_chain into next-into nodes) (on_chain out next-out nodes)) k,
            length-append (on_chain into next-into nodes k) (on_chain out next-out nodes k),
          )

      -- what is laid out in the end, by the table of links
      pub laid :
          n ≤ k
          → (set begins n at ≡ sets begins₀ 0 (listed (begin_in table count nodes) (suc n)))
          × (middles ≡ sets middles₀ 0 (listed (middle_in table count nodes) n))
          × (links ≡ sets links₀ 0 (joined (group_in table count nodes) n))
      laid h =
          let e = laying_ended y h in
          let I = on_chain into next-into nodes in
          let O = on_chain out next-out nodes in
          let J = into_in table count nodes in
          let P = out_of_in table count nodes in (
            e.0 ∙ ap (sets begins₀ 0) (begins_same I O J P n on_into on_out),
            e.1 ∙ ap (sets middles₀ 0) (middles_same I O J P n on_into on_out),
            e.2 ∙ ap (sets links₀ 0) (group_same I O J P n on_into on_out n (omega arith)),
          )
