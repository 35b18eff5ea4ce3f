-- Loops that act on each entry of a list by itself: what they leave at one entry is the same loop there. Lists with the same entries are one list.
-- Assumes nothing.
use Prim.Native.Nat.{ℕ, zero, suc, ◌≤◌, ◌<◌}
use mathlib.Core.Path.{◌≡◌, refl, sym, ap, ◌∙◌}
use mathlib.Core.Bool.{Bool, true, false, cond}
use mathlib.Core.List.{List, [], ◌∷◌, map}
use native.Mathlib.Omega.{arith}
use lib.Dec.{eqb, ltb}
use borrow.Author.Tests.{eqb-true, eqb-false, ltb-true, ltb-false, lt-ltb, le-ltb}
use lib.ListN.{length, get_or, set, length-set}
use lib.Seq.{get_or-set_same, get_or-set_other}
use Rattle.model.specs.Loops.{through}
use Rattle.model.specs.declared.state.NodeState.{NodeState}
use Rattle.model.specs.declared.state.State.{State}
use Rattle.model.proofs.Keeps.{keeps}

-- ---- one loop for another, turn by turn
pub same_turns : {S : Type 0} (n : ℕ) (f g : ℕ → S → S) (s : S) → ((k : ℕ) (t : S) → k < n → f k t ≡ g k t) → through n f s ≡ through n g s
unfolding through
same_turns zero f g s h = refl
same_turns (suc n) f g s h = h n (through n f s) (omega arith) ∙ ap (g n) (same_turns n f g s (λ k t l. h k t (omega arith)))

-- a loop whose turns do nothing
pub idle : {S : Type 0} (n : ℕ) (f : ℕ → S → S) (s : S) → ((k : ℕ) → k < n → f k s ≡ s) → through n f s ≡ s
unfolding through
idle zero f s h = refl
idle (suc n) f s h = ap (f n) (idle n f s (λ k l. h k (omega arith))) ∙ h n (omega arith)

-- a loop on what g makes of a value, where each turn may use what every turn keeps
pub carried_keeping :
    {A B : Type 0} (g : A → B) (P : A → Type 0) (n : ℕ) (f : ℕ → B → B) (h : ℕ → A → A) (a : A) → P a
    → ((k : ℕ) (x : A) → k < n → P x → P (h k x))
    → ((k : ℕ) (x : A) → k < n → P x → f k (g x) ≡ g (h k x))
    → through n f (g a) ≡ g (through n h a)
unfolding through
carried_keeping g P zero f h a b keep e = refl
carried_keeping g P (suc n) f h a b keep e =
    ap (f n) (carried_keeping g P n f h a b (λ k x l. keep k x (omega arith)) (λ k x l. e k x (omega arith)))
    ∙ e n (through n h a) (omega arith) (keeps (λ i. P) h a n b (λ i t l q. keep i t (omega arith) q))

pub carried : {A B : Type 0} (g : A → B) (n : ℕ) (f : ℕ → B → B) (h : ℕ → A → A) (a : A) → ((k : ℕ) (x : A) → k < n → f k (g x) ≡ g (h k x)) → through n f (g a) ≡ g (through n h a)
carried g n f h a e = carried_keeping g (λ x. Unit {0}) n f h a tt (λ k x l q. tt) (λ k x l q. e k x l)

-- a store, seen through what g makes of an entry
pub map_set : {A B : Type 0} (g : A → B) (l : List A) (i : ℕ) (a : A) → map g (set l i a) ≡ set (map g l) i (g a)
map_set g [] i a = refl
map_set g (x ∷ l) zero a = refl
map_set g (x ∷ l) (suc i) a = ap (λ (ys : List _). g x ∷ ys) (map_set g l i a)

module _ {A : Type 0} (d : A) where
  -- an entry put in place of what f makes of it
  abbrev pub put_at : ℕ → (A → A) → List A → List A
  put_at i f xs = set xs i (f (get_or xs i d))

  pub put_at_lem : (xs : List A) (i j : ℕ) (f : A → A) → i < length xs → get_or (put_at i f xs) j d ≡ cond (eqb i j) (f (get_or xs j d)) (get_or xs j d)
  put_at_lem xs i j f l = go (eqb i j) refl
    where
      go : (b : Bool) → eqb i j ≡ b → get_or (set xs i (f (get_or xs i d))) j d ≡ cond b (f (get_or xs j d)) (get_or xs j d)
      go true e = let q : i ≡ j = eqb-true i j e in rw (← q) (get_or-set_same xs i (f (get_or xs i d)) d l)
      go false e = get_or-set_other xs i j (f (get_or xs i d)) d (λ q. eqb-false i j e (sym q))

  pub kept_length : (n : ℕ) (F : ℕ → List A → List A) → ((k : ℕ) (xs : List A) → length (F k xs) ≡ length xs) → (xs : List A) → length (through n F xs) ≡ length xs
  unfolding through
  kept_length zero F l xs = refl
  kept_length (suc n) F l xs = l n (through n F xs) ∙ kept_length n F l xs

  -- F acts at entry j as h does
  pub at_entry : (n : ℕ) (F : ℕ → List A → List A) (h : ℕ → A → A) (j : ℕ) → ((k : ℕ) (xs : List A) → length (F k xs) ≡ length xs)
      → (xs : List A) → ((k : ℕ) (ys : List A) → k < n → length ys ≡ length xs → get_or (F k ys) j d ≡ h k (get_or ys j d))
      → get_or (through n F xs) j d ≡ through n h (get_or xs j d)
  unfolding through
  at_entry zero F h j l xs a = refl
  at_entry (suc n) F h j l xs a =
      a n (through n F xs) (omega arith) (kept_length n F l xs)
      ∙ ap (h n) (at_entry n F h j l xs (λ k ys q. a k ys (omega arith)))

-- a loop that acts at j only in turn j
pub hit : {S : Type 0} (n j : ℕ) (g : ℕ → S → S) (s : S) → through n (λ i x. cond (eqb i j) (g i x) x) s ≡ cond (ltb j n) (g j s) s
unfolding through
hit zero j g s = rw (le-ltb j 0 (omega arith))
hit {S} (suc n) j g s = go (through n (λ i x. cond (eqb i j) (g i x) x) s) (hit n j g s) (eqb n j) refl
  where
    go : (before : S) → before ≡ cond (ltb j n) (g j s) s → (a : Bool) → eqb n j ≡ a → cond a (g n before) before ≡ cond (ltb j (suc n)) (g j s) s
    go before r true e =
        let q : n ≡ j = eqb-true n j e in
        rw (r, q, le-ltb j j (omega arith), lt-ltb j (suc j) (omega arith))
    go before r false e =
        let m : n ≡ j → ⊥ = eqb-false n j e in
        r ∙ ap (λ (b : Bool). cond b (g j s) s) (lower (ltb j n) refl m)
      where
        lower : (b : Bool) → ltb j n ≡ b → (n ≡ j → ⊥) → b ≡ ltb j (suc n)
        lower true f m = let l : j < n = ltb-true j n f in sym (lt-ltb j (suc n) (omega arith))
        lower false f m = let l : n ≤ j = ltb-false j n f in sym (le-ltb j (suc n) (omega arith))

-- a loop that puts g i of what stood there at each entry i below n
pub each_at : {A : Type 0} (d : A) (n : ℕ) (g : ℕ → A → A) (xs : List A) → n ≤ length xs → (j : ℕ)
    → get_or (through n (λ i. put_at d i (g i)) xs) j d ≡ cond (ltb j n) (g j (get_or xs j d)) (get_or xs j d)
each_at d n g xs m j =
    at_entry d n (λ i. put_at d i (g i)) (λ i y. cond (eqb i j) (g i y) y) j (λ k ys. length-set ys k _) xs
    (λ k ys l e. put_at_lem d ys k j (g k) (omega arith))
    ∙ hit n j g (get_or xs j d)

-- ---- a loop over a state that changes only its nodes
abbrev pub on_nodes : State → List NodeState → State
on_nodes s xs = record { nodes = xs; links = s.links; clock = s.clock }

pub nodes_only : (n : ℕ) (F : ℕ → State → State) (G : ℕ → List NodeState → List NodeState) (s : State)
    → ((k : ℕ) (xs : List NodeState) → F k (on_nodes s xs) ≡ on_nodes s (G k xs)) → (xs : List NodeState) → through n F (on_nodes s xs) ≡ on_nodes s (through n G xs)
unfolding through
nodes_only zero F G s h xs = refl
nodes_only (suc n) F G s h xs = ap (F n) (nodes_only n F G s h xs) ∙ h n (through n G xs)
