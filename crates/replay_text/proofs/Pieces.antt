-- Pieces of a line put one behind the other, and how long they are. Assumes nothing.
use Prim.Native.Nat.{ℕ, zero, suc, ◌+◌, ◌*◌, ◌/◌, ◌%◌, min, ◌≤◌}
use mathlib.Core.Path.{◌≡◌, refl, sym, ap, ◌∙◌}
use mathlib.Core.Bool.{Bool, true, false, cond, ◌||◌}
use mathlib.Core.List.{List, [], ◌∷◌, ◌++◌}
use native.Mathlib.Numerals.{add-one}
use native.Mathlib.Omega.{arith}
use lib.Dec.{eqb}
use lib.Ieee.{Float}
use lib.ListN.{length, length-append}
use Rattle.listing.specs.Numbers.{decimal_text}
use Rattle.listing.specs.Text.{pasted, put, after}
use Rattle.listing.proofs.Digits.{digits_count}
use Rattle.listing.proofs.HexDigits.{hex_length}
use Rattle.listing.proofs.Pasting.{put_fits, pasted_length, pasted_more}
use Rattle.model.specs.Blank.{node_state_at, link_state_at}
use Rattle.model.specs.declared.project.Counts.{Counts}
use Rattle.model.specs.declared.state.LinkState.{LinkState}
use Rattle.model.specs.declared.state.NodeState.{NodeState}
use Rattle.model.specs.declared.state.State.{State}
use Rattle.replay_text.specs.Lines.{word_text, number_text, node_text, link_text, nodes_text, links_text, state_text, name_text, truth_text, given_text, refused_text, answer_text}

-- ---- one piece, and two
module _ (buf : List ℕ) (at : ℕ) where
  pub both : (a b : List ℕ) {mid now : List ℕ} {i j : ℕ} → at + (length a + length b) ≤ length buf → (i ≡ at + length a) × (mid ≡ pasted buf at a)
      → (j ≡ i + length b) × (now ≡ pasted mid i b) → (j ≡ at + length (a ++ b)) × (now ≡ pasted buf at (a ++ b))
  both a b {mid} {now} {i} {j} h p q =
      let room : at + length a ≤ length buf = omega arith in
      (omega (arith, p.0, q.0, length-append a b), q.1 ∙ rw (p.1, p.0) (pasted_more buf at a room b))

  -- the same where the second is put by a call that asks for room
  pub both_put : (a b : List ℕ) {mid now : List ℕ} {i j : ℕ} → at + (length a + length b) ≤ length buf → (i ≡ at + length a) × (mid ≡ pasted buf at a)
      → j ≡ after mid i b → now ≡ put mid i b → (j ≡ at + length (a ++ b)) × (now ≡ pasted buf at (a ++ b))
  both_put a b {mid} {now} {i} {j} h p e q =
      let room : at + length a ≤ length buf = omega arith in
      let same : length mid ≡ length buf = ap length p.1 ∙ pasted_length buf at a room in
      let f = put_fits {buf = mid} {at = i} b {now = now} {r = j} (omega (arith, p.0, same)) e q in
      both a b h p (f.place, f.made)

-- one piece after another is both of them at once
pub pasted_both : (buf : List ℕ) (at : ℕ) (a b : List ℕ) (i : ℕ) → i ≡ at + length a → at + length a ≤ length buf → pasted (pasted buf at a) i b ≡ pasted buf at (a ++ b)
pasted_both buf at a b i e room = rw e (pasted_more buf at a room b)

pub pasted_three : (buf : List ℕ) (at : ℕ) (a b d : List ℕ) (i j : ℕ) → i ≡ at + length a → j ≡ i + length b → at + (length a + length b) ≤ length buf
    → pasted (pasted (pasted buf at a) i b) j d ≡ pasted buf at ((a ++ b) ++ d)
pasted_three buf at a b d i j e q room =
    let n : length (a ++ b) ≡ length a + length b = length-append a b in
    rw (pasted_both buf at a b i e (omega arith)) (pasted_both buf at (a ++ b) d j (omega arith) (omega arith))

pub decimal_short : (n : ℕ) → length (decimal_text n) ≤ 10
decimal_short n = (digits_count 9 n).1

-- ---- the words of a state
pub word_length : (w : ℕ) → length (word_text w) ≡ 17
unfolding word_text
word_length w = sym (hex_length (w % 4294967296) (w / 4294967296))

pub number_length : (x : Float) → length (number_text x) ≡ 17
unfolding number_text
number_length x = word_length _

three : (a b c : List ℕ) → length a ≡ 17 → length b ≡ 17 → length c ≡ 17 → length ((a ++ b) ++ c) ≡ 51
three a b c p q r = omega (arith, p, q, r, length-append (a ++ b) c, length-append a b)

pub node_length : (x : NodeState) → length (node_text x) ≡ 51
unfolding node_text
node_length x =
    three (number_text x.head) (number_text x.demand) (number_text x.demand_flow) (number_length x.head) (number_length x.demand) (number_length x.demand_flow)

pub link_length : (x : LinkState) → length (link_text x) ≡ 51
unfolding link_text
link_length x =
    three (number_text x.flow) (word_text x.status) (number_text x.setting) (number_length x.flow) (word_length x.status) (number_length x.setting)

pub nodes_length : (n : ℕ) (s : State) → length (nodes_text n s) ≡ n * 51
unfolding nodes_text
nodes_length zero s = refl
nodes_length (suc n) s = omega (arith, nodes_length n s, node_length (node_state_at s n), length-append (nodes_text n s) (node_text (node_state_at s n)))

pub links_length : (n : ℕ) (s : State) → length (links_text n s) ≡ n * 51
unfolding links_text
links_length zero s = refl
links_length (suc n) s = omega (arith, links_length n s, link_length (link_state_at s n), length-append (links_text n s) (link_text (link_state_at s n)))

-- one node and one link more
pub nodes_more : (n : ℕ) (s : State) → nodes_text n s ++ node_text (node_state_at s n) ≡ nodes_text (n + 1) s
unfolding nodes_text
nodes_more n s = rw add-one

pub links_more : (n : ℕ) (s : State) → links_text n s ++ link_text (link_state_at s n) ≡ links_text (n + 1) s
unfolding links_text
links_more n s = rw add-one

-- ---- what a call answered
either_short : (m : ℕ) (b : Bool) (x y : List ℕ) → length x ≤ m → length y ≤ m → length (cond b x y) ≤ m
either_short m true x y p q = p
either_short m false x y p q = q

module _ (code : ℕ) where
  pub name_short : length (name_text code) ≤ 9
  unfolding name_text
  name_short =
      either_short 9 (eqb code 1) _ _ (omega arith)
      (either_short 9 (eqb code 2) _ _ (omega arith)
      (either_short 9 (eqb code 3) _ _ (omega arith)
      (either_short 9 (eqb code 4 || eqb code 9) _ _ (omega arith)
      (either_short 9 (eqb code 5) _ _ (omega arith) (either_short 9 (eqb code 6) _ _ (omega arith) (either_short 9 (eqb code 7) _ _ (omega arith) (omega arith)))))))

pub truth_short : (b : Bool) → length (truth_text b) ≤ 5
unfolding truth_text
truth_short true = omega arith
truth_short false = omega arith

module _ (code seconds : ℕ) (truth : Bool) where
  pub given_short : length (given_text code seconds truth) ≤ 10
  unfolding given_text
  given_short =
      let t : length (truth_text truth) ≤ 10 = omega (arith, truth_short truth) in
      either_short 10 (eqb code 7 || eqb code 8) _ _ (digits_count 9 seconds).1 (either_short 10 (eqb code 6) _ _ t (either_short 10 (eqb code 5) _ _ t (omega arith)))

pub refused_short : (number : ℕ) → length (refused_text number) ≤ 18
unfolding refused_text
refused_short number = omega (arith, (digits_count 9 number).1, length-append (114 ∷ 101 ∷ 102 ∷ 117 ∷ 115 ∷ 101 ∷ 100 ∷ 61 ∷ []) (decimal_text number))

pub answer_short : (code number seconds : ℕ) (truth : Bool) → length (answer_text code number seconds truth) ≤ 27
unfolding answer_text
answer_short code number seconds truth =
    let given : length (given_text code seconds truth) ≤ 18 = omega (arith, given_short code seconds truth) in
    let rest : length (cond (eqb number 0) (given_text code seconds truth) (refused_text number)) ≤ 18 = either_short 18 (eqb number 0) _ _ given (refused_short number) in
    omega (arith, rest, name_short code, length-append (name_text code) (cond (eqb number 0) (given_text code seconds truth) (refused_text number)))

-- ---- a state, and a line
pub state_short : (c : Counts) (s : State) → length (state_text c s) ≤ 32675
unfolding state_text
state_short c s =
    let a = word_text s.clock.instant in
    let b = word_text s.clock.count in
    let x = nodes_text (min c.nodes 256) s in
    let y = links_text (min c.links 384) s in
    omega (arith, word_length s.clock.instant, word_length s.clock.count, length-append a b, length-append (a ++ b) x, length-append ((a ++ b) ++ x) y, length-append (((a ++ b) ++ x) ++ y) (10 ∷ []), nodes_length (min c.nodes 256) s, links_length (min c.links 384) s)

module _ (buf : List ℕ) (at : ℕ) (c : Counts) (s : State) {nodes links : ℕ} (few : nodes ≡ min c.nodes 256) (few_links : links ≡ min c.links 384) (room : at + 32675 ≤ length buf) where
  abbrev instant_text : List ℕ
  instant_text = word_text s.clock.instant

  abbrev count_text : List ℕ
  count_text = word_text s.clock.count

  -- the two words, the nodes, the links and the line's end, one behind the other
  pub state_put : {m₁ m₂ m₃ m₄ now : List ℕ} {i j k l r : ℕ}
      → (i ≡ at + length instant_text) × (m₁ ≡ pasted buf at instant_text)
      → (j ≡ i + length count_text) × (m₂ ≡ pasted m₁ i count_text)
      → (k ≡ j + length (nodes_text nodes s)) × (m₃ ≡ pasted m₂ j (nodes_text nodes s))
      → (l ≡ k + length (links_text links s)) × (m₄ ≡ pasted m₃ k (links_text links s))
      → r ≡ after m₄ l (10 ∷ []) → now ≡ put m₄ l (10 ∷ [])
      → (r ≡ at + length (state_text c s)) × (now ≡ pasted buf at (state_text c s))
  unfolding state_text
  state_put p q n m e f =
      let a = instant_text in
      let b = count_text in
      let x = nodes_text nodes s in
      let y = links_text links s in
      let ab = length-append a b in
      let abx = length-append (a ++ b) x in
      let abxy = length-append ((a ++ b) ++ x) y in
      let u = word_length s.clock.instant in
      let v = word_length s.clock.count in
      let w = nodes_length nodes s in
      let z = links_length links s in
      let two = both buf at a b (omega (arith, room, u, v)) p q in
      let three = both buf at (a ++ b) x (omega (arith, room, u, v, w, ab, few)) two n in
      let four = both buf at ((a ++ b) ++ x) y (omega (arith, room, u, v, w, z, ab, abx, few, few_links)) three m in
      rw (← few, ← few_links) (both_put buf at (((a ++ b) ++ x) ++ y) (10 ∷ []) (omega (arith, room, u, v, w, z, ab, abx, abxy, few, few_links)) four e f)
