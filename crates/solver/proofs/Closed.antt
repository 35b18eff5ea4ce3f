-- The statuses that closing by the table of the tanks' links leaves are those of `close_links`. A closing marks links; marking by one test and then by
-- another is marking by either, so both come down to one marking, and its tests agree link by link. Assumes nothing.
use Prim.Native.Nat.{ℕ, zero, suc, ◌+◌, ◌-◌, ◌≤◌, ◌<◌}
use mathlib.Core.Path.{◌≡◌, refl, sym, ap, ◌∙◌}
use mathlib.Core.Bool.{Bool, true, false, cond, ◌&&◌, ◌||◌, true≢false, or-false, or_comm}
use mathlib.Core.List.{List, map}
use native.Mathlib.Omega.{arith}
use borrow.Author.Tests.{eqb-true, eqb-false, eq-eqb, ne_eqb, lt-ltb}
use lib.Dec.{eqb, ltb}
use lib.Ieee.{Float, nan, lt}
use lib.ListN.{length, get_or, set, length-set, length-map, get_or-map}
use lib.Seq.{ext_get_or, set-get_or, map-set_same}
use Rattle.number.specs.Constants.{decimal}
use Rattle.model.specs.Blank.{node_at, link_at, node_state_at, link_state_at, blank_node_state, blank_link_state}
use Rattle.model.specs.Links.{TempClosed}
use Rattle.model.specs.Loops.{through}
use Rattle.model.specs.Nodes.{is_tank, is_tank_type}
use Rattle.model.specs.declared.node.Node.{Node}
use Rattle.model.specs.declared.node.NodeType.{NodeType}
use Rattle.model.specs.declared.node.NodeType.TheVariants.{Reservoir, Tank, Junction}
use Rattle.model.specs.declared.project.Project.{Project}
use Rattle.model.specs.declared.state.LinkState.{LinkState}
use Rattle.model.specs.declared.state.NodeState.{NodeState}
use Rattle.model.specs.declared.state.State.{State}
use Rattle.model.proofs.Pointwise.{same_turns, idle, carried_keeping, map_set, put_at, kept_length, hit, each_at}
use Rattle.tables.specs.Fit.{TablesFit}
use Rattle.tank.specs.declared.tank.Tank as tanks
use Rattle.state_link.specs.Closing.{fill_closed, empty_closed, closes_into, closes_out_of, closed}
use Rattle.solver.specs.Closing.{link_closed, close_links}
use Rattle.run_state.specs.Lists.{head_of, heads_of, flow_of, status_of}
use Rattle.run_tables.specs.Rows.{tank_at}
use Rattle.run_tables.specs.Chosen.{chosen}
use Rattle.run_tables.specs.Held.{Part, TanksLaid}
use Rattle.run_tables.specs.Tanks.{tank_nodes}
use Rattle.run_closing.specs.Closing.{marked, link_marked, part_closed, group_closed, links_closed}
use Rattle.tank_links.specs.Laid.{GroupsLaid}
use Rattle.run_tables.proofs.Along.{chosen_along, chosen_cond, held_along, part_along}
use Rattle.solver.proofs.Summed.{same_flow}

-- ---- marking
abbrev mark_at : (ℕ → Bool) → ℕ → List ℕ → List ℕ
mark_at c l = put_at 0 l (λ x. cond (c l) TempClosed x)

abbrev mark_all : ℕ → (ℕ → Bool) → List ℕ → List ℕ
mark_all L c st = through L (mark_at c) st

mark_length : (L : ℕ) (c : ℕ → Bool) (st : List ℕ) → length (mark_all L c st) ≡ length st
mark_length L c st = kept_length 0 L (mark_at c) (λ k xs. length-set xs k _) st

mark_at_lem : (L : ℕ) (c : ℕ → Bool) (st : List ℕ) → L ≤ length st → (l : ℕ) → get_or (mark_all L c st) l 0 ≡ cond (ltb l L) (cond (c l) TempClosed (get_or st l 0)) (get_or st l 0)
mark_at_lem L c st h l = each_at 0 L (λ i x. cond (c i) TempClosed x) st h l

either : (i c d : Bool) (x : ℕ) → cond i (cond c TempClosed (cond i (cond d TempClosed x) x)) (cond i (cond d TempClosed x) x) ≡ cond i (cond (d || c) TempClosed x) x
either false c d x = refl
either true true true x = refl
either true true false x = refl
either true false true x = refl
either true false false x = refl

mark_twice : (L : ℕ) (c d : ℕ → Bool) (st : List ℕ) → L ≤ length st → mark_all L c (mark_all L d st) ≡ mark_all L (λ l. d l || c l) st
mark_twice L c d st h =
    ext_get_or 0 (mark_all L c (mark_all L d st)) (mark_all L (λ l. d l || c l) st)
    (mark_length L c (mark_all L d st) ∙ mark_length L d st ∙ sym (mark_length L (λ l. d l || c l) st))
    (λ l k.
    mark_at_lem L c (mark_all L d st) (omega (arith, mark_length L d st)) l
    ∙ ap (λ (y : ℕ). cond (ltb l L) (cond (c l) TempClosed y) y) (mark_at_lem L d st h l)
    ∙ either (ltb l L) (c l) (d l) (get_or st l 0)
    ∙ sym (mark_at_lem L (λ i. d i || c i) st h l))

-- whether a test holds below n
unfoldable any : ℕ → (ℕ → Bool) → Bool
any n h = through n (λ k found. found || h k) false

-- closings one after the other, each a marking
mark_all_lem : (L : ℕ) (G : ℕ → ℕ → Bool) (F : ℕ → List ℕ → List ℕ) (st : List ℕ) → L ≤ length st → (n : ℕ)
    → ((k : ℕ) (ys : List ℕ) → k < n → L ≤ length ys → F k ys ≡ mark_all L (G k) ys)
    → through n F st ≡ mark_all L (λ l. any n (λ k. G k l)) st
unfolding through any
mark_all_lem L G F st h zero e = sym (idle L (mark_at (λ l. false)) st (λ k l. set-get_or st k 0))
mark_all_lem L G F st h (suc n) e =
    ap (F n) (mark_all_lem L G F st h n (λ k ys l. e k ys (omega arith)))
    ∙ e n (mark_all L (λ l. any n (λ k. G k l)) st) (omega arith) (omega (arith, mark_length L (λ l. any n (λ k. G k l)) st))
    ∙ mark_twice L (G n) (λ l. any n (λ k. G k l)) st h

-- ---- a test below n
or_four : (a b x y : Bool) → ((a || b) || (x || y)) ≡ ((a || x) || (b || y))
or_four true b x y = refl
or_four false true true y = refl
or_four false true false y = refl
or_four false false true y = refl
or_four false false false y = refl

any_or : (n : ℕ) (f g : ℕ → Bool) → any n (λ j. f j || g j) ≡ (any n f || any n g)
unfolding any through
any_or zero f g = refl
any_or (suc n) f g = ap (λ (b : Bool). b || (f n || g n)) (any_or n f g) ∙ or_four (any n f) (any n g) (f n) (g n)

eqb_swap : (a b : ℕ) → eqb a b ≡ eqb b a
eqb_swap a b = by (eqb a b) refl
  where
    by : (c : Bool) → eqb a b ≡ c → c ≡ eqb b a
    by true e = sym (eq-eqb b a (sym (eqb-true a b e)))
    by false e = sym (ne_eqb b a (λ q. eqb-false a b e (sym q)))

any_hit : (n e : ℕ) (f : ℕ → Bool) → e < n → any n (λ j. eqb e j && f j) ≡ f e
unfolding any
any_hit n e f h =
    same_turns n (λ j found. found || (eqb e j && f j)) (λ j found. cond (eqb j e) (found || f j) found) false
    (λ j found l. ap (λ (b : Bool). found || (b && f j)) (eqb_swap e j) ∙ by (eqb j e) found (f j))
    ∙ hit n e (λ j found. found || f j) false
    ∙ ap (λ (b : Bool). cond b (false || f e) false) (lt-ltb e n h)
  where
    by : (b found x : Bool) → (found || (b && x)) ≡ cond b (found || x) found
    by true found x = refl
    by false found x = or-false found

-- ---- one tank's group
into_is : (t : tanks.Tank) (k : NodeType) (x : NodeState) (head flow f : Float) → k ≡ Tank t → head ≡ x.head → flow ≡ f
    → (fill_closed t head && lt (decimal 0 0) flow || empty_closed t head && lt flow (decimal 0 0)) ≡ closes_into k x f
unfolding closes_into
into_is t k x head flow f e h q = rw (e, h, q)

out_is : (t : tanks.Tank) (k : NodeType) (x : NodeState) (head flow f : Float) → k ≡ Tank t → head ≡ x.head → flow ≡ f
    → (empty_closed t head && lt (decimal 0 0) flow || fill_closed t head && lt flow (decimal 0 0)) ≡ closes_out_of k x f
unfolding closes_out_of
out_is t k x head flow f e h q = rw (e, h, q) (or_comm (empty_closed t x.head && lt (decimal 0 0) f) (fill_closed t x.head && lt f (decimal 0 0)))

no_into : (k : NodeType) (x : NodeState) (f : Float) → is_tank_type k ≡ false → closes_into k x f ≡ false
unfolding closes_into
no_into (Reservoir r) x f e = refl
no_into (Tank t) x f e = absurd (true≢false e)
no_into (Junction j) x f e = refl

no_out : (k : NodeType) (x : NodeState) (f : Float) → is_tank_type k ≡ false → closes_out_of k x f ≡ false
unfolding closes_out_of
no_out (Reservoir r) x f e = refl
no_out (Tank t) x f e = absurd (true≢false e)
no_out (Junction j) x f e = refl

abbrev shut : List Float → Bool → Bool → ℕ → Bool
shut flows forward backward l = forward && lt (decimal 0 0) (get_or flows l nan) || backward && lt (get_or flows l nan) (decimal 0 0)

part_is : {links : List ℕ} {from n : ℕ} (test : ℕ → Bool) (L : ℕ) → Part links from n (chosen test L) → (flows : List Float) (forward backward : Bool) (st : List ℕ)
    → part_closed links from n flows forward backward st ≡ mark_all L (λ l. test l && shut flows forward backward l) st
unfolding part_closed marked
part_is test L h flows forward backward st =
    part_along h (link_marked flows forward backward) st
    ∙ sym (chosen_cond test L (link_marked flows forward backward) st)
    ∙ same_turns L (λ l t. cond (test l) (link_marked flows forward backward l t) t) (mark_at (λ l. test l && shut flows forward backward l)) st
    (λ l t k. by (test l) l t)
  where
    by : (b : Bool) (l : ℕ) (t : List ℕ) → cond b (set t l (cond (shut flows forward backward l) TempClosed (get_or t l 0))) t ≡ set t l (cond (b && shut flows forward backward l) TempClosed (get_or t l 0))
    by true l t = refl
    by false l t = sym (set-get_or t l 0)

-- ---- closing link by link is a marking
module _ (p : Project) (s : State) where
  abbrev flow_at : ℕ → Float
  flow_at l = (link_state_at s l).flow

  abbrev closes_end : ℕ → ℕ → Bool
  closes_end l j = closes_into (node_at p j).kind (node_state_at s j) (flow_at l)

  abbrev closes_start : ℕ → ℕ → Bool
  closes_start l j = closes_out_of (node_at p j).kind (node_state_at s j) (flow_at l)

  abbrev closes_at : ℕ → Bool
  closes_at l = closes_end l (link_at p l).end || closes_start l (link_at p l).start

  status_is : (x : LinkState) (e : Node) (es : NodeState) (b : Node) (bs : NodeState)
      → cond (closes_into e.kind es x.flow || closes_out_of b.kind bs x.flow) TempClosed x.status ≡ (closed x e es b bs).status
  unfolding closed
  status_is x e es b bs = by (closes_into e.kind es x.flow || closes_out_of b.kind bs x.flow)
    where
      by : (c : Bool) → cond c TempClosed x.status ≡ (cond c (record { flow = x.flow; status = TempClosed; setting = x.setting }) x).status
      by true = refl
      by false = refl

  Same : State → Type 0
  Same x = (x.nodes ≡ s.nodes) × (map flow_of x.links ≡ map flow_of s.links)

  links_are : mark_all p.counts.links closes_at (map status_of s.links) ≡ map status_of (close_links p s).links
  unfolding close_links Same
  links_are = carried_keeping (λ (x : State). map status_of x.links) Same p.counts.links (mark_at closes_at) (link_closed p) s (refl, refl) keep turn
    where
      keep : (i : ℕ) (x : State) → i < p.counts.links → Same x → Same (link_closed p i x)
      keep i x l q = (q.0, map-set_same flow_of x.links i _ blank_link_state (same_flow (link_state_at x i) _ _ _ _) ∙ q.1)

      turn : (i : ℕ) (x : State) → i < p.counts.links → Same x → mark_at closes_at i (map status_of x.links) ≡ map status_of (link_closed p i x).links
      turn i x l q =
          ap (λ (y : ℕ). set (map status_of x.links) i (cond (closes_at i) TempClosed y)) (get_or-map status_of x.links i blank_link_state)
          ∙ ap (λ (c : Bool). set (map status_of x.links) i (cond c TempClosed (link_state_at x i).status)) tests
          ∙ ap (set (map status_of x.links) i) (status_is (link_state_at x i) (node_at p e) (node_state_at x e) (node_at p b) (node_state_at x b))
          ∙ sym (map_set status_of x.links i _)
        where
          e : ℕ
          e = (link_at p i).end

          b : ℕ
          b = (link_at p i).start

          same_flows : (link_state_at s i).flow ≡ (link_state_at x i).flow
          same_flows =
              sym (get_or-map flow_of s.links i blank_link_state)
              ∙ ap (λ (fs : List Float). get_or fs i nan) (sym q.1)
              ∙ get_or-map flow_of x.links i blank_link_state

          tests : closes_at i ≡ (closes_into (node_at p e).kind (node_state_at x e) (link_state_at x i).flow || closes_out_of (node_at p b).kind (node_state_at x b) (link_state_at x i).flow)
          tests =
              ap (λ (f : Float). closes_into (node_at p e).kind (node_state_at s e) f || closes_out_of (node_at p b).kind (node_state_at s b) f) same_flows
              ∙ ap (λ (ns : List NodeState). closes_into (node_at p e).kind (get_or ns e blank_node_state) (link_state_at x i).flow || closes_out_of (node_at p b).kind (get_or ns b blank_node_state) (link_state_at x i).flow) (sym q.0)

none : (a b found : Bool) → (found || ((a && false) || (b && false))) ≡ found
none true true found = or-false found
none true false found = or-false found
none false true found = or-false found
none false false found = or-false found

-- ---- closing by the table
pub close_links_is :
    {p : Project} {nodes begins middles links : List ℕ} {numbers : List Float} {overflows : List ℕ} {n : ℕ}
    → TablesFit p → TanksLaid p.nodes p.counts.nodes nodes numbers overflows n → GroupsLaid p nodes begins middles links n → (s : State) → length s.links ≡ 384
    → links_closed nodes numbers overflows begins middles links n (heads_of s) (map flow_of s.links) (map status_of s.links) ≡ map status_of (close_links p s).links
unfolding links_closed any
close_links_is {p} {nodes} {begins} {middles} {links} {numbers} {overflows} {n} fit laid groups s long =
    mark_all_lem L test (group_closed nodes numbers overflows begins middles links heads flows) statuses room n group
    ∙ same_turns L (mark_at (λ l. any n (λ k. test k l))) (mark_at (closes_at p s)) statuses
    (λ l t h. ap (λ (c : Bool). set t l (cond c TempClosed (get_or t l 0))) (agree l h))
    ∙ links_are p s
  where
    L : ℕ
    L = p.counts.links

    heads : List Float
    heads = heads_of s

    flows : List Float
    flows = map flow_of s.links

    statuses : List ℕ
    statuses = map status_of s.links

    room : L ≤ length statuses
    room = omega (arith, fit.few.links, length-map s.links status_of)

    full : ℕ → Bool
    full k = fill_closed (tank_at numbers overflows k) (get_or heads (get_or nodes k 0) nan)

    empty : ℕ → Bool
    empty k = empty_closed (tank_at numbers overflows k) (get_or heads (get_or nodes k 0) nan)

    test : ℕ → ℕ → Bool
    test k l = (eqb (link_at p l).end (get_or nodes k 0) && shut flows (full k) (empty k) l) || (eqb (link_at p l).start (get_or nodes k 0) && shut flows (empty k) (full k) l)

    group : (k : ℕ) (ys : List ℕ) → k < n → L ≤ length ys → group_closed nodes numbers overflows begins middles links heads flows k ys ≡ mark_all L (test k) ys
    group k ys l h =
        ap (part_closed links (get_or middles k 0) (get_or begins (k + 1) 0 - get_or middles k 0) flows (empty k) (full k))
        (part_is (λ i. eqb (link_at p i).end (get_or nodes k 0)) L (groups k l).into flows (full k) (empty k) ys)
        ∙ part_is (λ i. eqb (link_at p i).start (get_or nodes k 0)) L (groups k l).out flows (empty k) (full k) (mark_all L (λ i. eqb (link_at p i).end (get_or nodes k 0) && shut flows (full k) (empty k) i) ys)
        ∙ mark_twice L (λ i. eqb (link_at p i).start (get_or nodes k 0) && shut flows (empty k) (full k) i) (λ i. eqb (link_at p i).end (get_or nodes k 0) && shut flows (full k) (empty k) i) ys h

    -- the tanks' tests at a link are those of its two nodes
    agree : (l : ℕ) → l < L → any n (λ k. test k l) ≡ closes_at p s l
    agree l h =
        same_turns n (λ k found. found || test k l) (λ k found. found || at (get_or nodes k 0)) false (λ k found m. ap (λ (b : Bool). found || b) (test_is k m))
        ∙ held_along (λ k. get_or nodes k 0) (tank_nodes p) (λ j found. found || at j) false n laid.count laid.node
        ∙ sym (chosen_along (λ i. is_tank (node_at p i)) p.counts.nodes (λ j found. found || at j) false (λ j found m q. nothing j found q))
        ∙ any_or p.counts.nodes (λ j. eqb e j && closes_end p s l j) (λ j. eqb b j && closes_start p s l j)
        ∙ ap (λ (x : Bool). x || any p.counts.nodes (λ j. eqb b j && closes_start p s l j)) (any_hit p.counts.nodes e (closes_end p s l) (fit.link l h).end)
        ∙ ap (λ (x : Bool). closes_end p s l e || x) (any_hit p.counts.nodes b (closes_start p s l) (fit.link l h).start)
      where
        e : ℕ
        e = (link_at p l).end

        b : ℕ
        b = (link_at p l).start

        at : ℕ → Bool
        at j = (eqb e j && closes_end p s l j) || (eqb b j && closes_start p s l j)

        head_is : (j : ℕ) → get_or heads j nan ≡ (node_state_at s j).head
        head_is j = get_or-map head_of s.nodes j blank_node_state

        flow_is : get_or flows l nan ≡ (link_state_at s l).flow
        flow_is = get_or-map flow_of s.links l blank_link_state

        test_is : (k : ℕ) → k < n → test k l ≡ at (get_or nodes k 0)
        test_is k m =
            ap (λ (x : Bool). (eqb e j && x) || (eqb b j && shut flows (empty k) (full k) l))
            (into_is (tank_at numbers overflows k) (node_at p j).kind (node_state_at s j) (get_or heads j nan) (get_or flows l nan) (link_state_at s l).flow (laid.tank k m) (head_is j) flow_is)
            ∙ ap (λ (x : Bool). (eqb e j && closes_end p s l j) || (eqb b j && x))
            (out_is (tank_at numbers overflows k) (node_at p j).kind (node_state_at s j) (get_or heads j nan) (get_or flows l nan) (link_state_at s l).flow (laid.tank k m) (head_is j) flow_is)
          where
            j : ℕ
            j = get_or nodes k 0

        nothing : (j : ℕ) (found : Bool) → is_tank (node_at p j) ≡ false → (found || at j) ≡ found
        nothing j found q =
            ap (λ (x : Bool). found || ((eqb e j && x) || (eqb b j && closes_start p s l j))) (no_into (node_at p j).kind (node_state_at s j) (link_state_at s l).flow q)
            ∙ ap (λ (x : Bool). found || ((eqb e j && false) || (eqb b j && x))) (no_out (node_at p j).kind (node_state_at s j) (link_state_at s l).flow q)
            ∙ none (eqb e j) (eqb b j) found
