-- A state is determined by its lists and its clock. Assumes nothing.
use Prim.Native.Nat.{ℕ}
use mathlib.Core.Path.{◌≡◌, refl, sym, ap, ◌∙◌}
use mathlib.Core.List.{List, map}
use lib.Ieee.{Float}
use lib.ListN.{get_or, length, length-map, get_or-map}
use lib.Seq.{ext_get_or}
use Rattle.clock.specs.declared.hand.Clock.{Clock}
use Rattle.model.specs.Blank.{blank_node_state, blank_link_state}
use Rattle.model.specs.declared.state.LinkState.{LinkState}
use Rattle.model.specs.declared.state.NodeState.{NodeState}
use Rattle.model.specs.declared.state.State.{State}
use Rattle.run_state.specs.declared.Links.{Links}
use Rattle.run_state.specs.declared.Lists.{Lists}
use Rattle.run_state.specs.Lists.{NodesHold, LinksHold, demand_flow_of, demand_flows_of, demand_of, demands_of, flow_of, head_of, heads_of, links_of, lists_of, setting_of, status_of}

-- one entry of what two lists are made into
entry : {A B : Type 0} (h : A → B) (d : A) (xs ys : List A) → map h xs ≡ map h ys → (k : ℕ) → h (get_or xs k d) ≡ h (get_or ys k d)
entry h d xs ys e k = sym (get_or-map h xs k d) ∙ ap (λ (l : List _). get_or l k (h d)) e ∙ get_or-map h ys k d

long : {A B : Type 0} (h : A → B) (xs ys : List A) → map h xs ≡ map h ys → length xs ≡ length ys
long h xs ys e = sym (length-map xs h) ∙ ap length e ∙ length-map ys h

node : (x y : NodeState) → x.head ≡ y.head → x.demand ≡ y.demand → x.demand_flow ≡ y.demand_flow → x ≡ y
node x y a b c = made a b c
  where
    made : {h h' d d' f f' : Float} → h ≡ h' → d ≡ d' → f ≡ f'
        → ◌≡◌ {A = NodeState} (record { head = h; demand = d; demand_flow = f }) (record { head = h'; demand = d'; demand_flow = f' })
    made a b c = rw (a, b, c)

link : (x y : LinkState) → x.flow ≡ y.flow → x.status ≡ y.status → x.setting ≡ y.setting → x ≡ y
link x y a b c = made a b c
  where
    made : {f f' g g' : Float} {s s' : ℕ} → f ≡ f' → s ≡ s' → g ≡ g'
        → ◌≡◌ {A = LinkState} (record { flow = f; status = s; setting = g }) (record { flow = f'; status = s'; setting = g' })
    made a b c = rw (a, b, c)

nodes : (xs ys : List NodeState) → map head_of xs ≡ map head_of ys → map demand_of xs ≡ map demand_of ys → map demand_flow_of xs ≡ map demand_flow_of ys → xs ≡ ys
nodes xs ys a b c =
    ext_get_or blank_node_state xs ys (long head_of xs ys a)
    (λ k l. node _ _ (entry head_of blank_node_state xs ys a k) (entry demand_of blank_node_state xs ys b k) (entry demand_flow_of blank_node_state xs ys c k))

links : (xs ys : List LinkState) → map flow_of xs ≡ map flow_of ys → map status_of xs ≡ map status_of ys → map setting_of xs ≡ map setting_of ys → xs ≡ ys
links xs ys a b c =
    ext_get_or blank_link_state xs ys (long flow_of xs ys a)
    (λ k l. link _ _ (entry flow_of blank_link_state xs ys a k) (entry status_of blank_link_state xs ys b k) (entry setting_of blank_link_state xs ys c k))

state : (s t : State) → s.nodes ≡ t.nodes → s.links ≡ t.links → s.clock ≡ t.clock → s ≡ t
state s t a b c = made a b c
  where
    made : {n n' : List NodeState} {l l' : List LinkState} {k k' : Clock} → n ≡ n' → l ≡ l' → k ≡ k'
        → ◌≡◌ {A = State} (record { nodes = n; links = l; clock = k }) (record { nodes = n'; links = l'; clock = k' })
    made a b c = rw (a, b, c)

-- nothing is asked of lengths: the lists have them
pub same_state : (s t : State) → lists_of s ≡ lists_of t → s ≡ t
same_state s t e =
    state s t
    (nodes s.nodes t.nodes (ap (λ (x : Lists). x.heads) e) (ap (λ (x : Lists). x.demands) e) (ap (λ (x : Lists). x.demand_flows) e))
    (links s.links t.links (ap (λ (x : Lists). x.links.flows) e) (ap (λ (x : Lists). x.links.statuses) e) (ap (λ (x : Lists). x.links.settings) e))
    (ap (λ (x : Lists). x.clock) e)

-- ---- lists with the same parts
pub links_made : {a a' c c' : List Float} {b b' : List ℕ} → a ≡ a' → b ≡ b' → c ≡ c'
    → ◌≡◌ {A = Links} (record { flows = a; statuses = b; settings = c }) (record { flows = a'; statuses = b'; settings = c' })
links_made a b c = rw (a, b, c)

pub lists_made : {h h' d d' f f' : List Float} {l l' : Links} {k k' : Clock} → h ≡ h' → d ≡ d' → f ≡ f' → l ≡ l' → k ≡ k'
    → ◌≡◌ {A = Lists}
    (record { heads = h; demands = d; demand_flows = f; links = l; clock = k })
    (record { heads = h'; demands = d'; demand_flows = f'; links = l'; clock = k' })
lists_made a b c d e = rw (a, b, c, d, e)

-- a state whose parts hold the arrays
pub packed : (s : State) {heads demands flows : List Float} {ls : Links}
    → NodesHold s.nodes heads demands flows → LinksHold s.links ls.flows ls.statuses ls.settings
    → lists_of s ≡ record { heads = heads; demands = demands; demand_flows = flows; links = ls; clock = s.clock }
packed s n l = lists_made n.head n.demand n.demand_flow (links_made l.flow l.status l.setting) refl

-- the lists of a state t that differs from s in its links alone
pub links_changed : (s t : State) {ls : Links} → ls ≡ links_of t → t.nodes ≡ s.nodes → t.clock ≡ s.clock
    → record { heads = heads_of s; demands = demands_of s; demand_flows = demand_flows_of s; links = ls; clock = s.clock } ≡ lists_of t
links_changed s t l n c = lists_made (ap (map head_of) (sym n)) (ap (map demand_of) (sym n)) (ap (map demand_flow_of) (sym n)) l (sym c)
