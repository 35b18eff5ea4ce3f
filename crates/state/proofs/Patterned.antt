-- The passes over a run's demands and heads leave what `apply_patterns` leaves. Assumes nothing.
use Rattle.std.specs.Prelude.{None, Option, Some}
use Prim.Native.Nat.{ℕ, ◌≤◌, ◌<◌}
use mathlib.Core.Path.{◌≡◌, refl, sym, ap, ◌∙◌, subst}
use mathlib.Core.Bool.{Bool, true, false, cond, true≢false}
use mathlib.Core.List.{List}
use native.Mathlib.Omega.{arith}
use lib.Ieee.{Float, nan}
use lib.ListN.{get_or, set, length, length-map, get_or-map}
use lib.Seq.{set-get_or, map-set_same}
use Rattle.number.specs.Operators.{◌·◌}
use Rattle.model.specs.Blank.{node_at, node_state_at, blank_node_state}
use Rattle.model.specs.Loops.{through}
use Rattle.model.specs.Nodes.{elevation, elevation_of}
use Rattle.model.specs.Patterns.{period}
use Rattle.model.specs.declared.node.NodeType.{NodeType}
use Rattle.model.specs.declared.node.NodeType.TheVariants.{Reservoir, Tank, Junction}
use Rattle.model.specs.declared.project.Project.{Project}
use Rattle.model.specs.declared.state.NodeState.{NodeState}
use Rattle.model.specs.declared.state.State.{State}
use Rattle.model.proofs.Each.{below}
use Rattle.model.proofs.Loops.{kept}
use Rattle.model.proofs.Pointwise.{same_turns, carried, map_set}
use Rattle.run_periods.specs.Applying.{Written, Inputs, inputs_of, written_in, filled}
use Rattle.run_patterns.specs.Filling.{demand_put, demand_sum, demands_filled, head_put, heads_filled, demand_copied, demands_copied}
use Rattle.run_sources.specs.Laid.{PatternsLaid}
use Rattle.run_sources.specs.Lengths.{LengthsLaid}
use Rattle.run_sources.specs.Sources.{DemandsLaid, head_pattern_of, is_pattern, patterned_in, HeadsLaid}
use Rattle.run_sources.specs.declared.PatternTables.{PatternTables}
use Rattle.run_state.specs.Lists.{NodesHold, head_of, demand_of, demand_flow_of, heads_of, demands_of, demand_flows_of, links_listed, lists_of}
use Rattle.run_state.specs.declared.Lists.{Lists}
use Rattle.run_state.proofs.Apart.{same_state, lists_made}
use Rattle.run_tables.specs.Chosen.{chosen}
use Rattle.run_tables.proofs.Along.{chosen_along, held_along}
use Rattle.run_tables.proofs.Listed.{chosen_at}
use Rattle.state_patterns.specs.Patterns.{reservoir_head, pattern_head, pattern_demand, patterned}
use Rattle.state.specs.Patterns.{multiplier_of, node_patterned, apply_patterns}
use Rattle.state.proofs.Tabled.{words_fill, multipliers_of, multiplier_is, demand_is}

-- the period of a state's instant
abbrev pub period_of : Project → State → ℕ
period_of p s = period p.options.pattern_start p.options.pattern s.clock.instant

-- ---- what the passes read is a project's
pub record InputsLaid (p : Project) (t : Inputs) : Type 0 where
  pub lengths : LengthsLaid p.lengths t.lengths
  pub multipliers : t.multipliers ≡ p.multipliers
  pub long : length p.multipliers ≡ 5376
  pub start : t.start ≡ p.options.pattern_start
  pub timestep : t.timestep ≡ p.options.pattern
  pub scale : t.scale ≡ p.options.demand_multiplier
  pub pda : t.pda ≡ p.options.pda
  pub n : t.n ≡ p.counts.nodes
  pub demands : DemandsLaid p.nodes p.counts.nodes p.options.default_pattern t.counts t.bases t.places
  pub heads : HeadsLaid p.nodes p.counts.nodes t.reservoirs t.elevations t.patterns t.patterned

-- and what they write is what a state holds
abbrev pub Holds : State → Written → Type 0
Holds s w = NodesHold s.nodes w.heads w.demands w.flows

module _ (p : Project) (s : State) (table : List Float) (long : length table ≡ 33) where
  abbrev N : ℕ
  N = p.counts.nodes

  abbrev m : Option ℕ → Float
  m = multiplier_of p (period_of p s)

  abbrev now : List Float
  now = multipliers_of p s.clock.instant table

  abbrev scale : Float
  scale = p.options.demand_multiplier

  -- ---- demands
  module _ {counts : List ℕ} {bases : List Float} {places : List ℕ} (laid : DemandsLaid p.nodes N p.options.default_pattern counts bases places) where
    abbrev D : ℕ → Float
    D k = pattern_demand m p.options.default_pattern scale (node_at p k).kind

    demand_at : (k : ℕ) → k < N → demand_sum bases places now scale k (get_or counts k 0) ≡ D k
    demand_at = demand_is laid scale m now (multiplier_is p s.clock.instant table long)

    pub fill_demands_is : demands_filled counts bases places now scale N (demands_of s) ≡ demands_of (apply_patterns p s)
    unfolding demands_filled apply_patterns
    fill_demands_is = carried demands_of N (demand_put counts bases places now scale) (node_patterned p m) s turn
      where
        given : (k : ℕ) (x : NodeState) → (patterned m p.options (node_at p k) x).demand ≡ D k
        given k x = unfold patterned in refl

        turn : (k : ℕ) (x : State) → k < N → demand_put counts bases places now scale k (demands_of x) ≡ demands_of (node_patterned p m k x)
        turn k x l = ap (set (demands_of x) k) (demand_at k l ∙ sym (given k (node_state_at x k))) ∙ sym (map_set demand_of x.nodes k _)

    -- ---- demand flows
    pub copy_demands_is : N ≤ length s.nodes
        → demands_copied (demands_filled counts bases places now scale N (demands_of s)) (cond p.options.pda N 0) (demand_flows_of s) ≡ demand_flows_of (apply_patterns p s)
    unfolding demands_copied apply_patterns
    copy_demands_is room = by p.options.pda refl
      where
        demands : List Float
        demands = demands_filled counts bases places now scale N (demands_of s)

        there : (k : ℕ) → k < N → get_or demands k nan ≡ D k
        there k l =
            unfold demands_filled in
            below (λ i x. demand_sum bases places now scale i (get_or counts i 0)) nan (demands_of s) N k l (omega (arith, room, length-map s.nodes demand_of))
            ∙ demand_at k l

        given : (k : ℕ) (x : NodeState) → (patterned m p.options (node_at p k) x).demand_flow ≡ cond p.options.pda (D k) x.demand_flow
        given k x = unfold patterned in refl

        by_pda : (k : ℕ) (x : NodeState) (b : Bool) → p.options.pda ≡ b → (patterned m p.options (node_at p k) x).demand_flow ≡ cond b (D k) x.demand_flow
        by_pda k x b e = given k x ∙ ap (λ (c : Bool). cond c (D k) x.demand_flow) e

        turn : p.options.pda ≡ true → (k : ℕ) (x : State) → k < N → demand_copied demands k (demand_flows_of x) ≡ demand_flows_of (node_patterned p m k x)
        turn e k x l = ap (set (demand_flows_of x) k) (there k l ∙ sym (by_pda k (node_state_at x k) true e)) ∙ sym (map_set demand_flow_of x.nodes k _)

        by : (b : Bool) → p.options.pda ≡ b → through (cond b N 0) (demand_copied demands) (demand_flows_of s) ≡ demand_flows_of (through N (node_patterned p m) s)
        by true e = carried demand_flows_of N (demand_copied demands) (node_patterned p m) s (turn e)
        by false e =
            unfold through in
            sym (kept demand_flows_of (node_patterned p m) s (λ k x. map-set_same demand_flow_of x.nodes k _ blank_node_state (by_pda k (node_state_at x k) false e)) N)

  -- ---- heads
  reservoir_is : (q : Option ℕ) (e h : Float) → is_pattern q ≡ true → e · m q ≡ reservoir_head m q e h
  reservoir_is None e h w = absurd (true≢false (sym w))
  reservoir_is (Some k) e h w = refl

  reservoir_stays : (q : Option ℕ) (e h : Float) → is_pattern q ≡ false → reservoir_head m q e h ≡ h
  reservoir_stays None e h w = refl
  reservoir_stays (Some k) e h w = absurd (true≢false w)

  head_is : (k : NodeType) (h : Float) → is_pattern (head_pattern_of k) ≡ true → elevation_of k · m (head_pattern_of k) ≡ pattern_head m k h
  head_is (Reservoir r) h w = reservoir_is r.head_pattern r.elevation h w
  head_is (Tank t) h w = absurd (true≢false (sym w))
  head_is (Junction j) h w = absurd (true≢false (sym w))

  head_stays : (k : NodeType) (h : Float) → is_pattern (head_pattern_of k) ≡ false → pattern_head m k h ≡ h
  head_stays (Reservoir r) h w = reservoir_stays r.head_pattern r.elevation h w
  head_stays (Tank t) h w = refl
  head_stays (Junction j) h w = refl

  pub fill_heads_is :
      {nodes : List ℕ} {elevations : List Float} {patterns : List ℕ} {n : ℕ} → HeadsLaid p.nodes N nodes elevations patterns n
      → heads_filled nodes elevations patterns now n (heads_of s) ≡ heads_of (apply_patterns p s)
  unfolding heads_filled apply_patterns
  fill_heads_is {nodes} {elevations} {patterns} {n} laid =
      same_turns n (head_put nodes elevations patterns now) (λ r. put (get_or nodes r 0)) (heads_of s) one
      ∙ held_along (λ r. get_or nodes r 0) (chosen test N) put (heads_of s) n laid.count laid.node
      ∙ sym (chosen_along test N put (heads_of s) idle)
      ∙ carried heads_of N put (node_patterned p m) s turn
    where
      test : ℕ → Bool
      test = patterned_in p.nodes

      put : ℕ → List Float → List Float
      put i hs = set hs i (pattern_head m (node_at p i).kind (get_or hs i nan))

      one : (r : ℕ) (hs : List Float) → r < n → head_put nodes elevations patterns now r hs ≡ put (get_or nodes r 0) hs
      one r hs l =
          ap (set hs j)
          (ap (λ (x : Float). x · get_or now (get_or patterns r 0) nan) (laid.elevation_is r l)
          ∙ ap (λ (x : Float). elevation (node_at p j) · x) (ap (λ (k : ℕ). get_or now k nan) (laid.place r l) ∙ multiplier_is p s.clock.instant table long (head_pattern_of (node_at p j).kind))
          ∙ head_is (node_at p j).kind (get_or hs j nan) (ap test (laid.node r l) ∙ (chosen_at test N r (omega (arith, l, laid.count))).holds))
        where
          j : ℕ
          j = get_or nodes r 0

      idle : (i : ℕ) (hs : List Float) → i < N → test i ≡ false → put i hs ≡ hs
      idle i hs l e = ap (set hs i) (head_stays (node_at p i).kind (get_or hs i nan) e) ∙ set-get_or hs i nan

      given : (k : ℕ) (x : NodeState) → (patterned m p.options (node_at p k) x).head ≡ pattern_head m (node_at p k).kind x.head
      given k x = unfold patterned in refl

      turn : (k : ℕ) (x : State) → k < N → put k (heads_of x) ≡ heads_of (node_patterned p m k x)
      turn k x l =
          ap (set (heads_of x) k) (ap (pattern_head m (node_at p k).kind) (get_or-map head_of x.nodes k blank_node_state) ∙ sym (given k (node_state_at x k)))
          ∙ sym (map_set head_of x.nodes k _)

-- ---- all of it, at an instant
pub filled_is : {p : Project} {t : Inputs} (s : State) (w : Written) → InputsLaid p t → Holds s w → length w.table ≡ 33 → p.counts.nodes ≤ length s.nodes
    → Holds (apply_patterns p s) (filled t s.clock.instant w)
unfolding filled
filled_is {p} {t} s w laid h long room =
    rw (laid.multipliers, laid.start, laid.timestep, laid.scale, laid.pda, laid.n, sym h.head, sym h.demand, sym h.demand_flow, words_fill p.multipliers p.options.pattern_start p.options.pattern s.clock.instant w.table laid.lengths laid.long)
    (record {
      head = sym (fill_heads_is p s w.table long laid.heads);
      demand = sym (fill_demands_is p s w.table long laid.demands);
      demand_flow = sym (copy_demands_is p s w.table long laid.demands room);
    })

-- ---- nothing else becomes another
module _ (p : Project) (s : State) where
  pub patterned_links : (apply_patterns p s).links ≡ s.links
  unfolding apply_patterns
  patterned_links = kept (λ (v : State). v.links) (node_patterned p (multiplier_of p (period_of p s))) s (λ i v. refl) p.counts.nodes

  pub patterned_clock : (apply_patterns p s).clock ≡ s.clock
  unfolding apply_patterns
  patterned_clock = kept (λ (v : State). v.clock) (node_patterned p (multiplier_of p (period_of p s))) s (λ i v. refl) p.counts.nodes

-- ---- the tables of a project are those of its passes
pub inputs_laid : {p : Project} {t : PatternTables} → PatternsLaid p.options p.lengths p.nodes p.counts.nodes t → length p.multipliers ≡ 5376 → InputsLaid p (inputs_of t p.multipliers)
inputs_laid laid long = record {
  lengths = laid.lengths_laid;
  multipliers = refl;
  long = long;
  start = laid.start;
  timestep = laid.timestep;
  scale = laid.scale;
  pda = laid.pda;
  n = laid.count;
  demands = laid.demands;
  heads = laid.heads;
}

-- ---- the call: the passes over the lists of a state, made a state again
pub patterns_packed : (p : Project) (s r : State) {t : Inputs} (table : List Float) {table' : List Float} {before after : Lists} → InputsLaid p t → length table ≡ 33 → p.counts.nodes ≤ length s.nodes
    → before ≡ lists_of s → filled t s.clock.instant (written_in table before) ≡ written_in table' after → after.links ≡ before.links → after.clock ≡ before.clock
    → lists_of r ≡ after → r ≡ apply_patterns p s
patterns_packed p s r {t} table {table'} {before} {after} laid long room b e l k packed =
    same_state r (apply_patterns p s)
    (packed ∙ lists_made (sym h.head) (sym h.demand) (sym h.demand_flow) (l ∙ ap (λ (x : Lists). x.links) b ∙ ap links_listed (sym (patterned_links p s))) (k ∙ ap (λ (x : Lists). x.clock) b ∙ sym (patterned_clock p s)))
  where
    held : Holds s (written_in table before)
    held = rw b (record { head = refl; demand = refl; demand_flow = refl })

    h : Holds (apply_patterns p s) (written_in table' after)
    h = subst (Holds (apply_patterns p s)) e (filled_is s (written_in table before) laid held long room)
