-- The turns of a chunk over the arrays of a run: what the passes leave is one turn more. Assumes nothing.
use Prim.Native.Nat.{ℕ, ◌+◌, ◌-◌, ◌*◌, ◌≤◌, ◌<◌}
use Rattle.std.specs.Prelude.{Result, Ok, Err}
use mathlib.Core.Path.{◌≡◌, refl, sym, ap, ◌∙◌, subst}
use mathlib.Core.Bool.{Bool, true, false, cond, ◌&&◌}
use mathlib.Core.List.{List}
use native.Mathlib.Omega.{arith}
use borrow.Author.Tests.{ltb-true, ltb-false}
use lib.Dec.{eqb, ltb}
use lib.Ieee.{Float}
use lib.ListN.{length, take, drop, length-drop}
use lib.Seq.{take_all}
use Rattle.number.specs.Constants.{MAX}
use Rattle.clock.specs.Steps.{clock_time}
use Rattle.clock.specs.declared.hand.Clock.{Clock}
use Rattle.listing.specs.Listing.{Line, line_text}
use Rattle.listing.specs.Text as text
use Rattle.model.proofs.Loops.{both_left, both_right}
use Rattle.model.specs.Patterns.{period}
use Rattle.model.specs.declared.options.Options.{Options}
use Rattle.model.specs.declared.project.Project.{Project}
use Rattle.model.specs.declared.state.State.{State}
use Rattle.judge.specs.Judgement.{in_order}
use Rattle.tables.specs.Fit.{TablesFit}
use Rattle.run_state.specs.Lists.{lists_of}
use Rattle.run_state.specs.declared.Links.{Links}
use Rattle.run_state.specs.declared.Lists.{Lists}
use Rattle.run_loads.specs.Faults.{load_fault_number}
use Rattle.run_loads.specs.declared.fault.LoadFault.{LoadFault}
use Rattle.run_loads.specs.declared.table.LoadTable.{LoadTable}
use Rattle.run_tables.specs.declared.nodes.NodeList.{NodeList}
use Rattle.run_state.proofs.Apart.{same_state}
use Rattle.run_controls.specs.Apply.{links_after}
use Rattle.run_periods.specs.Applying.{inputs_of, written_in, patterns_applied}
use Rattle.state.proofs.InForce.{none_in_force}
use Rattle.state.proofs.Patterned.{period_of}
use Rattle.calls_sound.proofs.Theorem.{state_of}
use Rattle.driver_load.specs.Left.{LoadedAs, none, cut, faulty, whole, values_by}
use Rattle.driver_load.specs.Sizes.{load_words, load_bytes}
use Rattle.driver_load.proofs.Inner.{fit}
use Rattle.driver_tables.specs.Laid.{Laid}
use Rattle.driver_tables.specs.declared.Tables.{Tables}
use Rattle.driver_turn.specs.Turns.{Turn, turn}
use Rattle.driver_turn.specs.Turned.{TurnedAs}
use Rattle.driver_turn.specs.Steps.{closed, length_by, stepped}
use Rattle.driver_turn.proofs.Cases.{turned_as, turn_finished, ended_as, stepped_as}
use Rattle.driver_turn.proofs.Loads.{values_by_lem}
use Rattle.driver_turn.proofs.Made.{Meets, MadeBy, made_refused, made_step}
use Rattle.driver_chunk.specs.Chunks.{wants_input, can_turn, TurnsRan}
use Rattle.driver_chunk.proofs.Going.{Going, Ready, ready, going_begun, going_less, going_turn, going_ended}
use Rattle.driver_chunk.proofs.Turning.{known}

-- a project, and the state that the arrays held at first
pub record Begins (p : Project) (s : State) (t : Tables) (multipliers : List Float) (a : Lists) : Type 0 where
  pub laid : Laid p t
  pub same : multipliers ≡ p.multipliers
  pub whole : length multipliers ≡ 5376
  pub ordered : in_order p s ≡ true
  pub held : a ≡ lists_of s
  pub nodes : length s.nodes ≡ 256
  pub links : length s.links ≡ 384

-- the turns so far, and the state that the arrays hold
pub record Turns (p : Project) (s : State) (input : List ℕ) (whole-input : Bool) (before after : List ℕ) (a : Lists) (in-force used written wants : ℕ) : Type 0 where
  pub state : State
  pub meets : Meets p state a in-force
  pub going : Going p s input whole-input before after state used written false wants

-- no more bytes are taken than are left
pub taken_fits : {bytes : List ℕ} {count : ℕ} {t : LoadTable} {tanks : NodeList} {x y : Lists} {r : Result ℕ LoadFault} → LoadedAs bytes count t tanks x y r
    → (taken : ℕ) → r ≡ Ok taken → taken ≤ length bytes
taken_fits (none z) taken q = let e : taken ≡ 0 = cc in omega (arith, e)
taken_fits (cut some k) taken q = absurd (cc)
taken_fits (faulty some k f e) taken q = absurd (cc)
taken_fits (whole some k z after e size long) taken q = let e : taken ≡ size = cc in omega (arith, e, long, k)

pub taken_inside : (input : List ℕ) (used : ℕ) {count : ℕ} {t : LoadTable} {tanks : NodeList} {x y : Lists} {r : Result ℕ LoadFault}
    → LoadedAs (take (length input - used) (drop used input)) count t tanks x y r → (taken : ℕ) → r ≡ Ok taken → used ≤ length input → used + taken ≤ length input
taken_inside input used l taken q k =
    let n : length (drop used input) ≤ length input - used = omega (arith, length-drop used input) in
    omega (arith, taken_fits l taken q, ap length (take_all (length input - used) (drop used input) n), length-drop used input)

module _ {p : Project} {s : State} {t : Tables} {multipliers : List Float} {a₀ : Lists} (b : Begins p s t multipliers a₀) where
  fits : TablesFit p
  fits = fit p s b.ordered

  bytes_are : (1 + 2 * values_by t.load) * 4 ≡ load_bytes p
  unfolding load_words
  bytes_are = rw (values_by_lem b.laid fits)

  duration_is : t.options.duration ≡ p.options.duration
  duration_is = ap (λ (o : Options). o.duration) b.laid.options

  -- a state's instant, by the arrays
  instant_is : (u : State) {a : Lists} → a ≡ lists_of u → a.clock.instant ≡ u.clock.instant
  instant_is u e = ap (λ (x : Lists). x.clock.instant) e

  pub turns_begun : {input : List ℕ} {whole-input : Bool} {before : List ℕ} {wants : ℕ}
      → wants ≡ wants_input t.options.duration a₀.clock.instant whole-input (length input) ((1 + 2 * values_by t.load) * 4)
      → Turns p s input whole-input before before a₀ MAX 0 0 wants
  turns_begun w = record {
    state = s;
    meets = record {
      held = b.held;
      ordered = b.ordered;
      nodes = b.nodes;
      links = b.links;
      force = λ e. absurd (none_in_force p s (omega (arith, fits.options.start, fits.options.duration, (state_of p s b.ordered).instant)) e);
    };
    going = going_begun b.ordered bytes_are (w ∙ rw (duration_is, instant_is s b.held));
  }

  module _ {input : List ℕ} {whole-input : Bool} {before after : List ℕ} {a : Lists} {in-force used written wants : ℕ}
      (g : Turns p s input whole-input before after a in-force used written wants) where
    abbrev now : State
    now = g.state

    -- what is left of the input
    rest_is : take (length input - used) (drop used input) ≡ drop used input
    rest_is = take_all (length input - used) (drop used input) (omega (arith, length-drop used input))

    on_rest : {x : Turn} → turn p now (take (length input - used) (drop used input)) ≡ x → turn p now (drop used input) ≡ x
    on_rest e = ap (turn p now) (sym rest_is) ∙ e

    now_instant : a.clock.instant ≡ now.clock.instant
    now_instant = instant_is now g.meets.held

    -- a state that the arrays hold is the one packed
    packed_is : (st u : State) {x : Lists} → lists_of st ≡ x → x ≡ lists_of u → st ≡ u
    packed_is st u e q = same_state st u (e ∙ q)

    -- where it can make no turn
    pub turns_ended : {st : State} → lists_of st ≡ a → can_turn false wants (length after - written) ≡ false
        → TurnsRan p s input whole-input before after (record { state = st; used = used; written = written; over = false; wants = wants })
    turns_ended {st} e stop = rw (packed_is st now e g.meets.held) (going_ended g.going stop)

    module _ (can : can_turn false wants (length after - written) ≡ true) where
      rdy : Ready false wants (length after - written)
      rdy = ready false wants (length after - written) can

      room : written + 22 ≤ length after
      room = omega (arith, rdy.fits)

      -- the run ends there: nothing more is taken or waited for
      ended : (u : State) (line : Line) → turn p now (drop used input) ≡ record { state = u; taken = 0; line = line; last = true } → {end : ℕ} {later : List ℕ}
          → end ≡ text.after after written (line_text line) → later ≡ text.put after written (line_text line)
          → TurnsRan p s input whole-input before later (record { state = u; used = used; written = end; over = true; wants = wants })
      ended u line e {end} {later} x y =
          let done = turned_as e (ended_as room u line x y) in
          let clock : u.clock.instant ≡ now.clock.instant = ap (λ (k : Clock). k.instant) (ap (λ (v : Turn). v.state.clock) (sym e) ∙ (known p now (drop used input) g.meets.ordered).stays (ap (λ (v : Turn). v.last) e)) in
          let z : used + 0 ≡ used = omega arith in
          let after-it : Going p s input whole-input before later u (used + 0) end true wants = going_turn g.going rdy done bytes_are (g.going.waits ∙ rw (clock, z, bytes_are)) in
          going_ended (subst (λ (n : ℕ). Going p s input whole-input before later u n end true wants) z after-it) refl

      -- at the duration
      pub turns_finished : t.options.duration ≤ a.clock.instant → {st : State} → lists_of st ≡ a → {end : ℕ} {later : List ℕ}
          → end ≡ text.after after written (line_text (Line.finished a.clock.count)) → later ≡ text.put after written (line_text (Line.finished a.clock.count))
          → TurnsRan p s input whole-input before later (record { state = st; used = used; written = end; over = true; wants = wants })
      turns_finished late {st} e {end} {later} x y =
          rw (packed_is st now e g.meets.held)
          (ended now (Line.finished now.clock.count) (turn_finished p now (drop used input) (omega (arith, late, duration_is, now_instant)))
          (x ∙ ap (λ (n : ℕ). text.after after written (line_text (Line.finished n))) counted) (y ∙ ap (λ (n : ℕ). text.put after written (line_text (Line.finished n))) counted))
        where
          counted : a.clock.count ≡ now.clock.count
          counted = ap (λ (v : Lists). v.clock.count) g.meets.held

      module _ (early : a.clock.instant < t.options.duration) (table : List Float) (long : length table ≡ 33) {d : Lists} {table' : List Float} {l : Links} {current : ℕ}
          (e : current ≡ period t.patterns.start t.patterns.timestep a.clock.instant)
          (patterns : patterns_applied (inputs_of t.patterns multipliers) t.tanks.at.nodes t.tanks.at.count in-force a.clock.instant (written_in table a) ≡ written_in table' d)
          (stay : d.links ≡ a.links) (still : d.clock ≡ a.clock)
          {hour : ℕ} (hour_is : hour ≡ clock_time t.times.start_clock a.clock.instant)
          (controls : l ≡ links_after t.controls.words t.controls.numbers t.controls.count d.heads a.clock.instant hour d.links)
          {count : ℕ} (many : count ≡ values_by t.load) {x : Lists} {r : Result ℕ LoadFault}
          (loaded : LoadedAs (take (length input - used) (drop used input)) count t.load t.tanks.at
          (record { heads = d.heads; demands = d.demands; demand_flows = d.demand_flows; links = l; clock = d.clock }) x r) where
        controls_are : l ≡ links_after t.controls.words t.controls.numbers t.controls.count d.heads a.clock.instant (clock_time t.times.start_clock a.clock.instant) d.links
        controls_are = controls ∙ ap (λ (h : ℕ). links_after t.controls.words t.controls.numbers t.controls.count d.heads a.clock.instant h d.links) hour_is

        loaded_is : LoadedAs (take (length input - used) (drop used input)) (values_by t.load) t.load t.tanks.at
            (record { heads = d.heads; demands = d.demands; demand_flows = d.demand_flows; links = l; clock = d.clock }) x r
        loaded_is =
            subst
            (λ (n : ℕ).
            LoadedAs (take (length input - used) (drop used input)) n t.load t.tanks.at
            (record { heads = d.heads; demands = d.demands; demand_flows = d.demand_flows; links = l; clock = d.clock }) x r)
            many loaded

        soon : now.clock.instant < p.options.duration
        soon = omega (arith, early, duration_is, now_instant)

        current_is : current ≡ period_of p now
        current_is = e ∙ rw (b.laid.patterns.start, b.laid.patterns.timestep) (ap (period p.options.pattern_start p.options.pattern) now_instant)

        -- the run ends at a fault
        pub turns_refused : (f : LoadFault) → r ≡ Err f → {number : ℕ} → number ≡ load_fault_number f → {st : State} → lists_of st ≡ x → {end : ℕ} {later : List ℕ}
            → end ≡ text.after after written (line_text (Line.refused number)) → later ≡ text.put after written (line_text (Line.refused number))
            → TurnsRan p s input whole-input before later (record { state = st; used = used; written = end; over = true; wants = wants })
        turns_refused f z {number} n {st} q {end} {later} u v =
            let made = made_refused b.laid b.same b.whole now a table long in-force g.meets soon patterns stay still controls_are _ loaded_is f z current_is in
            rw (packed_is st made.next q made.met.held)
            (ended made.next (Line.refused (load_fault_number f)) (on_rest made.turned)
            (u ∙ ap (λ (k : ℕ). text.after after written (line_text (Line.refused k))) n) (v ∙ ap (λ (k : ℕ). text.put after written (line_text (Line.refused k))) n))

        module _ (taken : ℕ) (z : r ≡ Ok taken) {seconds : ℕ} (lasts : seconds ≡ length_by t (closed t x)) {arrays : Lists} (steps : arrays ≡ stepped t seconds x)
            {end : ℕ} {later : List ℕ}
            (placed : end ≡ text.after after written (line_text (Line.step a.clock.instant seconds)))
            (put : later ≡ text.put after written (line_text (Line.step a.clock.instant seconds))) where
          made : MadeBy p now (take (length input - used) (drop used input)) arrays current taken (Line.step a.clock.instant seconds) false
          made = rw steps (made_step b.laid b.same b.whole now a table long in-force g.meets soon patterns stay still controls_are _ loaded_is taken z lasts current_is)

          done : TurnedAs (turn p now (drop used input)) written after later (record { state = made.next; taken = taken; at = end; last = false })
          done = turned_as (on_rest made.turned) (stepped_as room made.next taken (Line.step a.clock.instant seconds) placed put)

          pub turns_less : t.options.duration - arrays.clock.instant < t.options.duration - a.clock.instant
          turns_less = omega (arith, going_less g.going rdy done, duration_is, now_instant, instant_is made.next made.met.held)

          pub turns_step : {later-wants : ℕ}
              → later-wants ≡ wants_input t.options.duration arrays.clock.instant whole-input (length input - (used + taken)) ((1 + 2 * values_by t.load) * 4)
              → Turns p s input whole-input before later arrays current (used + taken) end later-wants
          turns_step q = record {
            state = made.next;
            meets = made.met;
            going = going_turn g.going rdy done bytes_are
                (q
                ∙ ap (λ (n : ℕ). wants_input n arrays.clock.instant whole-input (length input - (used + taken)) ((1 + 2 * values_by t.load) * 4)) duration_is
                ∙ ap (λ (n : ℕ). wants_input p.options.duration n whole-input (length input - (used + taken)) ((1 + 2 * values_by t.load) * 4)) (instant_is made.next made.met.held));
          }

-- ---- of every project that the tables and the first arrays are of
abbrev pub AllTurns : Tables → List Float → Lists → List ℕ → Bool → List ℕ → List ℕ → Lists → ℕ → ℕ → ℕ → ℕ → Type 0
AllTurns t multipliers a₀ input whole-input before after a in-force used written wants =
    (p : Project) (s : State) → Begins p s t multipliers a₀ → Turns p s input whole-input before after a in-force used written wants

-- what a step may count on
pub can_now : (wants room instant duration : ℕ) {r : Bool} → r ≡ (can_turn false wants room && ltb instant duration) → r ≡ true → (can_turn false wants room ≡ true) × (instant < duration)
can_now wants room instant duration e q =
    (both_left (can_turn false wants room) (ltb instant duration) (sym e ∙ q), ltb-true instant duration (both_right (can_turn false wants room) (ltb instant duration) (sym e ∙ q)))

-- a turn that can be made and is no step is at the duration
pub late_now : (wants room instant duration : ℕ) {r : Bool} → r ≡ (can_turn false wants room && ltb instant duration) → r ≡ false → can_turn false wants room ≡ true → duration ≤ instant
late_now wants room instant duration e q can =
    ltb-false instant duration (subst (λ (y : Bool). (y && ltb instant duration) ≡ false) can (sym e ∙ q))
