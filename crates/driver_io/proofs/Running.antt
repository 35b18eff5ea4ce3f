-- The loop of the driver ends: a chunk moves the clock, or waits for input that is then there, or no more comes. Assumes nothing.
use Prim.Native.Nat.{ℕ, ◌+◌, ◌-◌, ◌*◌, ◌≤◌, ◌<◌}
use mathlib.Core.Path.{◌≡◌, refl, ap, ◌∙◌}
use mathlib.Core.Bool.{Bool, true, false, cond}
use mathlib.Core.List.{List}
use mathlib.Core.Logic.{◌⊎◌, inl, inr, ⊎_elim}
use native.Mathlib.Omega.{arith}
use borrow.Author.Tests.{ne_eqb}
use lib.Dec.{eqb}
use lib.Ieee.{Float}
use lib.ListN.{length}
use Rattle.clock.proofs.Tests.{eqb_ind}
use Rattle.model.specs.declared.options.Options.{Options}
use Rattle.model.specs.declared.project.Project.{Project}
use Rattle.model.specs.declared.state.State.{State}
use Rattle.calls_sound.proofs.Theorem.{state_of}
use Rattle.driver_io.specs.declared.Held.{Held}
use Rattle.driver_load.specs.Sizes.{load_words, load_bytes}
use Rattle.driver_load.proofs.Inner.{fit}
use Rattle.driver_tables.specs.declared.Tables.{Tables}
use Rattle.driver_load.specs.Left.{values_by}
use Rattle.driver_turn.proofs.Loads.{values_by_lem}
use Rattle.driver_chunk.specs.declared.Chunk.{Chunk}
use Rattle.driver_chunk.specs.Chunks.{TurnsRan, RunOf, Advanced}
use Rattle.driver_chunk.proofs.Going.{wants_load}

-- what is left to do: a step's seconds count twice, and a chunk that may wait for input once
abbrev pub left : Bool → ℕ → ℕ → ℕ → ℕ
left over duration instant wants = cond over 0 (1 + 2 * (duration - instant) + cond (eqb wants 0) 1 0)

module _ {p : Project} {s : State} {input : List ℕ} {whole : Bool} {before after : List ℕ} {r : Chunk} (a : TurnsRan p s input whole before after r) where
  -- what it waits for is a load
  pub advanced_wants : (r.wants ≡ 0) ⊎ (load_bytes p ≤ r.wants)
  advanced_wants =
      ⊎_elim (λ z. inl (a.wants ∙ z)) (λ z. inr (omega (arith, a.wants, z)))
      (wants_load whole p.options.duration r.state.clock.instant (length input - r.used) (load_bytes p))

  pub advanced_less : (wants : ℕ) → (wants ≡ 0) ⊎ (load_bytes p ≤ wants) → ((wants ≡ 0 → ⊥) → (whole ≡ true) ⊎ (wants ≤ length input)) → 22 ≤ length before
      → left r.over p.options.duration r.state.clock.instant r.wants < left false p.options.duration s.clock.instant wants
  advanced_less wants load served room = by_over r.over refl
    where
      rest : ℕ
      rest = p.options.duration - s.clock.instant

      bit : (b : Bool) → cond b 1 0 ≤ 1
      bit true = omega arith
      bit false = omega arith

      -- the clock has moved
      moved : r.over ≡ false → s.clock.instant < r.state.clock.instant
          → 1 + 2 * (p.options.duration - r.state.clock.instant) + cond (eqb r.wants 0) 1 0 < 1 + 2 * (p.options.duration - s.clock.instant)
      moved z m = omega (arith, m, (state_of p r.state a.ordered).instant, bit (eqb r.wants 0))

      by_over : (b : Bool) → r.over ≡ b
          → left b p.options.duration r.state.clock.instant r.wants < left false p.options.duration s.clock.instant wants
      by_over true z = omega (arith, bit (eqb wants 0))
      by_over false z =
          eqb_ind (λ b. 1 + 2 * (p.options.duration - r.state.clock.instant) + cond (eqb r.wants 0) 1 0 < 1 + 2 * (p.options.duration - s.clock.instant) + cond b 1 0) wants 0
          (λ none.
          ⊎_elim (λ m. omega (arith, moved z m))
          (λ w. rw (ne_eqb r.wants 0 w.0) (omega (arith, w.1)))
          (a.goes z room))
          (λ some.
          let here : (whole ≡ true) ⊎ (load_bytes p ≤ length input) =
          ⊎_elim (λ w. inl w) (λ k. ⊎_elim (λ n. absurd (some n)) (λ m. inr (omega (arith, k, m))) load) (served some) in
          omega (arith, moved z (a.moves z room here)))

-- how many bytes a load has, by the tables
abbrev pub load_size : Tables → ℕ
load_size t = (1 + 2 * values_by t.load) * 4

-- between two chunks
pub record Running (t : Tables) (xs₀ ys₀ xs ys : List ℕ) (held : Held) (wants : ℕ) : Type 0 where
  pub used : held.used ≤ held.have
  pub have : held.have ≤ length xs
  pub input : length xs ≡ length xs₀
  pub out : length ys ≡ length ys₀
  pub load : (wants ≡ 0) ⊎ (load_size t ≤ wants)

-- what a chunk promises, of the project that it asks for
module _ {t : Tables} {multipliers : List Float} {s : State} (q : RunOf t multipliers s)
    {input : List ℕ} {whole : Bool} {before after : List ℕ} {r : Chunk} (a : Advanced t multipliers s input whole before after r) where
  pub ran_by : TurnsRan q.project s input whole before after r
  ran_by = a q.project q.laid q.same q.ordered

  size_is : load_size t ≡ load_bytes q.project
  unfolding load_words
  size_is = rw (values_by_lem q.laid (fit q.project s q.ordered))

  duration_is : t.options.duration ≡ q.project.options.duration
  duration_is = ap (λ (o : Options). o.duration) q.laid.options

  pub wants_by : (r.wants ≡ 0) ⊎ (load_size t ≤ r.wants)
  wants_by = ⊎_elim (λ z. inl z) (λ z. inr (omega (arith, z, size_is))) (advanced_wants ran_by)

  -- the state after it is one to go on from
  pub run_on : RunOf t multipliers r.state
  run_on = record { project = q.project; laid = q.laid; same = q.same; ordered = ran_by.ordered }

  pub less_by : (wants : ℕ) → (wants ≡ 0) ⊎ (load_size t ≤ wants) → ((wants ≡ 0 → ⊥) → (whole ≡ true) ⊎ (wants ≤ length input)) → 22 ≤ length before
      → left r.over t.options.duration r.state.clock.instant r.wants < left false t.options.duration s.clock.instant wants
  less_by wants load served room =
      rw duration_is (advanced_less ran_by wants (⊎_elim (λ z. inl z) (λ z. inr (omega (arith, z, size_is))) load) served room)
