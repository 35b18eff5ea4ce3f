-- What `advance` promises of a run of turns, and a run made in chunks, as the program makes it: no contract can say that `driver_io` does, but its loop is short
-- enough to read beside `Chunked`.
use Rattle.std.specs.Prelude.{ℕ, ◌-◌, ◌≤◌, ◌<◌, ◌≡◌, Bool, true, false, cond, ◌⊎◌, List, [], ◌++◌, ltb, leb, eqb, Float, length, take, drop}
use Rattle.listing.specs.Text.{pasted}
use Rattle.listing.specs.Listing.{Line, text_of}
use Rattle.model.specs.declared.project.Project.{Project}
use Rattle.model.specs.declared.state.State.{State}
use Rattle.judge.specs.Judgement.{in_order}
use Rattle.driver_tables.specs.Laid.{Laid}
use Rattle.driver_tables.specs.declared.Tables.{Tables}
use Rattle.driver_load.specs.Sizes.{load_bytes}
use Rattle.driver_chunk.specs.declared.Chunk.{Chunk}
use Rattle.driver_chunk.specs.Runs.{turns}

-- how many bytes a turn waits for, a load's where fewer are left: 0 where no more come, and at the duration, where none is read
abbrev pub wants_input : ℕ → ℕ → Bool → ℕ → ℕ → ℕ
wants_input duration instant whole left size = cond whole 0 (cond (ltb instant duration) (cond (ltb left size) size 0) 0)

-- whether there is room for a line, and input for a turn
abbrev pub can_turn : Bool → ℕ → ℕ → Bool
can_turn over wants room = cond over false (cond (eqb wants 0) (leb 22 room) false)

-- r is a run of turns from s on the input, whatever may come after the input; its text stands at the start of the buffer.
-- How many turns there are is left free, but that there is one wherever there can be.
pub record TurnsRan (p : Project) (s : State) (input : List ℕ) (whole : Bool) (before after : List ℕ) (r : Chunk) : Type 0 where
  pub count : ℕ
  pub lines : List Line
  pub made : after ≡ pasted before 0 (text_of lines)
  pub written : r.written ≡ length (text_of lines)
  pub room : r.written ≤ length before
  pub used : r.used ≤ length input
  pub ran :
      (more : List ℕ) (had : List Line) → (whole ≡ true → more ≡ []) →
      turns count p (record { state = s; left = input ++ more; lines = had; over = false })
      ≡ record { state = r.state; left = drop r.used input ++ more; lines = had ++ lines; over = r.over }
  pub ordered : in_order p r.state ≡ true
  pub wants : r.wants ≡ wants_input p.options.duration r.state.clock.instant whole (length input - r.used) (load_bytes p)
  pub goes : r.over ≡ false → 22 ≤ length before → (s.clock.instant < r.state.clock.instant) ⊎ ((r.wants ≡ 0 → ⊥) × (s.clock.instant ≡ r.state.clock.instant))
  pub moves : r.over ≡ false → 22 ≤ length before → (whole ≡ true) ⊎ (load_bytes p ≤ length input) → s.clock.instant < r.state.clock.instant

-- what a chunk asks: a project, in order with the state, whose tables and multipliers they are
pub record RunOf (t : Tables) (multipliers : List Float) (s : State) : Type 0 where
  pub project : Project
  pub laid : Laid project t
  pub same : multipliers ≡ project.multipliers
  pub ordered : in_order project s ≡ true

-- and what it promises of every such project
abbrev pub Advanced : Tables → List Float → State → List ℕ → Bool → List ℕ → List ℕ → Chunk → Type 0
Advanced t multipliers s input whole before after r =
    (p : Project) → Laid p t → multipliers ≡ p.multipliers → in_order p s ≡ true → TurnsRan p s input whole before after r

-- A run made in chunks, as the program makes it: from s on the bytes, with the text that it writes in all. Each chunk is given a front of the bytes
-- that are left; where it is told that no more comes, there is no more.
pub data Chunked (p : Project) : State → List ℕ → List ℕ → Type 0 where
  last : {s : State} {input rest : List ℕ} {whole : Bool} {before after : List ℕ} {r : Chunk} → TurnsRan p s input whole before after r
      → (whole ≡ true → rest ≡ []) → r.over ≡ true → Chunked p s (input ++ rest) (take r.written after)
  more : {s : State} {input rest : List ℕ} {whole : Bool} {before after : List ℕ} {r : Chunk} {text : List ℕ} → TurnsRan p s input whole before after r
      → (whole ≡ true → rest ≡ []) → r.over ≡ false → Chunked p r.state (drop r.used input ++ rest) text
      → Chunked p s (input ++ rest) (take r.written after ++ text)
