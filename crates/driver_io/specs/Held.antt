-- Needs no belief: the input at hand in the driver's buffer.
use Rattle.std.specs.Prelude.{ℕ, ◌-◌, ◌≤◌, ◌≡◌, true, ◌⊎◌, List, length, take, drop}
use Rattle.driver_io.specs.declared.Held.{Held}

-- the bytes that were at hand still are, in front; and as many as were wanted, or no more come
pub record Filled (h : Held) (wants : ℕ) (before after : List ℕ) (r : Held) : Type 0 where
  pub used : r.used ≤ r.have
  pub have : r.have ≤ length before
  pub same : take (h.have - h.used) (drop r.used after) ≡ take (h.have - h.used) (drop h.used before)
  pub served : (wants ≡ 0 → ⊥) → (r.whole ≡ true) ⊎ (wants ≤ r.have - r.used)
