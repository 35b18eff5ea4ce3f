-- Document 02, R-14: "a run from its start visits exactly these, each once, rising", of a machine's lists of calls (clock/specs/Machine.antt).
use Rattle.std.specs.Prelude.{ℕ, ◌≡◌, cond, List, [], ◌∷◌, eqb, length}
use Rattle.clock.specs.Machine.{Machine}
use Rattle.clock.specs.Triggers.{Trigger}
use Rattle.clock.specs.declared.length.Times.{Times}
use Rattle.stops.specs.Stops.{stops}

-- the instants that the clock is moved to along a list of calls, in order
unfoldable pub visited : {L : Type 0} (M : Machine L) → List M.Call → M.State → List ℕ
visited M [] s = []
visited M (c ∷ cs) s =
    let u = M.after c s in
    cond (eqb (M.instant u) (M.instant s)) (visited M cs u) (M.instant u ∷ visited M cs u)

-- of the state z that a list of calls leaves from the start s
pub record Exact {L : Type 0} (M : Machine L) (o : Times) (ts : List (Trigger L)) (calls : List M.Call) (s z : M.State) : Type 0 where
  -- "visits exactly these, each once, rising: .. all above 0": those not past the instant that the list has come to, which at the duration are all
  pub visits : visited M calls s ≡ stops o ts 0 (M.instant z)
  -- "After each list of demand 3 the reported count equals the number of those not past its instant"
  pub counts : M.count z ≡ length (stops o ts 0 (M.instant z))
