-- Needs no belief: a load judged by its count of numbers, and taken into lists of numbers. load's `load-fault-is` and `take-load-is` show what they come to.
use Rattle.std.specs.Prelude.{ℕ, ◌+◌, ◌≤◌, ◌<◌, cond, List, eqb, Float, get_or, set}
use Rattle.std.specs.Float.{nan}
use Rattle.number.specs.Operators.{◌⊕◌, ◌⊖◌}
use Rattle.model.specs.Loops.{through}
use Rattle.run_loads.specs.Values.{value_at, shape_ok, values_ok}

-- the fault of a load that should have so many numbers
abbrev pub fault_of : ℕ → List ℕ → ℕ
fault_of count words = cond (shape_ok count words) (cond (values_ok count words) 0 8) 7

-- ---- flows
abbrev pub flow_taken : List ℕ → ℕ → List Float → List Float
flow_taken words i flows = set flows i (value_at words i)

unfoldable pub flows_taken : List ℕ → ℕ → List Float → List Float
flows_taken words n flows = through n (flow_taken words) flows

-- ---- heads: junction r's stands behind r others and those before the first
pub record JunctionsInside (junctions : List ℕ) (from n : ℕ) : Type 0 where
  pub first : from ≤ 384
  pub most : n ≤ 256
  pub node : (r : ℕ) → r < n → get_or junctions r 0 < 256

abbrev pub head_taken : List ℕ → List ℕ → ℕ → ℕ → List Float → List Float
head_taken words junctions from r heads = set heads (get_or junctions r 0) (value_at words (from + r))

unfoldable pub heads_taken : List ℕ → List ℕ → ℕ → ℕ → List Float → List Float
heads_taken words junctions from n heads = through n (head_taken words junctions from) heads

-- ---- net inflows
pub record LinksInside (starts ends : List ℕ) (n : ℕ) : Type 0 where
  pub most : n ≤ 384
  pub start : (k : ℕ) → k < n → get_or starts k 0 < 256
  pub end : (k : ℕ) → k < n → get_or ends k 0 < 256

-- a flow into the node at e, and out of the one at b: of a node that is no tank the mark is 0
abbrev pub gained_at : ℕ → ℕ → Float → List Float → List Float
gained_at e tank flow demands = set demands e (cond (eqb tank 0) (get_or demands e nan) (get_or demands e nan ⊕ flow))

abbrev pub lost_at : ℕ → ℕ → Float → List Float → List Float
lost_at b tank flow demands = set demands b (cond (eqb tank 0) (get_or demands b nan) (get_or demands b nan ⊖ flow))

abbrev pub flow_summed : List ℕ → List ℕ → List ℕ → List Float → ℕ → List Float → List Float
flow_summed starts ends tanks flows k demands =
    let e = get_or ends k 0 in
    let b = get_or starts k 0 in
    let flow = get_or flows k nan in
    lost_at b (get_or tanks b 0) flow (gained_at e (get_or tanks e 0) flow demands)

unfoldable pub inflows_summed : List ℕ → List ℕ → List ℕ → List Float → ℕ → List Float → List Float
inflows_summed starts ends tanks flows n demands = through n (flow_summed starts ends tanks flows) demands
