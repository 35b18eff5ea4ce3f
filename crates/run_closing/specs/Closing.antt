-- Needs no belief: `update_tank_links` by the table of the tanks' links as the code makes it, pass by pass over lists of numbers. `closed-by-is` shows that it comes to
-- `update_tank_links`.
use Rattle.std.specs.Prelude.{ℕ, ◌+◌, ◌-◌, ◌≤◌, ◌<◌, Bool, cond, ◌&&◌, ◌||◌, List, Float, get_or, set}
use Rattle.std.specs.Float.{nan}
use Rattle.std.specs.Float.Ieee.{lt}
use Rattle.number.specs.Constants.{decimal}
use Rattle.number.specs.Operators.{◌⊕◌, ◌⊖◌}
use Rattle.model.specs.Links.{TempClosed}
use Rattle.model.specs.Loops.{through}
use Rattle.state_link.specs.Closing.{fill_closed, empty_closed}
use Rattle.run_tables.specs.Rows.{tank_at}

-- ---- the passes
pub record PartInside (links : List ℕ) (from n : ℕ) : Type 0 where
  pub most : from + n ≤ 768
  pub link : (i : ℕ) → i < n → get_or links (from + i) 0 < 384

pub record GroupInside (begins middles links : List ℕ) (k : ℕ) : Type 0 where
  pub first : get_or begins k 0 ≤ get_or middles k 0
  pub second : get_or middles k 0 ≤ get_or begins (k + 1) 0
  pub into : PartInside links (get_or begins k 0) (get_or middles k 0 - get_or begins k 0)
  pub out : PartInside links (get_or middles k 0) (get_or begins (k + 1) 0 - get_or middles k 0)

abbrev pub GroupsInside : List ℕ → List ℕ → List ℕ → ℕ → Type 0
GroupsInside begins middles links n = (k : ℕ) → k < n → GroupInside begins middles links k

unfoldable pub marked : Bool → Bool → Float → ℕ → ℕ
marked forward backward flow status = cond (forward && lt (decimal 0 0) flow || backward && lt flow (decimal 0 0)) TempClosed status

abbrev pub link_marked : List Float → Bool → Bool → ℕ → List ℕ → List ℕ
link_marked flows forward backward l statuses = set statuses l (marked forward backward (get_or flows l nan) (get_or statuses l 0))

unfoldable pub part_closed : List ℕ → ℕ → ℕ → List Float → Bool → Bool → List ℕ → List ℕ
part_closed links from n flows forward backward statuses = through n (λ i. link_marked flows forward backward (get_or links (from + i) 0)) statuses

unfoldable pub added : List ℕ → ℕ → ℕ → List Float → Float → Float
added links from n flows sum = through n (λ i x. x ⊕ get_or flows (get_or links (from + i) 0) nan) sum

unfoldable pub taken : List ℕ → ℕ → ℕ → List Float → Float → Float
taken links from n flows sum = through n (λ i x. x ⊖ get_or flows (get_or links (from + i) 0) nan) sum

abbrev pub group_closed : List ℕ → List Float → List ℕ → List ℕ → List ℕ → List ℕ → List Float → List Float → ℕ → List ℕ → List ℕ
group_closed nodes numbers overflows begins middles links heads flows k statuses =
    let t = tank_at numbers overflows k in
    let head = get_or heads (get_or nodes k 0) nan in
    let middle = get_or middles k 0 in
    part_closed links middle (get_or begins (k + 1) 0 - middle) flows (empty_closed t head) (fill_closed t head)
    (part_closed links (get_or begins k 0) (middle - get_or begins k 0) flows (fill_closed t head) (empty_closed t head) statuses)

unfoldable pub links_closed : List ℕ → List Float → List ℕ → List ℕ → List ℕ → List ℕ → ℕ → List Float → List Float → List ℕ → List ℕ
links_closed nodes numbers overflows begins middles links n heads flows statuses =
    through n (group_closed nodes numbers overflows begins middles links heads flows) statuses

abbrev pub inflow_of : List ℕ → List ℕ → List ℕ → List Float → ℕ → Float
inflow_of begins middles links flows k =
    let middle = get_or middles k 0 in
    taken links middle (get_or begins (k + 1) 0 - middle) flows (added links (get_or begins k 0) (middle - get_or begins k 0) flows (decimal 0 0))

unfoldable pub demands_summed : List ℕ → List ℕ → List ℕ → List ℕ → ℕ → List Float → List Float → List Float
demands_summed nodes begins middles links n flows demands =
    through n (λ k ds. set ds (get_or nodes k 0) (inflow_of begins middles links flows k)) demands
