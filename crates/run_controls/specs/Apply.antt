-- Needs no belief: `apply_controls` over the rows of the controls and the arrays of the links. state's `apply-controls-is` shows that it comes to
-- `apply_controls`.
use Rattle.std.specs.Prelude.{ℕ, Bool, false, cond, not, ◌&&◌, List, eqb, Float, get_or, set}
use Rattle.std.specs.Float.{nan}
use Rattle.std.specs.Float.Ieee.{le, neg}
use Rattle.number.specs.Constants.{l_tol}
use Rattle.number.specs.Operators.{◌⊖◌}
use Rattle.model.specs.Loops.{through}
use Rattle.model.specs.declared.state.LinkState.{LinkState}
use Rattle.run_state.specs.declared.Links.{Links}
use Rattle.run_rows.specs.Rows.{row_at}
use Rattle.run_rows.specs.declared.rows.Row.{Row}

-- whether a row of a kind acts, from how far the head stands above the target
unfoldable pub due_by : ℕ → Float → ℕ → ℕ → ℕ → Bool
due_by kind above seconds time clock =
    cond (eqb kind 1) (not (eqb time 0) && le (neg l_tol) above)
    (cond (eqb kind 2) (not (eqb time 0) && le above l_tol)
    (cond (eqb kind 3) (eqb seconds time)
    (cond (eqb kind 4) (eqb seconds clock) false)))

abbrev pub is_due : Row → Float → ℕ → ℕ → Bool
is_due r head time clock = due_by r.kind (head ⊖ r.elevation ⊖ r.target) r.seconds time clock

-- what a row makes of its link's state
unfoldable pub acted : Bool → Row → LinkState → LinkState
acted on r x =
    cond on
    (cond (eqb r.action 1) (record { flow = r.flow; status = r.status; setting = x.setting })
    (cond (eqb r.action 2) (record { flow = r.flow; status = x.status; setting = r.setting }) x))
    x

-- a link's state in the arrays, and the arrays with another there
abbrev pub link_in : Links → ℕ → LinkState
link_in ls l = record { flow = get_or ls.flows l nan; status = get_or ls.statuses l 0; setting = get_or ls.settings l nan }

abbrev pub with_link_in : Links → ℕ → LinkState → Links
with_link_in ls l y =
    record { flows = set ls.flows l y.flow; statuses = set ls.statuses l y.status; settings = set ls.settings l y.setting }

-- row i's turn, on the links as they are by then
abbrev pub row_turn : List ℕ → List Float → List Float → ℕ → ℕ → ℕ → Links → Links
row_turn words numbers heads time clock i ls =
    let r = row_at words numbers i in
    with_link_in ls r.link (acted (is_due r (get_or heads r.node nan) time clock) r (link_in ls r.link))

-- in order
unfoldable pub links_after : List ℕ → List Float → ℕ → List Float → ℕ → ℕ → Links → Links
links_after words numbers n heads time clock ls = through n (row_turn words numbers heads time clock) ls
