-- Document 01, module 4: `initial_flow` and `initial_setting` of link.rs, pipe.rs and valve.rs.
use Rattle.std.specs.Prelude.{ℕ, ◌||◌, cond, eqb, Float}
use Rattle.number.specs.Constants.{decimal, PI, q_zero}
use Rattle.number.specs.Operators.{◌·◌}
use Rattle.model.specs.declared.link.Link.{Link}
use Rattle.model.specs.declared.link.LinkType.{LinkType}
use Rattle.model.specs.declared.link.LinkType.TheVariants.{Pipe, Pump, Valve}

-- "Statuses are 0 to 9 in `LinkStatus` order"
abbrev pub TempClosed : ℕ
TempClosed = 1

abbrev pub Closed : ℕ
Closed = 2

abbrev pub FixedClosed : ℕ
FixedClosed = 9

-- "a pipe or valve 0.25 × PI × (diameter × diameter). `Pump::initial_flow` is not in the text; the image carries its value."
abbrev pub open_flow : LinkType → Float
open_flow (Pipe diameter) = decimal 25 2 · PI · (diameter · diameter)
open_flow (Pump flow speed) = flow
open_flow (Valve diameter setting) = decimal 25 2 · PI · (diameter · diameter)

-- "Initially Closed or FixedClosed gives Q_ZERO"
unfoldable pub initial_flow : Link → Float
initial_flow l = cond (eqb l.initial_status FixedClosed || eqb l.initial_status Closed) q_zero (open_flow l.kind)

-- "A pipe's setting is +0.0."
abbrev pub initial_setting_of : LinkType → Float
initial_setting_of (Pipe diameter) = decimal 0 0
initial_setting_of (Pump flow speed) = speed
initial_setting_of (Valve diameter setting) = setting

abbrev pub initial_setting : Link → Float
initial_setting l = initial_setting_of l.kind
