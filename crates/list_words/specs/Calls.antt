-- "Take any list of these calls, refused ones included, from an accepted project's start: patterns, controls, loads, tank-link closing, pressure pass,
-- premises, steps." Document 02 adds the step by the second clock (R-10) and closing by the table of the tanks' links (R-8).
use Rattle.std.specs.Prelude.{ℕ, Bool, true, false, List}

pub data Call : Type 0 where
  patterns : Call
  controls : Call
  load : List ℕ → Call
  tank_links : Call
  pressure : Call
  premise : ℕ → Call
  step : Call
  second : Call
  tank_links_by_table : Call

-- whether a call asks for a step, on a project that the second clock serves or does not: "a refused step is not one asked"
abbrev pub is_step : Bool → Call → Bool
is_step serves patterns = false
is_step serves controls = false
is_step serves (load words) = false
is_step serves tank_links = false
is_step serves pressure = false
is_step serves (premise i) = false
is_step serves step = true
is_step serves second = serves
is_step serves tank_links_by_table = false
