-- What a link of the tables (kind 6) has to satisfy: number 5, by the record alone, and number 6, by what is declared.
-- What cannot be written in the tables is judged by the words of an image (image_link/specs).
use Rattle.std.specs.Prelude.{ℕ, Bool, ◌&&◌, not, ltb, eqb}
use Rattle.model.specs.declared.link.Link.{Link}
use Rattle.model.specs.declared.link.LinkType.{LinkType}
use Rattle.model.specs.declared.link.LinkType.TheVariants.{Pipe, Pump, Valve}
use Rattle.table_ranges.specs.Ranges.{diameter_ok, number_ok, status_ok}

unfoldable pub link_type_ok : LinkType → Bool
link_type_ok (Pipe diameter) = diameter_ok diameter
link_type_ok (Pump flow speed) = number_ok flow && number_ok speed
link_type_ok (Valve diameter setting) = diameter_ok diameter && number_ok setting

-- "A link's ends differ."
unfoldable pub link_ok : Link → Bool
link_ok l = not (eqb l.start l.end) && status_ok l.initial_status && link_type_ok l.kind

unfoldable pub link_indices_ok : ℕ → Link → Bool
link_indices_ok nodes l = ltb l.start nodes && ltb l.end nodes
