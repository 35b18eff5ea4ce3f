-- Document 01, number 10: "tables break 4 to 6", of the counts and of one entry. The tests of a record are the decoder's own (`table_ranges` and the crates
-- of each kind's records).
use Rattle.std.specs.Prelude.{ℕ, ◌+◌, ◌*◌, Bool, ◌&&◌, List, leb, Float, get_or}
use Rattle.std.specs.Float.{nan}
use Rattle.model.specs.Loops.{all_below}
use Rattle.model.specs.declared.control.Control.{Control}
use Rattle.model.specs.declared.link.Link.{Link}
use Rattle.model.specs.declared.node.Node.{Node}
use Rattle.model.specs.declared.project.Counts.{Counts}
use Rattle.model.specs.declared.rule.Premise.{Premise}
use Rattle.table_ranges.specs.Ranges.{number_ok}
use Rattle.table_node.specs.Records.{node_ok, node_indices_ok}
use Rattle.table_link.specs.Records.{link_ok, link_indices_ok}
use Rattle.table_control.specs.Records.{control_ok, control_indices_ok}
use Rattle.table_premise.specs.Records.{premise_ok, premise_indices_ok}

-- 4: "32 patterns, 256 nodes, 384 links, 64 controls, 128 premises"
unfoldable pub counts_ok : Counts → Bool
counts_ok c = leb c.patterns 32 && leb c.nodes 256 && leb c.links 384 && leb c.controls 64 && leb c.premises 128

-- Pattern k, "1 to 168 multipliers". In the image its length is a payload size (2); in tables handed in it is a number that can be wrong.
abbrev pub multiplier_ok : List Float → ℕ → ℕ → Bool
multiplier_ok ms k i = number_ok (get_or ms (k * 168 + i) nan)

unfoldable pub multipliers_ok : List Float → ℕ → ℕ → Bool
multipliers_ok ms k n = all_below n (multiplier_ok ms k)

unfoldable pub pattern_ok : List Float → ℕ → ℕ → Bool
pattern_ok ms k n = leb 1 n && leb n 168 && multipliers_ok ms k n

-- 5, then 6, of each record
unfoldable pub node_fits : ℕ → Node → Bool
node_fits patterns n = node_ok n.kind && node_indices_ok patterns n.kind

unfoldable pub link_fits : ℕ → Link → Bool
link_fits nodes l = link_ok l && link_indices_ok nodes l

unfoldable pub control_fits : ℕ → ℕ → Control → Bool
control_fits nodes links c = control_ok c && control_indices_ok nodes links c

unfoldable pub premise_fits : ℕ → ℕ → Premise → Bool
premise_fits nodes links q = premise_ok q && premise_indices_ok nodes links q.target
