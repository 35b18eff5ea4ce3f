use lib.ListN.{get_or, length}
use mathlib.Core.Path.{◌≡◌}
use Rattle.model.specs.Blank.{blank_node}
use Rattle.run_tables.specs.Held.{Pushed}
use Rattle.run_tables.proofs.nodes.nodes_where.Given as goal

abbrev pub invariant-loop-i : goal.invariant-loop-i
invariant-loop-i g l = record { wide : length l.nodes ≡ 256; pushed : Pushed (λ i. g.holds (get_or l.fn.table i blank_node)) l.i l.nodes l.count }
