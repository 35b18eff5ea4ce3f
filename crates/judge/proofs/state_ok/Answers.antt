-- `judge::state_ok` meets its contract. Assumes nothing.
use mathlib.Core.Path.{◌≡◌, ◌∙◌}
use native.Mathlib.Omega.{arith}
use lib.ListN.{length}
use Rattle.model.proofs.Loops.{all_first}
use Rattle.model.specs.Blank.{blank_node_state, blank_link_state}
use Rattle.judge.specs.Judgement.{node_state_ok, link_state_ok}
use Rattle.judge.proofs.state_ok.Goals as goal

pub returns : goal.returns
returns c =
    let few = c.requires in
    let nodes_long : length c.args.s.nodes ≡ 256 = c.well_formed.1.1.0.1.1.0.1.0.1 in
    let links_long : length c.args.s.links ≡ 384 = c.well_formed.1.1.0.1.1.1.0.1.0.1 in
    rw (
      c.state_clock_ok.ensures,
      c.node_states_ok.ensures ∙ all_first node_state_ok c.args.s.nodes blank_node_state c.args.counts.nodes (omega (arith, few.nodes)),
      c.link_states_ok.ensures ∙ all_first link_state_ok c.args.s.links blank_link_state c.args.counts.links (omega (arith, few.links)),
    )
