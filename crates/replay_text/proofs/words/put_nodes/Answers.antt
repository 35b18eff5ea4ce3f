-- `replay_text::words::put_nodes` meets its contract: the text of those so far is the invariant. Assumes nothing.
use native.Mathlib.Omega.{arith}
use Rattle.listing.proofs.Pasting.{put_begun, put_then, put_as, put_same}
use Rattle.model.specs.Blank.{node_state_at}
use Rattle.replay_text.specs.Lines.{node_text, nodes_text}
use Rattle.replay_text.proofs.Pieces.{node_length, nodes_length, nodes_more}
use Rattle.replay_text.proofs.words.put_nodes.Goals as goal

pub loop-i-init : goal.loop-i-init
unfolding nodes_text
loop-i-init c = put_begun (omega (arith, c.requires.n_in_bounds))

pub put_node-o-requires : goal.put_node-o-requires
put_node-o-requires c = omega (arith, c.loop-i.invariant.place, nodes_length c.loop-i.i c.args.s.now, put_same c.loop-i.invariant)

pub loop-i-preserved : goal.loop-i-preserved
loop-i-preserved c =
    let s = c.args.s.now in
    let i = c.loop-i.i in
    let inv = c.loop-i.invariant in
    put_as (nodes_more i s) (put_then inv (node_text (node_state_at s i)) c.put_node-o.ensures.out_after c.put_node-o.ensures.value (omega (arith, inv.place, nodes_length i s, node_length (node_state_at s i), put_same inv, c.put_node-o.ensures.value)))
