-- `replay_text::words::put_links` meets its contract: the text of those so far is the invariant. Assumes nothing.
use native.Mathlib.Omega.{arith}
use Rattle.listing.proofs.Pasting.{put_begun, put_then, put_as, put_same}
use Rattle.model.specs.Blank.{link_state_at}
use Rattle.replay_text.specs.Lines.{link_text, links_text}
use Rattle.replay_text.proofs.Pieces.{link_length, links_length, links_more}
use Rattle.replay_text.proofs.words.put_links.Goals as goal

pub loop-i-init : goal.loop-i-init
unfolding links_text
loop-i-init c = put_begun (omega (arith, c.requires.n_in_bounds))

pub put_link-o-requires : goal.put_link-o-requires
put_link-o-requires c = omega (arith, c.loop-i.invariant.place, links_length c.loop-i.i c.args.s.now, put_same c.loop-i.invariant)

pub loop-i-preserved : goal.loop-i-preserved
loop-i-preserved c =
    let s = c.args.s.now in
    let i = c.loop-i.i in
    let inv = c.loop-i.invariant in
    put_as (links_more i s) (put_then inv (link_text (link_state_at s i)) c.put_link-o.ensures.out_after c.put_link-o.ensures.value (omega (arith, inv.place, links_length i s, link_length (link_state_at s i), put_same inv, c.put_link-o.ensures.value)))
