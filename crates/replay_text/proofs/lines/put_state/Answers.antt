-- `replay_text::lines::put_state` meets its contract: its pieces are put one behind the other. Assumes nothing.
use Rattle.replay_text.proofs.Pieces.{state_put}
use Rattle.replay_text.proofs.lines.put_state.Goals as goal

pub returns : goal.returns
returns c =
    let a = c.args in
    let p = state_put a.out.now a.at a.counts a.s.now c.min-nodes.ensures c.min-links.ensures c.requires (c.put_word-i.ensures.value, c.put_word-i.ensures.out_after) (c.put_word-j.ensures.value, c.put_word-j.ensures.out_after) (c.put_nodes-k.ensures.value, c.put_nodes-k.ensures.out_after) (c.put_links-l.ensures.value, c.put_links-l.ensures.out_after) c.put_text.ensures.value c.put_text.ensures.buf_after in
    record { value = p.0; out_after = p.1 }
