use Rattle.listing.proofs.Pasting.{Put}
use Rattle.replay_text.specs.Lines.{links_text}
use Rattle.replay_text.proofs.words.put_links.Given as goal

abbrev pub invariant-loop-i : goal.invariant-loop-i
invariant-loop-i l = Put l.initial.out l.at (links_text l.i l.s) l.out l.o
