use Rattle.std.proofs.Common.{arith}
use Rattle.std.proofs.lemmas.Grind.{common_steps}
use Rattle.listing.specs.Text.{pasted}
use Rattle.listing.proofs.text.copy_text.Goals as goal

pub returns-clause-buf_after : goal.returns-clause-buf_after
unfolding pasted
returns-clause-buf_after c = grind (arith, common_steps)
