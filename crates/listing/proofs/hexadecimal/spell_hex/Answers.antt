-- `listing::hexadecimal::spell_hex` meets its contract: the digits are written from the last to the first. Assumes nothing.
use Rattle.listing.proofs.HexDigits.{hex_count, hex_begun, hex_more, hex_ended}
use Rattle.listing.proofs.hexadecimal.spell_hex.Goals as goal

pub loop-i-init : goal.loop-i-init
loop-i-init c = hex_begun _ _ _

pub loop-i-preserved : goal.loop-i-preserved
loop-i-preserved c = rw c.hex_digit.ensures (hex_more c.requires c.loop-i-test.true c.loop-i.invariant)

pub returns : goal.returns
returns c = record { value = rw (hex_count 8 c.args.n); buf_after = hex_ended c.requires c.loop-i-test.false c.loop-i.invariant }
