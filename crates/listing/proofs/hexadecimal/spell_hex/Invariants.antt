use Rattle.listing.specs.Numbers.{hex_digits}
use Rattle.listing.proofs.HexDigits.{HexSpelled}
use Rattle.listing.proofs.hexadecimal.spell_hex.Given as goal

abbrev pub invariant-loop-i : goal.invariant-loop-i
invariant-loop-i l = HexSpelled l.initial.buf l.at (hex_digits 8 l.n) l.buf l.i l.rest
