-- `list_words::steps_asked` meets its contract. Assumes nothing.
use mathlib.Core.Bool.{Bool, true, false}
use mathlib.Core.Path.{◌≡◌, refl}
use mir.Val.{bool_byte}
use borrow.Author.Rules.{rules}
use borrow.Author.Tests.{ne_eqb}
use Rattle.std.proofs.Common.{tests}
use Rattle.clock.specs.Machine.{bit}
use Rattle.list_words.proofs.Codes.{asked_by_code}
use Rattle.list_words.proofs.steps_asked.Goals as goal

byte : (b : Bool) → bool_byte b ≡ bit b
byte true = refl
byte false = refl

pub returns-in-7 : goal.returns-in-7
returns-in-7 c = rw (asked_by_code c.args.serves c.args.words.now _ c.word.ensures, c.in-7.is)

pub returns-in-8 : goal.returns-in-8
returns-in-8 c = rw (asked_by_code c.args.serves c.args.words.now _ c.word.ensures, c.in-8.is, c.from.ensures) (byte c.args.serves)

pub returns-in_default : goal.returns-in_default
returns-in_default c = rw (asked_by_code c.args.serves c.args.words.now _ c.word.ensures, ne_eqb c.word.result 7 (search (rules, tests)), ne_eqb c.word.result 8 (search (rules, tests)))
