-- `driver_io::refill` meets its contract: the bytes at hand come to the front and stay there. Assumes nothing.
use mathlib.Core.Path.{refl}
use Rattle.driver_io.proofs.Shifting.{filled}
use Rattle.driver_io.proofs.refill.Goals as goal

pub returns-then-wants-eq0 : goal.returns-then-wants-eq0
returns-then-wants-eq0 g c = record { used = c.requires.0; have = c.requires.1; same = refl; served = λ n. absurd (n c.if-wants-eq0.true) }

pub returns : goal.returns
returns g c =
    let a = c.args in
    let s = c.shift-kept in
    let e = c.in_ok-n.ensures in
    filled a.h a.wants a.input.now s.new.buf c.read_until.new.buf s.result c.in_ok-n.n c.requires.0 c.requires.1 s.ensures.value s.ensures.buf_after s.auto.buf e.lower_bound.0 e.lower_bound.1 e.buf_unchanged
