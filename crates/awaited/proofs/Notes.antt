-- The lists have, by a control's number, what it waits for. Assumes nothing.
use mathlib.Core.Path.{◌≡◌, ◌∙◌}
use mathlib.Core.List.{List}
use Prim.Native.Nat.{ℕ, ◌≤◌, ◌<◌}
use lib.ListN.{get_or, replicate}
use borrow.Author.Tests.{lt-ltb}
use Rattle.std.specs.Prelude.{Option, None}
use Rattle.clock.specs.Triggers.{Trigger}
use Rattle.model.specs.declared.control.Control.{Control}
use Rattle.model.proofs.Pointwise.{each_at}
use Rattle.control.specs.Controls.{Level}
use Rattle.awaited.specs.Awaited.{trigger_in, notes}

pub notes_at : (of : Trigger Level → Option ℕ) (controls : List Control) (n i : ℕ) → n ≤ 64 → i < n → get_or (notes of controls n) i None ≡ of (trigger_in controls i)
unfolding notes
notes_at of controls n i m l =
    each_at None n (λ k x. of (trigger_in controls k)) (replicate 64 None) m i ∙ rw (lt-ltb i n l)
