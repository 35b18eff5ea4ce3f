-- `list_call::load_call` meets its contract. Assumes nothing.
use Prim.Native.Nat.{ℕ, ◌+◌, ◌-◌}
use mathlib.Core.Path.{◌≡◌, ap, ◌∙◌}
use mathlib.Core.List.{List}
use native.Mathlib.Omega.{arith}
use lib.ListN.{take, drop}
use Rattle.calls.specs.Calls.{load}
use Rattle.list_call.proofs.load_call.Goals as goal

part : (words : List ℕ) (count w : ℕ) → count ≡ w → take (2 + count - 2) (drop 2 words) ≡ take w (drop 2 words)
part words count w e =
    let q : 2 + count - 2 ≡ w = omega arith in
    ap (λ k. take k (drop 2 words)) q

pub returns : goal.returns
returns c = c.take_load.ensures ∙ ap (λ ws. load c.args.p ws c.args.s) (part c.args.words.now _ _ c.word.ensures)
