-- Document 01: the number of each refusal, and of an answer that may be one.
use Rattle.std.specs.Prelude.{ℕ, Result, Ok, Err}
use Rattle.calls.specs.declared.refusal.Refusal.{Refusal}
use Rattle.calls.specs.declared.refusal.Refusal.TheVariants.{NotInOrder, NoPremise}

-- 10: "every later call, first: 10"; 9: "no such premise"
abbrev pub refusal_number : Refusal → ℕ
refusal_number NotInOrder = 10
refusal_number NoPremise = 9

-- 0 where there is an answer
abbrev pub answer_number : {A : Type 0} → Result A Refusal → ℕ
answer_number (Ok x) = 0
answer_number (Err r) = refusal_number r
