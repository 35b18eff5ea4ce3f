-- What demand 3 asks of a machine can be met: a bare clock, whose steps move it by the definition's length and whose other call is refused with
-- number 7, is lawful for every accepted project, and so the claim holds of it. Each law holds by computing. Assumes nothing.
use Prim.Native.Nat.{ℕ, ◌+◌}
use mathlib.Core.Path.{◌≡◌, refl, sym}
use mathlib.Core.Bool.{Bool, true, false, true≢false}
use mathlib.Core.List.{List}
use lib.Dec.{ltb}
use Rattle.clock.specs.declared.length.Times.{Times}
use Rattle.clock.specs.Triggers.{Trigger, Moment, length_at}
use Rattle.clock.specs.Machine.{Machine, bit, final}
use Rattle.clock.specs.Demand3.{Claim}
use Rattle.clock.specs.Lawful.{Accepted, Stepping, Quiet, Lawful, Start}
use Rattle.clock.proofs.Demand3.{demand3}

pub record State : Type 0 where
  pub instant : ℕ
  pub count : ℕ

pub data Call : Type 0 where
  step : Call
  other : Call

module _ {L : Type 0} (o : Times) (ts : List (Trigger L)) (m : Moment L) where
  abbrev length : State → ℕ
  length s = length_at o ts m s.instant

  abbrev number : Call → State → ℕ
  number step s = 0
  number other s = 7

  abbrev after : Call → State → State
  after step s = record { instant = s.instant + length s; count = s.count + bit (ltb 0 (length s)) }
  after other s = s

  abbrev is_step : Call → Bool
  is_step step = true
  is_step other = false

  abbrev MayGive : Call → ℕ → Type 0
  MayGive step n = n ≡ 0
  MayGive other n = n ≡ 7

  abbrev pub machine : Machine L
  machine =
      record {
        State = State;
        Call = Call;
        number = number;
        after = after;
        is_step = is_step;
        answer = λ c s. length s;
        instant = λ s. s.instant;
        count = λ s. s.count;
        moment = λ s. m;
        MayGive = MayGive;
        Sound = λ s. Unit {0};
      }

  given : (c : Call) (s : State) → Unit {0} → MayGive c (number c s)
  given step s k = refl
  given other s k = refl

  quiet : (c : Call) (s : State) → Unit {0} → is_step c ≡ false → Quiet machine c s
  quiet step s k e = absurd (true≢false e)
  quiet other s k e = record { instant = refl; count = refl }

  stepped : (c : Call) (s : State) → Unit {0} → is_step c ≡ true → Stepping machine o ts c s
  stepped step s k e = record { length = refl; instant = refl; count = refl }
  stepped other s k e = absurd (true≢false (sym e))

  pub lawful : Lawful machine o ts
  lawful = record { sound = λ c s k. tt; number = given; quiet = quiet; step = stepped }

  abbrev pub begin : State
  begin = record { instant = 0; count = 0 }

  pub starts : Start machine begin
  starts = record { sound = tt; instant = refl; count = refl }

  pub claim : Accepted o ts → (calls : List Call) → Claim machine o ts calls begin (final machine calls begin)
  claim ok calls = demand3 machine o ts ok lawful begin starts calls
