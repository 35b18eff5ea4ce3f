-- The name of a case is text, since its bytes are ASCII. Assumes nothing.
use Rattle.std.proofs.Common.{◌≡◌, refl, ℕ, suc, zero, ◌+◌, ◌%◌, ◌/◌, ◌<◌, List, [], ◌∷◌, arith, IsOk, MatchResult, Result, Ok, Err}
use Rattle.std.specs.Str.{IsUtf8, IsAscii}
use Rattle.std.proofs.lemmas.Str.{IsUtf8-from_ascii}
use Rattle.case_names.specs.Names.{case_name}

digits_ascii : (a b c : ℕ) → a < 10 → b < 10 → c < 10 → IsAscii (99 ∷ 97 ∷ 115 ∷ 101 ∷ (48 + a) ∷ (48 + b) ∷ (48 + c) ∷ [])
digits_ascii a b c h k l zero = omega arith
digits_ascii a b c h k l (suc zero) = omega arith
digits_ascii a b c h k l (suc (suc zero)) = omega arith
digits_ascii a b c h k l (suc (suc (suc zero))) = omega arith
digits_ascii a b c h k l (suc (suc (suc (suc zero)))) = omega arith
digits_ascii a b c h k l (suc (suc (suc (suc (suc zero))))) = omega arith
digits_ascii a b c h k l (suc (suc (suc (suc (suc (suc zero)))))) = omega arith
digits_ascii a b c h k l (suc (suc (suc (suc (suc (suc (suc n))))))) = omega arith

pub name_utf8 : (i : ℕ) → IsUtf8 (case_name i)
unfolding case_name
name_utf8 i = IsUtf8-from_ascii _ (digits_ascii (i / 100 % 10) (i / 10 % 10) (i % 10) (omega arith) (omega arith) (omega arith))

-- what is refused only where it is no text is not refused where it is
pub ok_where : {T E : Type 0} {U : Type 0} (P : T → Type 0) (Q : E → Type 0) (r : Result T E) → U → MatchResult r P (λ e. (U → ⊥) × Q e) → IsOk r
ok_where P Q (Ok x) u m = refl
ok_where P Q (Err e) u m = absurd (m.0 u)
