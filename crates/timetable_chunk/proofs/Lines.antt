-- The lines of some instants, put one behind the other. Assumes nothing.
use Prim.Native.Nat.{ℕ, ◌+◌, ◌*◌, ◌≤◌, ◌<◌}
use mathlib.Core.Path.{◌≡◌, refl, sym, ap, ◌∙◌}
use mathlib.Core.List.{List, [], ◌∷◌, ◌++◌, append_assoc, append-nil}
use native.Mathlib.Numerals.{add-one}
use native.Mathlib.Omega.{arith}
use lib.ListN.{length, take, get_or, length-append}
use lib.Seq.{length-take-le, take_all, take-suc}
use Rattle.listing.specs.Listing.{number_line}
use Rattle.listing.specs.Text.{put, after, pasted}
use Rattle.listing.proofs.Digits.{digits_count}
use Rattle.listing.proofs.Listing.{labelled_length}
use Rattle.listing.proofs.Pasting.{Put, put_begun, put_then, put_same, put_as, put_fits}
use Rattle.timetable_chunk.specs.Timetable.{lines_text}

-- a line has at most ten digits and its end
pub number_short : (n : ℕ) → length (number_line n) ≤ 11
number_short n = omega (arith, labelled_length [] n, (digits_count 9 n).1)

pub lines_short : (us : List ℕ) → length (lines_text us) ≤ length us * 11
unfolding lines_text
lines_short [] = omega arith
lines_short (u ∷ us) = omega (arith, length-append (number_line u) (lines_text us), number_short u, lines_short us)

pub lines_append : (us vs : List ℕ) → lines_text (us ++ vs) ≡ lines_text us ++ lines_text vs
unfolding lines_text
lines_append [] vs = refl
lines_append (u ∷ us) vs = ap (λ (t : List ℕ). number_line u ++ t) (lines_append us vs) ∙ sym (append_assoc (number_line u) (lines_text us) (lines_text vs))

lines_one : (u : ℕ) → lines_text (u ∷ []) ≡ number_line u
unfolding lines_text
lines_one u = append-nil (number_line u)

lines_more : (us : List ℕ) (i : ℕ) → i < length us → lines_text (take i us) ++ number_line (get_or us i 0) ≡ lines_text (take (i + 1) us)
lines_more us i l = sym (rw (add-one i, take-suc us i 0 l, lines_append (take i us) (get_or us i 0 ∷ [])) (rw (lines_one (get_or us i 0))))

-- the first i of them are put
pub record Lines (us before now : List ℕ) (at i : ℕ) : Type 0 where
  pub most : i ≤ length us
  pub put : Put before 0 (lines_text (take i us)) now at

module _ {us before : List ℕ} where
  pub lines_begun : Lines us before before 0 0
  unfolding lines_text
  lines_begun = record { most = omega arith; put = put_begun (omega arith) }

  module _ {now : List ℕ} {at i : ℕ} (f : Lines us before now at i) where
    pub lines_same : length now ≡ length before
    lines_same = put_same f.put

    pub lines_turned : {next : List ℕ} {end : ℕ} → length us * 11 ≤ length before → i < length us → end ≡ after now at (number_line (get_or us i 0)) → next ≡ put now at (number_line (get_or us i 0))
        → Lines us before next end (i + 1)
    lines_turned {next} {end} room l e q =
        let u = get_or us i 0 in
        let before-end : at + length (number_line u) ≤ length now =
        omega (arith, lines_same, f.put.place, lines_short (take i us), length-take-le i us f.most, number_short u) in
        let one = put_fits (number_line u) before-end e q in
        record {
          most = omega arith;
          put = put_as (lines_more us i l) (put_then f.put (number_line u) one.made one.place one.room);
        }

    pub lines_ended : length us ≤ i → (at ≡ length (lines_text us)) × (now ≡ pasted before 0 (lines_text us))
    lines_ended l =
        let all = take_all i us l in
        (f.put.place ∙ rw all (omega arith), f.put.made ∙ rw all)
