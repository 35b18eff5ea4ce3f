-- A list of calls as words.
use Rattle.std.specs.Prelude.{ℕ, zero, suc, ◌+◌, ◌-◌, Bool, true, cond, ◌&&◌, List, [], ◌∷◌, eqb, leb, length, take, drop}
use Rattle.image_entry.specs.Words.{word}
use Rattle.list_words.specs.Calls.{Call, patterns, controls, load, tank_links, pressure, premise, step, second, tank_links_by_table, is_step}

-- A call is a code and what it needs: 1 patterns, 2 controls, 3 load (then the count of its words, then the words, header and all), 4 tank-link
-- closing, 5 pressure pass, 6 premise (then its number), 7 step, 8 step by the second clock, 9 closing by the table of the tanks' links.
-- What words that are no call are read as counts for nothing: they are refused (`call_ok`).
unfoldable pub call_of : List ℕ → Call
call_of words =
    let code = word words 0 in
    cond (eqb code 1) patterns
    (cond (eqb code 2) controls
    (cond (eqb code 3) (load (take (word words 1) (drop 2 words)))
    (cond (eqb code 4) tank_links
    (cond (eqb code 5) pressure
    (cond (eqb code 6) (premise (word words 1))
    (cond (eqb code 7) step
    (cond (eqb code 8) second tank_links_by_table)))))))

-- how many words the first call has
unfoldable pub call_length : List ℕ → ℕ
call_length words =
    let code = word words 0 in
    cond (eqb code 3) (2 + word words 1) (cond (eqb code 6) 2 1)

-- its code is one of these, and it is not cut
unfoldable pub call_ok : List ℕ → Bool
call_ok words =
    let code = word words 0 in
    leb 1 code && leb code 9 && leb (call_length words) (length words)

-- whether the first call is one, and asks for a step
unfoldable pub asks_step : Bool → List ℕ → Bool
asks_step serves words = call_ok words && is_step serves (call_of words)

-- The calls of some words, of which the first `skip` belong to the call before; then a call begins.
unfoldable pub calls_of : ℕ → List ℕ → List Call
calls_of skip [] = []
calls_of (suc skip) (w ∷ ws) = calls_of skip ws
calls_of zero (w ∷ ws) = call_of (w ∷ ws) ∷ calls_of (call_length (w ∷ ws) - 1) ws

unfoldable pub list_ok : ℕ → List ℕ → Bool
list_ok skip [] = true
list_ok (suc skip) (w ∷ ws) = list_ok skip ws
list_ok zero (w ∷ ws) = call_ok (w ∷ ws) && list_ok (call_length (w ∷ ws) - 1) ws
