-- The lines that the program `replay` prints, as bytes. What is quoted is the description of that program; compare/rust/README.md has it too.
-- Assumes nothing.
use Rattle.std.specs.Prelude.{ℕ, zero, suc, min, ◌/◌, ◌%◌, ◌^◌, Bool, cond, ◌||◌, List, [], ◌∷◌, ◌++◌, eqb, ltb, Float, length}
use Rattle.std.specs.Float.{binary64}
use Rattle.std.specs.Float.Ieee.{to_bits}
use Rattle.listing.specs.Numbers.{decimal_text, hex_text}
use Rattle.listing.specs.Text.{pasted}
use Rattle.model.specs.Blank.{node_state_at, link_state_at}
use Rattle.model.specs.declared.project.Counts.{Counts}
use Rattle.model.specs.declared.state.LinkState.{LinkState}
use Rattle.model.specs.declared.state.NodeState.{NodeState}
use Rattle.model.specs.declared.state.State.{State}

-- "The state is in words of 16 lower-case hexadecimal digits, a space before each": a 64-bit word by its two halves
unfoldable pub word_text : ℕ → List ℕ
word_text w = hex_text (w % 2 ^ 32) (w / 2 ^ 32)

-- "numbers as the bits of the f64"
unfoldable pub number_text : Float → List ℕ
number_text x = word_text (to_bits binary64 x)

-- "for each node head, demand, demand flow"
unfoldable pub node_text : NodeState → List ℕ
node_text x = (number_text x.head ++ number_text x.demand) ++ number_text x.demand_flow

-- "for each link flow, status, setting"
unfoldable pub link_text : LinkState → List ℕ
link_text x = (number_text x.flow ++ word_text x.status) ++ number_text x.setting

-- the first n of them, in order
unfoldable pub nodes_text : ℕ → State → List ℕ
nodes_text zero s = []
nodes_text (suc n) s = nodes_text n s ++ node_text (node_state_at s n)

unfoldable pub links_text : ℕ → State → List ℕ
links_text zero s = []
links_text (suc n) s = links_text n s ++ link_text (link_state_at s n)

-- "instant, count, then for each node .., then for each link .."; "Lines end in byte 10". A count past its table stands for the whole table.
unfoldable pub state_text : Counts → State → List ℕ
state_text c s =
    (((word_text s.clock.instant ++ word_text s.clock.count) ++ nodes_text (min c.nodes 256) s) ++ links_text (min c.links 384) s) ++ (10 ∷ [])

-- "`patterns ok`, `controls ok`, `load ok` or `load refused=N`, `close ok`, `pressure true` or `pressure false`, `premise true`, `premise false` or
-- `premise refused=N`, `step L` with the length in decimal, `slow L` or `slow refused=14`"

-- the name of a call by its code, and a space
unfoldable pub name_text : ℕ → List ℕ
name_text code =
    cond (eqb code 1) (112 ∷ 97 ∷ 116 ∷ 116 ∷ 101 ∷ 114 ∷ 110 ∷ 115 ∷ 32 ∷ [])
    (cond (eqb code 2) (99 ∷ 111 ∷ 110 ∷ 116 ∷ 114 ∷ 111 ∷ 108 ∷ 115 ∷ 32 ∷ [])
    (cond (eqb code 3) (108 ∷ 111 ∷ 97 ∷ 100 ∷ 32 ∷ [])
    (cond (eqb code 4 || eqb code 9) (99 ∷ 108 ∷ 111 ∷ 115 ∷ 101 ∷ 32 ∷ [])
    (cond (eqb code 5) (112 ∷ 114 ∷ 101 ∷ 115 ∷ 115 ∷ 117 ∷ 114 ∷ 101 ∷ 32 ∷ [])
    (cond (eqb code 6) (112 ∷ 114 ∷ 101 ∷ 109 ∷ 105 ∷ 115 ∷ 101 ∷ 32 ∷ [])
    (cond (eqb code 7) (115 ∷ 116 ∷ 101 ∷ 112 ∷ 32 ∷ []) (115 ∷ 108 ∷ 111 ∷ 119 ∷ 32 ∷ [])))))))

unfoldable pub truth_text : Bool → List ℕ
truth_text b = cond b (116 ∷ 114 ∷ 117 ∷ 101 ∷ []) (102 ∷ 97 ∷ 108 ∷ 115 ∷ 101 ∷ [])

-- what a call gives that was not refused: a step by either clock its length, a premise its truth, the pressure pass whether it changed anything
unfoldable pub given_text : ℕ → ℕ → Bool → List ℕ
given_text code seconds truth =
    cond (eqb code 7 || eqb code 8) (decimal_text seconds) (cond (eqb code 6) (truth_text truth) (cond (eqb code 5) (truth_text truth) (111 ∷ 107 ∷ [])))

unfoldable pub refused_text : ℕ → List ℕ
refused_text number = (114 ∷ 101 ∷ 102 ∷ 117 ∷ 115 ∷ 101 ∷ 100 ∷ 61 ∷ []) ++ decimal_text number

unfoldable pub answer_text : ℕ → ℕ → ℕ → Bool → List ℕ
answer_text code number seconds truth = name_text code ++ cond (eqb number 0) (given_text code seconds truth) (refused_text number)

-- "one line a call, each followed by the whole state"
abbrev pub call_line : ℕ → ℕ → ℕ → Bool → Counts → State → List ℕ
call_line code number seconds truth c s = answer_text code number seconds truth ++ state_text c s

-- "a line `start ok`"
abbrev pub start_line : Counts → State → List ℕ
start_line c s = (115 ∷ 116 ∷ 97 ∷ 114 ∷ 116 ∷ 32 ∷ 111 ∷ 107 ∷ []) ++ state_text c s

-- a line at the front of a buffer with room for the longest, and its size; a smaller buffer stays as it was
abbrev pub written : List ℕ → List ℕ → List ℕ
written buf line = cond (ltb (length buf) 32702) buf (pasted buf 0 line)

abbrev pub size : List ℕ → List ℕ → ℕ
size buf line = cond (ltb (length buf) 32702) 0 (length line)
