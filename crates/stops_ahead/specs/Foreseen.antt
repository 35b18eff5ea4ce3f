-- Document 02, R-14: the works whose stops are known beforehand, and the stops above an instant.
use Rattle.std.specs.Prelude.{ℕ, Result, Ok, Err, Option, Some, None, Bool, cond, not, ◌&&◌, ◌||◌, List, [], ◌∷◌, ◌++◌, leb, length, take, drop}
use Rattle.clock.specs.Steps.{DAY}
use Rattle.clock.specs.declared.length.Times.{Times}
use Rattle.model.specs.declared.project.Project.{Project}
use Rattle.tables.specs.Tables.{tables_ok}
use Rattle.simulation.specs.Steps.{no_tanks, times_of, triggers_of}
use Rattle.stops.specs.Stops.{stops_above}
use Rattle.stops_ahead.specs.declared.next.NoStops.{NoStops}
use Rattle.stops_ahead.specs.declared.next.NoStops.TheVariants.{Unforeseen, Refused}

-- ---- the answers of the two calls
abbrev pub StopAnswer : Type 0
StopAnswer = Result (Option ℕ) NoStops

abbrev pub StopsAnswer : Type 0
StopsAnswer = Result ℕ NoStops

-- "Where the hydraulic timestep in force is at least the report or the pattern timestep, the report or the pattern timestep is at most 86,400"
unfoldable pub frequent : Times → Bool
frequent o = (leb o.report o.hydraulic || leb o.pattern o.hydraulic) && (leb o.report DAY || leb o.pattern DAY)

-- "there are no tanks and the fast path is off"
unfoldable pub stops_foreseen : Project → Bool
stops_foreseen p = no_tanks p && (not (times_of p).fast && frequent (times_of p))

-- "multiples of report and of pattern timestep, time-control instants, instants whose clock equals a clock control, and the duration", all above an
-- instant "and not past the duration"
unfoldable pub stops_of : Project → ℕ → List ℕ
stops_of p instant = stops_above (times_of p) (triggers_of p) instant

-- ---- the next one
abbrev pub first_of : List ℕ → StopAnswer
first_of [] = Ok None
first_of (u ∷ us) = Ok (Some u)

-- 10 first; a works whose stops are not foreseen is not refused, and has an answer of its own
unfoldable pub next_stop : Project → ℕ → StopAnswer
next_stop p instant = cond (tables_ok p) (cond (stops_foreseen p) (first_of (stops_of p instant)) (Err Unforeseen)) (Err (Refused 10))

-- ---- the next ones, as many as there is room for
unfoldable pub next_stops : Project → ℕ → ℕ → StopsAnswer
next_stops p instant room =
    cond (tables_ok p) (cond (stops_foreseen p) (Ok (length (take room (stops_of p instant)))) (Err Unforeseen)) (Err (Refused 10))

-- the stops themselves; refused or not foreseen, there are none
unfoldable pub stops_given : Project → ℕ → ℕ → List ℕ
stops_given p instant room = cond (tables_ok p && stops_foreseen p) (take room (stops_of p instant)) []

-- some numbers in front of a list, and the rest of it as it was
abbrev pub fronted : List ℕ → List ℕ → List ℕ
fronted front old = front ++ drop (length front) old

-- the list that is lent
unfoldable pub stops_written : Project → ℕ → List ℕ → List ℕ
stops_written p instant old = fronted (stops_given p instant (length old)) old

-- ---- Document 01: "Where an answer is an enum, a definition gives this paper's number and values for each case of the enum"
-- the number, 0 where nothing is refused; how many stops are answered, where they are foreseen; and which
abbrev pub stop_number : StopAnswer → ℕ
stop_number (Ok (Some u)) = 0
stop_number (Ok None) = 0
stop_number (Err Unforeseen) = 0
stop_number (Err (Refused n)) = n

abbrev pub stop_counts : StopAnswer → List ℕ
stop_counts (Ok (Some u)) = 1 ∷ []
stop_counts (Ok None) = 0 ∷ []
stop_counts (Err Unforeseen) = []
stop_counts (Err (Refused n)) = []

abbrev pub stop_instants : StopAnswer → List ℕ
stop_instants (Ok (Some u)) = u ∷ []
stop_instants (Ok None) = []
stop_instants (Err Unforeseen) = []
stop_instants (Err (Refused n)) = []

abbrev pub stops_number : StopsAnswer → ℕ
stops_number (Ok n) = 0
stops_number (Err Unforeseen) = 0
stops_number (Err (Refused n)) = n

abbrev pub stops_counts : StopsAnswer → List ℕ
stops_counts (Ok n) = n ∷ []
stops_counts (Err Unforeseen) = []
stops_counts (Err (Refused n)) = []

-- what they are
unfoldable pub number_of_stops : Project → ℕ
number_of_stops p = cond (tables_ok p) 0 10

unfoldable pub counts_of_stops : Project → ℕ → ℕ → List ℕ
counts_of_stops p instant room = cond (tables_ok p && stops_foreseen p) (length (take room (stops_of p instant)) ∷ []) []
