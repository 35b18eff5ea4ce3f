-- Document 01, "The project image": a record's header, and by its kind the answer of its payload.
use Rattle.std.specs.Prelude.{ℕ, ◌/◌, ◌%◌, ◌^◌, Bool, false, ◌&&◌, cond, Result, Ok, Err, List, leb, eqb, length, take, drop, get_or}
use Rattle.model.specs.declared.project.Counts.{Counts}
use Rattle.image_entry.specs.declared.entry.Entry.{Entry}
use Rattle.image_entry.specs.declared.entry.Fault.{Fault}
use Rattle.image_entry.specs.declared.entry.Fault.TheVariants as faults
use Rattle.image_entry.specs.Faults.{fault_number}
use Rattle.image_options.specs.Entries.{options_entry}
use Rattle.image_pattern.specs.Entries.{pattern_entry}
use Rattle.image_node.specs.Entries.{reservoir_entry, tank_entry, junction_entry}
use Rattle.image_link.specs.Entries.{link_entry}
use Rattle.image_control.specs.Entries.{control_entry}
use Rattle.image_premise.specs.Entries.{premise_entry}

-- "A header's top 4 bits are its kind, the next 12 zero, the low 16 the payload words."
abbrev pub kind_of : ℕ → ℕ
kind_of h = h / 2 ^ 28

abbrev pub size_of : ℕ → ℕ
size_of h = h % 2 ^ 16

-- "Stages in order: options (once), patterns, nodes, links, controls, premises", counted from 1; 0 for an unknown kind
unfoldable pub stage_of : ℕ → ℕ
stage_of kind =
    cond (eqb kind 1) 1
    (cond (eqb kind 2) 2
    (cond (leb 3 kind && leb kind 5) 3 (cond (eqb kind 6) 4 (cond (eqb kind 7) 5 (cond (eqb kind 8) 6 0)))))

-- the payload sizes of the table; an unknown kind has none
unfoldable pub size_ok : ℕ → ℕ → Bool
size_ok kind n =
    cond (eqb kind 1) (eqb n 10)
    (cond (eqb kind 2) (leb 2 n && leb n 336 && eqb (n % 2) 0)
    (cond (eqb kind 3) (eqb n 3)
    (cond (eqb kind 4) (eqb n 11)
    (cond (eqb kind 5) (leb 3 n && leb n 15 && eqb (n % 3) 0)
    (cond (eqb kind 6) (eqb n 8) (cond (eqb kind 7) (eqb n 9) (cond (eqb kind 8) (eqb n 7) false)))))))

-- `stage` is that of the record before, 0 where there is none: options stand there and nowhere else, and no stage comes after a later one
unfoldable pub stage_ok : ℕ → ℕ → Bool
stage_ok stage kind = cond (eqb kind 1) (eqb stage 0) (leb 1 stage && leb stage (stage_of kind))

-- 2: "unknown kind, bits 16 to 27 set, wrong stage, second or missing options, wrong payload size"
unfoldable pub header_ok : ℕ → ℕ → Bool
header_ok stage h = eqb (h / 2 ^ 16 % 2 ^ 12) 0 && stage_ok stage (kind_of h) && size_ok (kind_of h) (size_of h)

unfoldable pub entry_of : ℕ → List ℕ → Counts → Result Entry Fault
entry_of kind p c =
    cond (eqb kind 1) (options_entry p)
    (cond (eqb kind 2) (pattern_entry p c)
    (cond (eqb kind 3) (reservoir_entry p c)
    (cond (eqb kind 4) (tank_entry p c)
    (cond (eqb kind 5) (junction_entry p c)
    (cond (eqb kind 6) (link_entry p c) (cond (eqb kind 7) (control_entry p c) (premise_entry p c)))))))

-- the payload of the record at the front of the words
abbrev pub payload : List ℕ → List ℕ
payload ws = take (size_of (get_or ws 0 0)) (drop 1 ws)

-- the record at the front of the words: 2 by its header, then 3 "payload runs past the end", then by its payload
unfoldable pub record_of : List ℕ → ℕ → Counts → Result Entry Fault
record_of ws stage c =
    let h = get_or ws 0 0 in
    cond (header_ok stage h) (cond (leb (size_of h) (length (drop 1 ws))) (entry_of (kind_of h) (payload ws) c) (Err faults.Cut)) (Err faults.Header)

-- the number of a record's fault, 0 for none
unfoldable pub fault_of : Result Entry Fault → ℕ
fault_of (Ok e) = 0
fault_of (Err f) = fault_number f
