-- Document 01, "Numbers by the place of the check": the number of each fault of an image.
use Rattle.std.specs.Prelude.{ℕ}
use Rattle.image_entry.specs.declared.entry.Fault.{Fault}
use Rattle.image_entry.specs.declared.entry.Fault.TheVariants as faults

-- 1 "no words, or over 16,384"; 2 "unknown kind, bits 16 to 27 set, wrong stage, second or missing options, wrong payload size"; 3 "payload runs past the
-- end"; 4 "one more of a counted thing than allowed"; 5 "number not finite or out of range, code, flag or unused word wrong, ends equal"; 6 "index to
-- nothing declared"
abbrev pub fault_number : Fault → ℕ
fault_number faults.Length = 1
fault_number faults.Header = 2
fault_number faults.Cut = 3
fault_number faults.Count = 4
fault_number faults.Word = 5
fault_number faults.Index = 6
