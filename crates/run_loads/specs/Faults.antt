-- Document 01: the number of each fault of a load, and of a load judged.
use Rattle.std.specs.Prelude.{ℕ, Result, Ok, Err, ⊤}
use Rattle.run_loads.specs.declared.fault.LoadFault.{LoadFault}
use Rattle.run_loads.specs.declared.fault.LoadFault.TheVariants as faults

-- 7: "kind, header bits or size wrong, cut, or words left over"; 8: "value not finite or beyond 10^12"
abbrev pub load_fault_number : LoadFault → ℕ
load_fault_number faults.Shape = 7
load_fault_number faults.Value = 8

-- 0 where there is none
abbrev pub judged_number : Result ⊤ LoadFault → ℕ
judged_number (Ok u) = 0
judged_number (Err f) = load_fault_number f
