-- The kinds of faults of a text whose tokens are no program: their numbers and names.
use Rattle.std.specs.Prelude.{ℕ, List, codes}
use Rattle.front_end.specs.declared.parse_fault.ParseFaultKind.{ParseFaultKind}
use Rattle.front_end.specs.declared.parse_fault.ParseFaultKind.TheVariants.{FaultAt, TooDeep}

abbrev pub fault_number : ParseFaultKind → ℕ
fault_number FaultAt = 1
fault_number TooDeep = 2

abbrev pub fault_name : ParseFaultKind → List ℕ
fault_name FaultAt = codes "FaultAt"
fault_name TooDeep = codes "TooDeep"
