-- The line that reports the fault of a policy.
use Rattle.std.specs.Prelude.{ℕ, List, ◌++◌, codes}
use Rattle.std.specs.Fmt.{decimal}
use Rattle.policy.specs.declared.error.PolicyFault.{PolicyFault}
use Rattle.policy.specs.declared.error.PolicyFaultKind.{PolicyFaultKind}
use Rattle.policy.specs.declared.error.PolicyFaultKind.TheVariants.{Syntax, UnknownFunction, UnseenArg, TooLong}

-- the number of each kind
abbrev pub fault_number : PolicyFaultKind → ℕ
fault_number Syntax = 1
fault_number UnknownFunction = 2
fault_number UnseenArg = 3
fault_number TooLong = 4

-- the name of each kind
abbrev pub fault_name : PolicyFaultKind → List ℕ
fault_name Syntax = codes "Syntax"
fault_name UnknownFunction = codes "UnknownFunction"
fault_name UnseenArg = codes "UnseenArg"
fault_name TooLong = codes "TooLong"

-- the line, without its line feed
abbrev pub report_line : PolicyFault → List ℕ
report_line fault = codes "policy " ++ decimal (fault_number fault.kind) ++ codes " " ++ fault_name fault.kind ++ codes " " ++ decimal fault.line
