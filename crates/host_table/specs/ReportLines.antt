-- The line that reports each fault of a host table.
use Rattle.std.specs.Prelude.{ℕ, List, [], ◌++◌, Option, Some, None, option_map, option_and_then, codes}
use Rattle.std.specs.Fmt.{decimal}
use Rattle.pt_base.specs.declared.ids.FnId.{FnId}
use Rattle.typed_tree.specs.Lookup.{signature_of}
use Rattle.typed_tree.specs.TypedTree.{TypedTree}
use Rattle.host_table.specs.declared.fault.HostFault.{HostFault}
use Rattle.host_table.specs.declared.fault.HostFault.TheVariants.{NotJson, Shape, Missing, Range, WrongParams, TwoInputs, TooLong}

-- the number of each fault
abbrev pub fault_number : HostFault → ℕ
fault_number NotJson = 1
fault_number (Shape f) = 2
fault_number (Missing f) = 3
fault_number (Range f) = 4
fault_number (WrongParams f) = 5
fault_number (TwoInputs f) = 6
fault_number TooLong = 7

-- the name of each fault
abbrev pub fault_name : HostFault → List ℕ
fault_name NotJson = codes "NotJson"
fault_name (Shape f) = codes "Shape"
fault_name (Missing f) = codes "Missing"
fault_name (Range f) = codes "Range"
fault_name (WrongParams f) = codes "WrongParams"
fault_name (TwoInputs f) = codes "TwoInputs"
fault_name TooLong = codes "TooLong"

-- the function whose entry has the fault
abbrev pub faulty_function : HostFault → Option FnId
faulty_function NotJson = None
faulty_function (Shape f) = f
faulty_function (Missing f) = Some f
faulty_function (Range f) = Some f
faulty_function (WrongParams f) = Some f
faulty_function (TwoInputs f) = Some f
faulty_function TooLong = None

-- its name in the program
abbrev pub faulty_name : TypedTree → HostFault → Option (List ℕ)
faulty_name t fault = option_map (λ s. s.name) (option_and_then (signature_of t) (faulty_function fault))

-- a name behind a space, where there is one
abbrev pub spaced_name : Option (List ℕ) → List ℕ
spaced_name None = []
spaced_name (Some name) = codes " " ++ name

-- the line, without its line feed
abbrev pub report_line : TypedTree → HostFault → List ℕ
report_line t fault = codes "host " ++ decimal (fault_number fault) ++ codes " " ++ fault_name fault ++ spaced_name (faulty_name t fault)
