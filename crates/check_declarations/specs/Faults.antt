-- The kinds of faults: their numbers, names and order; and faults as lists.
use Rattle.std.specs.Prelude.{ℕ, List, [], ◌∷◌, Bool, codes, if◌then◌else◌}
use Rattle.std.specs.declared.cmp.Ordering.{Ordering}
use Rattle.std.specs.Ordering.{nat_cmp, ordering_then}
use Rattle.pt_base.specs.declared.span.Span.{Span}
use Rattle.check_declarations.specs.declared.fault.FaultKind.{FaultKind}
use Rattle.check_declarations.specs.declared.fault.FaultKind.TheVariants.{UnknownName, Redeclared, NotLvalue, WrongType, ArgCount, ConstWrite, OutOfProfile, NoMain, TooLarge, BadAttribute}
use Rattle.check_declarations.specs.declared.fault.TypeFault.{TypeFault}
pub use Rattle.pt_base.specs.Spans.{span_cmp}

abbrev pub fault_number : FaultKind → ℕ
fault_number UnknownName = 1
fault_number Redeclared = 2
fault_number NotLvalue = 3
fault_number WrongType = 4
fault_number ArgCount = 5
fault_number ConstWrite = 6
fault_number OutOfProfile = 7
fault_number NoMain = 8
fault_number TooLarge = 9
fault_number BadAttribute = 10

abbrev pub fault_name : FaultKind → List ℕ
fault_name UnknownName = codes "UnknownName"
fault_name Redeclared = codes "Redeclared"
fault_name NotLvalue = codes "NotLvalue"
fault_name WrongType = codes "WrongType"
fault_name ArgCount = codes "ArgCount"
fault_name ConstWrite = codes "ConstWrite"
fault_name OutOfProfile = codes "OutOfProfile"
fault_name NoMain = codes "NoMain"
fault_name TooLarge = codes "TooLarge"
fault_name BadAttribute = codes "BadAttribute"

-- by their places, then by number
abbrev pub fault_cmp : TypeFault → TypeFault → Ordering
fault_cmp f g = ordering_then (span_cmp f.span g.span) (nat_cmp (fault_number f.kind) (fault_number g.kind))

abbrev pub fault_at : FaultKind → Span → TypeFault
fault_at kind span = record { span = span; kind = kind }

-- this fault alone, where the test holds
abbrev pub fault_if : Bool → FaultKind → Span → List TypeFault
fault_if wrong kind span = if wrong then fault_at kind span ∷ [] else []
