-- What may be written: the left side of an assignment, and the operand of ++ and -- (C99 6.5.16p2,
-- 6.5.2.4p1, 6.5.3.1p1).
use Rattle.std.specs.Prelude.{List, [], ◌∷◌, Bool, ◌||◌, Option, Some, None, if◌then◌else◌}
use Rattle.pt_base.specs.declared.span.Span.{Span}
use Rattle.type_rules.specs.declared.types.Type.{«Type»}
use Rattle.type_rules.specs.declared.types.Type.TheVariants.{Bad, Void, Int, Struct, Array, Pointer}
use Rattle.check_declarations.specs.declared.fault.FaultKind.{FaultKind}
use Rattle.check_declarations.specs.declared.fault.FaultKind.TheVariants.{NotLvalue, WrongType, ConstWrite}
use Rattle.check_declarations.specs.declared.fault.TypeFault.{TypeFault}
use Rattle.check_declarations.specs.Faults.{fault_at}
use Rattle.check_declarations.specs.Structs.{Structs, has_const}
use Rattle.check_expressions.specs.Operands.{Known}

-- at most one fault, at this place
unfoldable pub optional_fault : Option FaultKind → Span → List TypeFault
optional_fault None s = []
optional_fault (Some kind) s = fault_at kind s ∷ []

-- it must designate an object, which is const neither itself nor in a part
unfoldable pub object_fault : Bool → Bool → Option FaultKind
object_fault designates is_const = if designates then (if is_const then Some ConstWrite else None) else Some NotLvalue

unfoldable pub target_fault_of : «Type» → Bool → Bool → Option FaultKind
target_fault_of Bad designates is_const = None
target_fault_of Void designates is_const = object_fault designates is_const
target_fault_of (Int t) designates is_const = object_fault designates is_const
target_fault_of (Struct n) designates is_const = object_fault designates is_const
target_fault_of (Array e count) designates is_const = Some WrongType
target_fault_of (Pointer e fixed) designates is_const = object_fault designates is_const

-- what is wrong with it as the operand that an operator writes; an array is never written whole
unfoldable pub target_fault : Structs → Known → Option FaultKind
target_fault structs k = target_fault_of k.ty k.designates (k.fixed || has_const structs k.ty)
