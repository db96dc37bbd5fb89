-- What a global starts with (C99 6.7.8p4): numbers.
use Rattle.std.specs.Prelude.{ℕ, ◌+◌, ℤ, pos, List, [], ◌∷◌, ◌++◌, Bool, false, not, ◌&&◌, Option, Some, None, is_some, slice_get}
use Rattle.pt_int.specs.Conversion.{conv}
use Rattle.pt_tree.specs.ExpressionTree as e
use Rattle.pt_tree.specs.StatementTree.{InitTree, no_init, single, braces}
use Rattle.type_rules.specs.declared.types.Type.{«Type»}
use Rattle.type_rules.specs.declared.types.Type.TheVariants.{Bad, Void, Int, Struct, Array, Pointer}
use Rattle.type_rules.specs.Conversions.{fit_rule, is_wrong}
use Rattle.type_rules.specs.Types.{is_bad}
use Rattle.check_declarations.specs.declared.fault.FaultKind.TheVariants.{WrongType, OutOfProfile}
use Rattle.check_declarations.specs.declared.fault.TypeFault.{TypeFault}
use Rattle.check_declarations.specs.Faults.{fault_at, fault_if}
use Rattle.check_declarations.specs.Structs.{Structs}
use Rattle.check_expressions.specs.Environment.{Env}
use Rattle.check_expressions.specs.Expressions.{judge}
use Rattle.check_expressions.specs.Operands.{span_of}
use Rattle.check_statements.specs.declared.constants.Number.{Number}
use Rattle.check_statements.specs.Constants.{number_of}
use Rattle.check_statements.specs.Leaves.{leaves_of}

-- the structs behind an initialiser, the values for the first leaves in order, and the faults; the
-- further leaves start with 0
pub record GlobalInit : Type 0 where
  pub structs : Structs
  pub values : List ℤ
  pub faults : List TypeFault

-- a number in an object of this type; what isn't an integer takes none
abbrev pub stored_in : «Type» → ℤ → List ℤ
stored_in Bad v = []
stored_in Void v = []
stored_in (Int t) v = conv t v ∷ []
stored_in (Struct n) v = []
stored_in (Array e count) v = []
stored_in (Pointer e fixed) v = []

-- for the leaf of this type, where there is one
abbrev pub stored_at : Option «Type» → ℤ → List ℤ
stored_at None v = []
stored_at (Some ty) v = stored_in ty v

-- a number isn't taken, no number is a null constant here, since globals are no pointers
abbrev pub misfit : Option «Type» → Number → Bool
misfit None n = false
misfit (Some ty) n = is_wrong (fit_rule ty (record { ty = Int n.ty; null = false }))

-- an item that is a number, or one that is none: it is judged, and its type isn't asked for
abbrev pub item_of : Env → Structs → Option «Type» → e.ExprTree → Option Number → GlobalInit
item_of env structs leaf a (Some n) = record { structs = structs; values = stored_at leaf n.value; faults = fault_if (misfit leaf n) WrongType (span_of a) }
item_of env structs leaf a None =
    let j = judge env structs a in
    record { structs = j.structs; values = stored_at leaf (pos 0); faults = j.faults ++ fault_at OutOfProfile (span_of a) ∷ [] }

abbrev pub global_item : Env → Structs → Option «Type» → e.ExprTree → GlobalInit
global_item env structs leaf a = item_of env structs leaf a (number_of a)

-- an item without a leaf is one too many
abbrev pub excess_faults : Bool → Option «Type» → e.ExprTree → List TypeFault
excess_faults is_counted leaf a = fault_if (is_counted && not (is_some leaf)) WrongType (span_of a)

-- the items from number n on; the first one past the last leaf is a fault where `is_counted` holds
abbrev pub global_items : Env → Structs → List «Type» → Bool → ℕ → e.ExprTrees → GlobalInit
global_items env structs leaves is_counted n e.no_exprs = record { structs = structs; values = []; faults = [] }
global_items env structs leaves is_counted n (e.expr_and a es) =
    let leaf = slice_get leaves n in
    let one = global_item env structs leaf a in
    let rest = global_items env one.structs leaves (is_counted && is_some leaf) (n + 1) es in
    record { structs = rest.structs; values = one.values ++ rest.values; faults = one.faults ++ excess_faults is_counted leaf a ++ rest.faults }

-- the initialiser of a global of this type
abbrev pub global_initialised : Env → Structs → «Type» → InitTree → GlobalInit
global_initialised env structs ty no_init = record { structs = structs; values = []; faults = [] }
global_initialised env structs ty (single a) = global_item env structs (Some ty) a
global_initialised env structs ty (braces s es) = global_items env structs (leaves_of structs ty) (not (is_bad ty)) 0 es
