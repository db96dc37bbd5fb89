-- What a local variable starts with (C99 6.7.8).
use Rattle.std.specs.Prelude.{ℕ, ◌+◌, List, [], ◌∷◌, ◌++◌, Bool, not, ◌&&◌, Option, Some, None, is_some, slice_get}
use Rattle.pt_tree.specs.ExpressionTree as e
use Rattle.pt_tree.specs.StatementTree.{InitTree, no_init, single, braces}
use Rattle.type_rules.specs.declared.types.Type.{«Type»}
use Rattle.type_rules.specs.Types.{is_bad}
use Rattle.typed_tree.specs.declared.ids.ExprId.{ExprId}
use Rattle.typed_tree.specs.declared.statement.TypedInit.{TypedInit}
use Rattle.typed_tree.specs.declared.statement.TypedInit.TheVariants as i
use Rattle.typed_tree.specs.ExpressionTree.{ExprTree}
use Rattle.check_declarations.specs.declared.fault.FaultKind.TheVariants.{WrongType}
use Rattle.check_declarations.specs.declared.fault.TypeFault.{TypeFault}
use Rattle.check_declarations.specs.Faults.{fault_if}
use Rattle.check_expressions.specs.Operands.{span_of}
use Rattle.check_statements.specs.Leaves.{leaves_of}
use Rattle.check_statements.specs.Outermost.{State, Placed, evaluated, fitted}

-- the items of a brace list: their numbers and trees in order
pub record Listing : Type 0 where
  pub state : State
  pub ids : List ExprId
  pub trees : List ExprTree
  pub faults : List TypeFault

-- An item for this leaf. An item without a leaf is judged, and is one too many where `is_excess` holds.
abbrev pub item : State → Option «Type» → Bool → e.ExprTree → Placed
item st (Some ty) is_excess a = fitted st ty a
item st None is_excess a =
    let p = evaluated st a in
    record { state = p.state; id = p.id; tree = p.tree; faults = p.faults ++ fault_if is_excess WrongType (span_of a) }

-- the items from number n on; the first one past the last leaf is a fault where `is_counted` holds
abbrev pub items : State → List «Type» → Bool → ℕ → e.ExprTrees → Listing
items st leaves is_counted n e.no_exprs = record { state = st; ids = []; trees = []; faults = [] }
items st leaves is_counted n (e.expr_and a es) =
    let leaf = slice_get leaves n in
    let p = item st leaf is_counted a in
    let rest = items p.state leaves (is_counted && is_some leaf) (n + 1) es in
    record { state = rest.state; ids = p.id ∷ rest.ids; trees = p.tree ∷ rest.trees; faults = p.faults ++ rest.faults }

-- an initialiser: what the variable starts with, and the trees of its expressions
pub record Initialised : Type 0 where
  pub state : State
  pub init : TypedInit
  pub trees : List ExprTree
  pub faults : List TypeFault

-- of a variable of type Bad the items are judged alone
abbrev pub initialised : State → «Type» → InitTree → Initialised
initialised st ty no_init = record { state = st; init = i.Nothing; trees = []; faults = [] }
initialised st ty (single a) = let p = fitted st ty a in record { state = p.state; init = i.Value p.id; trees = p.tree ∷ []; faults = p.faults }
initialised st ty (braces s es) =
    let all = items st (leaves_of st.structs ty) (not (is_bad ty)) 0 es in
    record { state = all.state; init = i.Items s all.ids; trees = all.trees; faults = all.faults }
