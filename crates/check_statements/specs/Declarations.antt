-- Declarations of a function's variables (C99 6.7).
use Rattle.std.specs.Prelude.{List, [], ◌∷◌, ◌++◌, false, not, length}
use Rattle.pt_tree.specs.declared.specifier.Declarator.{Declarator}
use Rattle.pt_tree.specs.StatementTree.{DeclarationTree, InitDeclaratorTree}
use Rattle.type_rules.specs.declared.types.Type.{«Type»}
use Rattle.typed_tree.specs.declared.statement.TypedDeclaration.{TypedDeclaration}
use Rattle.typed_tree.specs.declared.statement.TypedDeclarator.{TypedDeclarator}
use Rattle.typed_tree.specs.ExpressionTree.{ExprTree}
use Rattle.check_declarations.specs.declared.fault.FaultKind.TheVariants.{Redeclared}
use Rattle.check_declarations.specs.declared.fault.TypeFault.{TypeFault}
use Rattle.check_declarations.specs.declared.marks.Carrier.{Carrier}
use Rattle.check_declarations.specs.declared.marks.Carrier.TheVariants as carrier
use Rattle.check_declarations.specs.declared.objects.ObjectKind.TheVariants as kind
use Rattle.check_declarations.specs.declared.specifiers.Specified.{Specified}
use Rattle.check_declarations.specs.Faults.{fault_if}
use Rattle.check_declarations.specs.Marks.{marks_of, mark_faults}
use Rattle.check_declarations.specs.Objects.{object_faults, object_type, is_fixed, size_faults}
use Rattle.check_declarations.specs.Specifiers.{specified}
use Rattle.check_expressions.specs.declared.meaning.Variable.{Variable}
use Rattle.check_declarations.specs.Structs.{Structs}
use Rattle.check_expressions.specs.Environment.{Env, with_variable, is_new_inside}
use Rattle.check_statements.specs.Initialisers.{initialised}
use Rattle.check_statements.specs.Outermost.{State}

-- the type of a variable
abbrev pub local_type : Specified → Declarator → «Type»
local_type given d = object_type kind.Local given d.pointer d.suffix

-- the variable that a declarator declares
abbrev pub variable_of : Specified → Declarator → Variable
variable_of given d = record {
  name = d.name.bytes;
  span = d.name.span;
  ty = local_type given d;
  fixed = is_fixed kind.Local given d.pointer d.suffix;
  marked = (marks_of given.attributes).marked;
  unpriv = (marks_of given.attributes).unpriv;
}

-- the faults of the declaration itself: of the type, the size, and a name that the innermost scope has
abbrev pub variable_faults : Env → Structs → Specified → Declarator → List TypeFault
variable_faults env structs given d =
    object_faults kind.Local given d.pointer d.suffix d.name.span
    ++ size_faults structs (local_type given d) d.name.span
    ++ fault_if (not (is_new_inside env.scopes d.name.bytes)) Redeclared d.name.span

-- a declarator: the variable is known in its own initialiser (C99 6.2.1p7)
pub record Declared : Type 0 where
  pub state : State
  pub declarator : TypedDeclarator
  pub trees : List ExprTree
  pub faults : List TypeFault

abbrev pub known_variable : State → Specified → Declarator → State
known_variable st given d = record { env = with_variable st.env (variable_of given d); structs = st.structs; next = st.next }

abbrev pub declared_one : Specified → State → InitDeclaratorTree → Declared
declared_one given st d =
    let init = initialised (known_variable st given d.declarator) (local_type given d.declarator) d.init in
    record {
      state = init.state;
      declarator = record { var = record { 0 = length st.env.variables }; init = init.init };
      trees = init.trees;
      faults = variable_faults st.env st.structs given d.declarator ++ init.faults;
    }

pub record DeclaredAll : Type 0 where
  pub state : State
  pub declarators : List TypedDeclarator
  pub trees : List ExprTree
  pub faults : List TypeFault

abbrev pub declared_all : Specified → State → List InitDeclaratorTree → DeclaredAll
declared_all given st [] = record { state = st; declarators = []; trees = []; faults = [] }
declared_all given st (d ∷ ds) =
    let one = declared_one given st d in
    let rest = declared_all given one.state ds in
    record { state = rest.state; declarators = one.declarator ∷ rest.declarators; trees = one.trees ++ rest.trees; faults = one.faults ++ rest.faults }

-- attributes mark a declaration's variables; without one they stand before nothing
abbrev pub carrier_of : List InitDeclaratorTree → Carrier
carrier_of [] = carrier.Nothing
carrier_of (d ∷ ds) = carrier.Object

pub record Declaring : Type 0 where
  pub state : State
  pub declaration : TypedDeclaration
  pub trees : List ExprTree
  pub faults : List TypeFault

-- a declaration in a function, whose specifiers don't stand at file scope
abbrev pub declared : State → DeclarationTree → Declaring
declared st d =
    let j = specified false st.structs d.specs in
    let all = declared_all j.given (record { env = st.env; structs = j.structs; next = st.next }) d.declarators in
    record {
      state = all.state;
      declaration = record { span = d.span; declarators = all.declarators };
      trees = all.trees;
      faults = j.faults ++ mark_faults (carrier_of d.declarators) j.given.attributes ++ all.faults;
    }
