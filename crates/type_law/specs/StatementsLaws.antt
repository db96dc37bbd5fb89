-- The body of a function without a fault has well formed statements, and a global starts with numbers that
-- fit it.
use Rattle.std.specs.Prelude.{◌≡◌, ℕ, ◌-◌, pos, List, [], ◌++◌, Bool, false, ◌&&◌, Option, Some, IsTrue, length, take, replicate, slice_get, option_map}
use Rattle.std.specs.List.{list_all}
use Rattle.pt_base.specs.declared.int_type.IntType.{IntType}
use Rattle.pt_base.specs.declared.span.Span.{Span}
use Rattle.pt_tree.specs.Facts.{stmts_sound}
use Rattle.pt_tree.specs.StatementTree.{InitTree, StmtTree, stmt_trees}
use Rattle.type_rules.specs.declared.types.Type.{«Type»}
use Rattle.typed_tree.specs.declared.types.StructInfo.{StructInfo}
use Rattle.typed_tree.specs.declared.types.VarTy.TheVariants as v
use Rattle.typed_tree.specs.Cells as typed
use Rattle.typed_tree.specs.ExpressionTree.{ExprTree}
use Rattle.typed_tree.specs.StatementTree.{body_trees}
use Rattle.typed_tree.specs.Parts.{all_parts, all_variables}
use Rattle.typed_tree.specs.WellFormed.{are_consecutive, are_rising, cells_fit, is_variable_type, is_small}
use Rattle.typed_tree.specs.WellFormedExpression.{Names}
use Rattle.typed_tree.specs.WellFormedStatement.{all_sound}
use Rattle.check_declarations.specs.Objects.{size_faults}
use Rattle.check_declarations.specs.Structs.{Structs}
use Rattle.check_expressions.specs.declared.meaning.Variable.{Variable}
use Rattle.check_expressions.specs.Environment.{Env}
use Rattle.check_expressions.specs.Operands.{var_type}
use Rattle.check_expressions.specs.StructInfos.{object_type_of, infos_of}
use Rattle.check_statements.specs.GlobalInitialisers.{GlobalInit, global_initialised}
use Rattle.check_statements.specs.Outermost.{State}
use Rattle.check_statements.specs.Statements.{CheckedAll, checked_block}
use Rattle.type_law.specs.DeclarationsSound.{SoundStructs}
use Rattle.type_law.specs.DeclarationsTypes.{is_plain, is_result}
use Rattle.type_law.specs.ExpressionsAgreement.{Agrees}

-- these are the first variables of the function in the typed tree
abbrev pub HasVariables : Names → List Variable → Type 0
HasVariables n xs = (k : ℕ) (x : Variable) → slice_get xs k ≡ Some x → option_map (λ y. y.ty) (slice_get n.vars k) ≡ Some (object_type_of x.ty)

-- a variable of a good type with not too many cells
abbrev pub is_sound_variable : List StructInfo → Variable → Bool
is_sound_variable structs x = is_variable_type (length structs) (object_type_of x.ty) && is_small structs (object_type_of x.ty)

-- a body that was judged from this state on, where these are the outermost expressions of the program
pub record SoundBody (n : Names) (all : List ExprTree) (result : Option IntType) (st : State) (b : CheckedAll) : Type 0 where
  pub sound : IsTrue (all_sound (record { names = n; exprs = all; result = result }) false false (body_trees b.bodies))
  pub numbered : IsTrue (are_consecutive (all_parts (body_trees b.bodies)) (length all))
  -- declarators name the variables behind those that there were, each once
  pub rising : IsTrue (are_rising (length st.env.variables) (all_variables (body_trees b.bodies)))
  -- nothing of the file has changed
  pub structs : b.state.structs ≡ st.structs
  pub file : b.state.env.file ≡ st.env.file
  pub functions : b.state.env.functions ≡ st.env.functions
  pub globals : b.state.env.globals ≡ st.env.globals
  -- variables came
  pub new : List Variable
  pub variables : b.state.env.variables ≡ st.env.variables ++ new
  pub sized : IsTrue (list_all (is_sound_variable n.structs) new)

-- a block's statements leave the file's names alone, and add variables at the end, whatever their faults
pub record Kept (st : State) (b : CheckedAll) : Type 0 where
  pub file : b.state.env.file ≡ st.env.file
  pub functions : b.state.env.functions ≡ st.env.functions
  pub globals : b.state.env.globals ≡ st.env.globals
  pub new : List Variable
  pub variables : b.state.env.variables ≡ st.env.variables ++ new

abbrev pub BlocksAreKept : Type 0
BlocksAreKept = (ty : «Type») (st : State) (items : List StmtTree) → Kept st (checked_block ty st items)

-- The body's outermost expressions stand among all of the program's from the state's number on, and its
-- variables are those of the function.
abbrev pub BodiesAreSound : Type 0
BodiesAreSound = (n : Names) (all before after : List ExprTree) (result : Option IntType) (ty : «Type») (st : State) (items : List StmtTree) →
    Agrees st.env st.structs n →
    IsTrue (is_result ty) → option_map v.Int result ≡ var_type ty →
    HasVariables n (checked_block ty st items).state.env.variables →
    all ≡ before ++ (checked_block ty st items).trees ++ after → length before ≡ st.next →
    IsTrue (stmts_sound (stmt_trees items)) → (checked_block ty st items).faults ≡ [] →
    SoundBody n all result st (checked_block ty st items)

-- a global with these leaves that starts so: the values, and 0 behind them, are one number for each leaf,
-- in its range
pub record SoundStart (leaves : List IntType) (structs : Structs) (g : GlobalInit) : Type 0 where
  pub structs_are : g.structs ≡ structs
  pub cells : IsTrue (cells_fit leaves (take (length leaves) g.values ++ replicate (length leaves - length g.values) (pos 0)))

-- what a global of a good type starts with, whatever structs come later
abbrev pub StartsAreSound : Type 0
StartsAreSound = (env : Env) (structs more : Structs) (ty : «Type») (init : InitTree) (at : Span) → SoundStructs (structs ++ more) →
    IsTrue (is_plain (length structs) ty) → size_faults structs ty at ≡ [] → (global_initialised env structs ty init).faults ≡ [] →
    SoundStart (typed.leaves_of (infos_of (structs ++ more)) (object_type_of ty)) structs (global_initialised env structs ty init)
