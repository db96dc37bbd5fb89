-- What the items of a program make so far, and the types of results as the typed tree has them.
use Rattle.std.specs.Prelude.{ℕ, List, [], Bool, false, Option, Some, None}
use Rattle.pt_base.specs.declared.int_type.IntType.{IntType}
use Rattle.type_rules.specs.declared.types.Type.{«Type»}
use Rattle.type_rules.specs.declared.types.Type.TheVariants.{Bad, Void, Int, Struct, Array, Pointer}
use Rattle.typed_tree.specs.declared.variable.TypedGlobal.{TypedGlobal}
use Rattle.typed_tree.specs.ExpressionTree.{ExprTree}
use Rattle.typed_tree.specs.TypedTree.{FunctionTree}
use Rattle.check_declarations.specs.Structs.{Structs}
use Rattle.check_expressions.specs.Environment.{Env, no_names}

pub record Progress : Type 0 where
  pub env : Env
  pub structs : Structs
  -- by number
  pub functions : List FunctionTree
  pub globals : List TypedGlobal
  -- of all globals
  pub cells : ℕ
  -- the outermost expressions of all bodies, in text order
  pub exprs : List ExprTree
  -- main is defined, with the result int and no parameters
  pub has_main : Bool

abbrev pub at_start : Progress
at_start = record { env = no_names; structs = []; functions = []; globals = []; cells = 0; exprs = []; has_main = false }

-- the type of a result: an integer, or None for void; that of a faulty one is any
abbrev pub result_type_of : «Type» → Option IntType
result_type_of Bad = None
result_type_of Void = None
result_type_of (Int t) = Some t
result_type_of (Struct n) = None
result_type_of (Array e count) = None
result_type_of (Pointer e fixed) = None
