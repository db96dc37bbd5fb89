-- Parts of the equations of functions and programs, as the code has them.
use Rattle.std.specs.Prelude.{◌≡◌, ℕ, List, [], ◌++◌, map, Some, false}
use Rattle.pt_base.specs.declared.ids.FnId.{FnId}
use Rattle.typed_tree.specs.declared.variable.Var.{Var}
use Rattle.typed_tree.specs.Lookup.{function_at}
use Rattle.typed_tree.specs.StatementTree.{BodyTree}
use Rattle.typed_tree.specs.TypedTree.{TypedTree, FunctionTree}
use Rattle.pt_core.specs.CodeTree as core
use Rattle.pt_core.specs.CodeTree.{StmtTree, ProgramTree, view_stmt}
use Rattle.lowering.specs.declared.output.Lowering.{Lowering}
use Rattle.lowering.specs.Functions.{core_program, variable_of}
use Rattle.lowering.specs.Statements.{Code, nowhere, statement_in}
use Rattle.lowering.specs.declared.temporary.Temporary.{Temporary}

-- the function of this number has a body
abbrev pub IsDefined : TypedTree → FnId → Type 0
IsDefined program f = (g : FunctionTree) × (b : BodyTree) × (function_at program f ≡ Some g) × (g.body ≡ Some b)

-- a temporary as a variable
abbrev pub variable_for : Temporary → Var
variable_for x = record { name = []; span = record { from = 0; to = 0 }; ty = x.ty; marked = false; unpriv = false; holds = x.holds }

abbrev pub variables_of : List Temporary → List Var
variables_of temps = map variable_for temps

-- from nothing a body was made, and these statements behind it
pub record MakesBody (c : Code) (body : BodyTree) (n : ℕ) (end : List StmtTree) (l : Lowering) : Type 0 where
  pub stmts : map view_stmt l.stmts.items ≡ (statement_in c body nowhere n).stmts ++ end
  pub temps : variables_of l.temps.items ≡ map variable_of (statement_in c body nowhere n).temps

-- the program with these functions
abbrev pub program_of : TypedTree → List core.FunctionTree → ProgramTree
program_of program functions = record (core_program program) { functions = functions }
