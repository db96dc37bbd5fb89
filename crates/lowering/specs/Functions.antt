-- The lowering of functions and of whole programs.
use Rattle.std.specs.Prelude.{ℕ, suc, ◌-◌, pos, false, List, [], ◌∷◌, ◌++◌, Option, Some, None, map, length, option_map, if◌then◌else◌}
use Rattle.pt_base.specs.declared.int_type.IntType.TheVariants as i
use Rattle.pt_base.specs.declared.span.Span.{Span}
use Rattle.pt_tree.specs.declared.signature.Signature.{Signature}
use Rattle.typed_tree.specs.declared.variable.Var.{Var}
use Rattle.typed_tree.specs.declared.variable.TypedGlobal.{TypedGlobal}
use Rattle.typed_tree.specs.ExpressionTree.{typed}
use Rattle.typed_tree.specs.ExpressionTree as t
use Rattle.typed_tree.specs.StatementTree.{BodyTree}
use Rattle.typed_tree.specs.TypedTree.{TypedTree, FunctionTree, signatures_of}
use Rattle.typed_tree.specs.WellFormedExpression.{is_main}
use Rattle.source_meaning.specs.Functions.{brace_of}
use Rattle.pt_core.specs.CodeTree as core
use Rattle.pt_core.specs.CodeTree.{StmtTree, constant, give_back, stmt_trees, ProgramTree, GlobalTree}
use Rattle.lowering.specs.Lowered.{Temp, Effects}
use Rattle.lowering.specs.Statements.{Code, nowhere, statement_in}

abbrev pub span_of : t.ExprTree → Span
span_of (typed s ty form) = s

-- a temporary as a variable: it has no name and no place in the text, and tells which expression it holds
abbrev pub variable_of : Temp → Var
variable_of x = record { name = []; span = record { from = 0; to = 0 }; ty = x.ty; marked = false; unpriv = false; holds = option_map span_of x.holds }

abbrev pub code_of : TypedTree → FunctionTree → Code
code_of program f = record {
  scope = record {
    structs = program.structs;
    globals = map (λ g. g.var.ty) program.globals;
    variables = map (λ x. x.ty) f.vars;
  };
  exprs = program.exprs;
}

-- reaching the closing brace of main returns 0 (C99 5.1.2.2.3)
abbrev pub main_end : Signature → List StmtTree
main_end s = if is_main s then give_back (Some (constant i.Int (pos 0))) ∷ [] else []

-- the statements and the temporaries of a function's body
abbrev pub lowered_body : TypedTree → FunctionTree → BodyTree → Effects
lowered_body program f body = statement_in (code_of program f) body nowhere (length f.vars)

-- the function of this number, which has this body: its temporaries stand behind its variables
abbrev pub core_of : TypedTree → ℕ → FunctionTree → BodyTree → core.FunctionTree
core_of program n f body =
    let code = lowered_body program f body in
    record {
      id = n;
      params = length f.signature.params;
      vars = f.vars ++ map variable_of code.temps;
      body = stmt_trees (code.stmts ++ main_end f.signature);
      end = brace_of body;
    }

-- of a host there is no code
abbrev pub code_if : TypedTree → ℕ → FunctionTree → Option BodyTree → List core.FunctionTree
code_if program n f None = []
code_if program n f (Some body) = core_of program n f body ∷ []

-- each function that has a body, by number
abbrev pub functions_from : TypedTree → ℕ → List FunctionTree → List core.FunctionTree
functions_from program n [] = []
functions_from program n (f ∷ fs) = code_if program n f f.body ++ functions_from program (suc n) fs

abbrev pub signatures_from : ℕ → List Signature → List (ℕ × Signature)
signatures_from n [] = []
signatures_from n (s ∷ ss) = (n, s) ∷ signatures_from (suc n) ss

abbrev pub globals_from : ℕ → List TypedGlobal → List GlobalTree
globals_from n [] = []
globals_from n (g ∷ gs) = record { id = n; var = g.var; cells = g.cells } ∷ globals_from (suc n) gs

-- the whole program
abbrev pub core_program : TypedTree → ProgramTree
core_program program = record {
  structs = program.structs;
  signatures = signatures_from 0 (signatures_of program);
  functions = functions_from program 0 program.functions;
  globals = globals_from 0 program.globals;
}
