-- A program whose calls have further arguments behind their own.
use Rattle.std.specs.Prelude.{ℕ, List, ◌++◌, map}
use Rattle.pt_tree.specs.declared.signature.Param.{Param}
use Rattle.pt_tree.specs.declared.signature.Signature.{Signature}
use Rattle.block_memory.specs.declared.cell.Cell.{Cell}
use Rattle.pt_core.specs.CodeTree.{ExprTree, ExprTrees, no_exprs, expr_and, expr_trees, StmtTree, clear, check, assign, copy, call, choose, repeat, break_out, continue_on, give_back, StmtTrees, no_stmts, stmt_and, FunctionTree, ProgramTree}
use Rattle.pt_core.specs.Steps.{Active, Answer, Machine, Step, Work, answers, asked, ended, head, idle, moved, run, spent, trapped}

-- ---- code

-- what stands behind the arguments of a call of each function
abbrev pub More : Type 0
More = ℕ → List ExprTree

abbrev pub exprs_and : ExprTrees → List ExprTree → ExprTrees
exprs_and no_exprs more = expr_trees more
exprs_and (expr_and a rest) more = expr_and a (exprs_and rest more)

abbrev mutual
  pub with_more : More → StmtTree → StmtTree
  with_more more (clear v) = clear v
  with_more more (check p) = check p
  with_more more (assign p a) = assign p a
  with_more more (copy to from) = copy to from
  with_more more (call f args v s) = call f (exprs_and args (more f)) v s
  with_more more (choose e first second) = choose e (all_with_more more first) (all_with_more more second)
  with_more more (repeat body s) = repeat (all_with_more more body) s
  with_more more break_out = break_out
  with_more more continue_on = continue_on
  with_more more (give_back e) = give_back e

  pub all_with_more : More → StmtTrees → StmtTrees
  all_with_more more no_stmts = no_stmts
  all_with_more more (stmt_and s rest) = stmt_and (with_more more s) (all_with_more more rest)

abbrev pub function_with : More → FunctionTree → FunctionTree
function_with more f = record f { body = all_with_more more f.body }

-- a function's signature with parameters behind its own
abbrev pub signature_with : (ℕ → List Param) → ℕ × Signature → ℕ × Signature
signature_with params s = (s.0, record s.1 { params = s.1.params ++ params s.0 })

abbrev pub extended : More → (ℕ → List Param) → ProgramTree → ProgramTree
extended more params p = record p { signatures = map (signature_with params) p.signatures; functions = map (function_with more) p.functions }

-- ---- machines

abbrev pub work_with : More → Work → Work
work_with more (run body) = run (all_with_more more body)
work_with more (head body) = head (all_with_more more body)

abbrev pub active_with : More → Active → Active
active_with more a = record a { work = map (work_with more) a.work }

abbrev pub machine_with : More → Machine → Machine
machine_with more m = record m { active = map (active_with more) m.active }

-- what is asked for has the further arguments' values
abbrev pub answer_with : (ℕ → List Cell) → Answer → Answer
answer_with cells moved = moved
answer_with cells (asked f args depth) = asked f (args ++ cells f) depth
answer_with cells (ended v) = ended v
answer_with cells (trapped trap span) = trapped trap span
answer_with cells spent = spent
answer_with cells idle = idle

abbrev pub step_with : {G : Type 0} → More → (ℕ → List Cell) → Step G → Step G
step_with more cells s = answers (answer_with cells s.answer) (machine_with more s.machine) s.gate
