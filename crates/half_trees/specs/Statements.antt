-- The C trees of statements.
use Rattle.std.specs.Prelude.{ℕ, List, [], ◌∷◌, ◌++◌, Option, None, Some, map, option_map}
use Rattle.std.specs.List.{range_with_len}
use Rattle.pt_base.specs.declared.int_type.IntType.TheVariants as i
use Rattle.pt_tree.specs.declared.signature.Signature.{Signature}
use Rattle.pt_tree.specs.ExpressionTree as e
use Rattle.pt_tree.specs.StatementTree as c
use Rattle.typed_tree.specs.declared.types.StructInfo.{StructInfo}
use Rattle.typed_tree.specs.declared.types.VarTy.{VarTy}
use Rattle.typed_tree.specs.declared.types.VarTy.TheVariants.{Int, Struct, Array, Pointer}
use Rattle.pt_core.specs.CodeTree.{PlaceTree, ExprTree, ExprTrees, StmtTree, clear, check, assign, copy, call, choose, repeat, break_out, continue_on, give_back, StmtTrees, no_stmts, stmt_and}
use Rattle.pt_core.specs.Types.{Context, type_at, place_type}
use Rattle.half_trees.specs.Names.{nowhere, word, local_name, function_name}
use Rattle.half_trees.specs.Expressions.{number, zero_tree, extended, postfixed, expression_tree, place_tree, argument_trees}
use Rattle.half_trees.specs.Leaves.{element, leaves_of}

abbrev pub evaluated : e.ExprTree → c.StmtTree
evaluated a = c.evaluate nowhere a

abbrev pub stored : e.ExprTree → e.ExprTree → e.ExprTree
stored to a = e.assign nowhere None to a

abbrev pub braced : List c.StmtTree → c.StmtTree
braced xs = c.block nowhere (c.stmt_trees xs)

-- 0 in an object of this type: in each integer, or in the pointer that it is
abbrev pub cleared : List StructInfo → VarTy → e.ExprTree → List c.StmtTree
cleared structs (Pointer elem fixed) x = evaluated (stored x zero_tree) ∷ []
cleared structs (Int t) x = map (λ leaf. evaluated (stored (postfixed x leaf) zero_tree)) (leaves_of structs (Int t))
cleared structs (Struct n) x = map (λ leaf. evaluated (stored (postfixed x leaf) zero_tree)) (leaves_of structs (Struct n))
cleared structs (Array elem count) x = map (λ leaf. evaluated (stored (postfixed x leaf) zero_tree)) (leaves_of structs (Array elem count))

-- one element of an array in that of another
abbrev pub element_copied : e.ExprTree → e.ExprTree → ℕ → c.StmtTree
element_copied to of n = evaluated (stored (extended to (element n ∷ [])) (extended of (element n ∷ [])))

-- an object of this type in another: an array by its elements (C99 6.5.16p2)
abbrev pub copied : VarTy → e.ExprTree → e.ExprTree → List c.StmtTree
copied (Array elem count) to of = map (element_copied to of) (range_with_len 0 count)
copied (Int t) to of = evaluated (stored to of) ∷ []
copied (Struct n) to of = evaluated (stored to of) ∷ []
copied (Pointer elem fixed) to of = evaluated (stored to of) ∷ []

abbrev pub variable : ℕ → e.ExprTree
variable v = e.name (word (local_name v))

abbrev pub call_tree : List (ℕ × Signature) → Context → ℕ → ExprTrees → e.ExprTree
call_tree signatures k f arguments = e.postfix nowhere (e.name (word (function_name signatures f))) (e.postfix_and (e.call nowhere (argument_trees k arguments)) e.no_postfixes)

-- a call, whose result goes to a variable where there is one
abbrev pub received : Option ℕ → e.ExprTree → e.ExprTree
received None a = a
received (Some v) a = stored (variable v) a

-- `else` with a block, nothing where there are no statements
abbrev pub else_tree : StmtTrees → List c.StmtTree → c.ElseTree
else_tree no_stmts xs = c.no_else
else_tree (stmt_and a rest) xs = c.otherwise (braced xs)

abbrev mutual
  -- a statement, by what functions are called with and by what numbers name
  pub statement_trees : List (ℕ × Signature) → Context → StmtTree → List c.StmtTree
  statement_trees fs k (clear v) = cleared k.structs (type_at k.variables v) (variable v)
  statement_trees fs k (check x) = evaluated (place_tree k x) ∷ []
  statement_trees fs k (assign x a) = evaluated (stored (place_tree k x) (expression_tree k a)) ∷ []
  statement_trees fs k (copy to of) = copied (place_type k to) (place_tree k to) (place_tree k of)
  statement_trees fs k (call f arguments v s) = evaluated (received v (call_tree fs k f arguments)) ∷ []
  statement_trees fs k (choose a xs ys) = c.choose nowhere (expression_tree k a) (braced (statements_trees fs k xs)) (else_tree ys (statements_trees fs k ys)) ∷ []
  statement_trees fs k (repeat xs s) = c.while_true nowhere (number i.Int 1) (braced (statements_trees fs k xs)) ∷ []
  statement_trees fs k break_out = c.stop_loop nowhere ∷ []
  statement_trees fs k continue_on = c.next_turn nowhere ∷ []
  statement_trees fs k (give_back a) = c.give_back nowhere (option_map (expression_tree k) a) ∷ []

  pub statements_trees : List (ℕ × Signature) → Context → StmtTrees → List c.StmtTree
  statements_trees fs k no_stmts = []
  statements_trees fs k (stmt_and a rest) = statement_trees fs k a ++ statements_trees fs k rest
