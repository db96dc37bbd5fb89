-- The trees of statements are plain.
use Rattle.std.proofs.Common.{◌≡◌, ℕ, ◌≤◌, Bool, true, List, [], ◌∷◌, Option, Some, None, refl, arith, map, option_map}
use Rattle.std.specs.Prelude.{◌&&◌, not}
use Rattle.std.specs.List.{list_all}
use Rattle.std.proofs.lemmas.Bool.{and_parts, leb-true}
use Rattle.pt_base.proofs.Members.{all_true_append}
use Rattle.pt_tree.specs.declared.signature.Param.{Param}
use Rattle.pt_tree.specs.declared.signature.Signature.{Signature}
use Rattle.pt_tree.specs.ExpressionTree as e
use Rattle.pt_tree.specs.StatementTree as c
use Rattle.typed_tree.specs.declared.types.StructInfo.{StructInfo}
use Rattle.typed_tree.specs.declared.types.VarTy.{VarTy}
use Rattle.typed_tree.specs.declared.types.VarTy.TheVariants.{Int, Struct, Array, Pointer}
use Rattle.typed_tree.specs.TypeTests.{same_type, both_int, integer_of, is_scalar}
use Rattle.typed_tree.specs.WellFormedExpression.{param_type, is_main}
use Rattle.pt_core.specs.CodeTree.{ExprTree, ExprTrees, no_exprs, expr_and, StmtTree, clear, check, assign, copy, call, choose, repeat, break_out, continue_on, give_back, StmtTrees, no_stmts, stmt_and}
use Rattle.pt_core.specs.Types.{Context, type_at, type_of, place_type}
use Rattle.pt_core.specs.WellFormedExpression.{stands_for, expr_fits, place_fits}
use Rattle.pt_core.specs.WellFormedStatement.{Scope, value_fits, is_compound, arguments_fit, result_fits, call_fits, return_fits, stmt_fits, stmts_fit}
use Rattle.c_printer.specs.Plain.{expr_plain, exprs_plain, maybe_plain, stmt_plain, stmts_plain, else_plain}
use Rattle.half_trees.specs.Expressions.{zero_tree, extended, postfixed, expression_tree, place_tree, argument_trees}
use Rattle.half_trees.specs.Leaves.{element, leaves_of}
use Rattle.half_trees.specs.Statements.{evaluated, stored, cleared, element_copied, copied, variable, call_tree, received, else_tree, statement_trees, statements_trees}
use Rattle.half_trees_law.proofs.Tests.{both, all_mapped_where, all_ranged}
use Rattle.half_trees_law.proofs.Names.{local_is_name, function_is_name}
use Rattle.half_trees_law.proofs.Counts.{is_counted, structs_counted, AreCounted, variable_counted, place_counted}
use Rattle.half_trees_law.proofs.Expressions.{extended_plain, postfixed_plain, expression_plain, place_plain}
use Rattle.half_trees_law.proofs.Leaves.{leaf_plain, element_plain, leaves_of_plain}

trees_plain : (xs : List c.StmtTree) → list_all stmt_plain xs ≡ true → stmts_plain (c.stmt_trees xs) ≡ true
trees_plain [] h = refl
trees_plain (x ∷ xs) h = let parts = and_parts (stmt_plain x) (list_all stmt_plain xs) h in both parts.0 (trees_plain xs parts.1)

-- an assignment
stored_plain : (to a : e.ExprTree) → expr_plain to ≡ true → expr_plain a ≡ true → stmt_plain (evaluated (stored to a)) ≡ true
stored_plain to a h k = both h k

one : (x : c.StmtTree) → stmt_plain x ≡ true → list_all stmt_plain (x ∷ []) ≡ true
one x h = both h refl

-- ---- objects

leaves_cleared : (structs : List StructInfo) (ty : VarTy) (v : ℕ) → structs_counted structs ≡ true → is_counted ty ≡ true → list_all stmt_plain (map (λ leaf. evaluated (stored (postfixed (variable v) leaf) zero_tree)) (leaves_of structs ty)) ≡ true
leaves_cleared structs ty v h is =
    all_mapped_where leaf_plain stmt_plain (λ leaf. evaluated (stored (postfixed (variable v) leaf) zero_tree))
    (λ leaf plain. stored_plain (postfixed (variable v) leaf) zero_tree (postfixed_plain (variable v) leaf (local_is_name v) plain) refl)
    (leaves_of structs ty) (leaves_of_plain structs ty h is)

cleared_plain : (structs : List StructInfo) (ty : VarTy) (v : ℕ) → structs_counted structs ≡ true → is_counted ty ≡ true → list_all stmt_plain (cleared structs ty (variable v)) ≡ true
cleared_plain structs (Pointer elem fixed) v h is = one (evaluated (stored (variable v) zero_tree)) (stored_plain (variable v) zero_tree (local_is_name v) refl)
cleared_plain structs (Int t) v h is = leaves_cleared structs (Int t) v h is
cleared_plain structs (Struct n) v h is = leaves_cleared structs (Struct n) v h is
cleared_plain structs (Array elem count) v h is = leaves_cleared structs (Array elem count) v h is

element_copied_plain : (to of : e.ExprTree) → expr_plain to ≡ true → expr_plain of ≡ true → (n : ℕ) → n ≤ 65_536 → stmt_plain (element_copied to of n) ≡ true
element_copied_plain to of h k n low =
    stored_plain (extended to (element n ∷ [])) (extended of (element n ∷ [])) (extended_plain to (element n) [] h (both (element_plain n low) refl)) (extended_plain of (element n) [] k (both (element_plain n low) refl))

copied_plain : (ty : VarTy) (to of : e.ExprTree) → is_counted ty ≡ true → expr_plain to ≡ true → expr_plain of ≡ true → list_all stmt_plain (copied ty to of) ≡ true
copied_plain (Array elem count) to of is h k =
    let few = leb-true count 65_536 is in
    all_ranged stmt_plain (element_copied to of) count (λ n low. element_copied_plain to of h k n (omega (arith, few, low))) 0 count (omega arith)
copied_plain (Int t) to of is h k = one (evaluated (stored to of)) (stored_plain to of h k)
copied_plain (Struct n) to of is h k = one (evaluated (stored to of)) (stored_plain to of h k)
copied_plain (Pointer elem fixed) to of is h k = one (evaluated (stored to of)) (stored_plain to of h k)

-- ---- calls

arguments_plain : (arguments : ExprTrees) (k : Context) (params : List Param) → arguments_fit k params arguments ≡ true → exprs_plain (argument_trees k arguments) ≡ true
arguments_plain no_exprs k params h = refl
arguments_plain (expr_and a rest) k [] h = grind (arith, h)
arguments_plain (expr_and a rest) k (p ∷ ps) h =
    let parts = and_parts (value_fits k (param_type p.kind) a) (arguments_fit k ps rest) h in
    both (expression_plain a k (and_parts (expr_fits k a) (stands_for (type_of k a) (param_type p.kind)) parts.0).0) (arguments_plain rest k ps parts.1)

call_plain : (fs : List (ℕ × Signature)) (k : Context) (f : ℕ) (arguments : ExprTrees) → exprs_plain (argument_trees k arguments) ≡ true → expr_plain (call_tree fs k f arguments) ≡ true
call_plain fs k f arguments h = both (function_is_name fs f) (both h refl)

received_plain : (v : Option ℕ) (a : e.ExprTree) → expr_plain a ≡ true → list_all stmt_plain (evaluated (received v a) ∷ []) ≡ true
received_plain None a h = one (evaluated a) h
received_plain (Some v) a h = one (evaluated (stored (variable v) a)) (stored_plain (variable v) a (local_is_name v) h)

arguments_of_call : (k : Context) (o : Option Signature) (arguments : ExprTrees) (v : Option ℕ) → call_fits k o arguments v ≡ true → exprs_plain (argument_trees k arguments) ≡ true
arguments_of_call k None arguments v h = grind (arith, h)
arguments_of_call k (Some s) arguments v h =
    arguments_plain arguments k s.params
    (and_parts (arguments_fit k s.params arguments) (result_fits k s.result v) (and_parts (not (is_main s)) (arguments_fit k s.params arguments && result_fits k s.result v) h).1).0

-- ---- by induction

returned_plain : (k : Scope) (a : Option ExprTree) → return_fits k a ≡ true → maybe_plain (option_map (expression_tree k.context) a) ≡ true
returned_plain k None h = refl
returned_plain k (Some a) h = expression_plain a k.context (and_parts (expr_fits k.context a) (both_int (integer_of (Some (type_of k.context a))) k.result) h).0

else_is_plain : (ys : StmtTrees) (xs : List c.StmtTree) → list_all stmt_plain xs ≡ true → else_plain (else_tree ys xs) ≡ true
else_is_plain no_stmts xs h = refl
else_is_plain (stmt_and a rest) xs h = trees_plain xs h

mutual
  statement_plain : (x : StmtTree) (fs : List (ℕ × Signature)) (k : Scope) (looped : Bool) → AreCounted k.context → stmt_fits k looped x ≡ true → list_all stmt_plain (statement_trees fs k.context x) ≡ true
  statement_plain (clear v) fs k looped are h = cleared_plain k.context.structs (type_at k.context.variables v) v are.structs (variable_counted k.context v are)
  statement_plain (check p) fs k looped are h = one (evaluated (place_tree k.context p)) (place_plain p k.context h)
  statement_plain (assign p a) fs k looped are h =
      let parts = and_parts (place_fits k.context p) (is_scalar (Some (place_type k.context p)) && value_fits k.context (place_type k.context p) a) h in
      let value = and_parts (is_scalar (Some (place_type k.context p))) (value_fits k.context (place_type k.context p) a) parts.1 in
      one (evaluated (stored (place_tree k.context p) (expression_tree k.context a)))
      (stored_plain (place_tree k.context p) (expression_tree k.context a) (place_plain p k.context parts.0)
      (expression_plain a k.context (and_parts (expr_fits k.context a) (stands_for (type_of k.context a) (place_type k.context p)) value.1).0))
  statement_plain (copy p q) fs k looped are h =
      let parts = and_parts (place_fits k.context p && place_fits k.context q) (is_compound (place_type k.context p) && same_type (place_type k.context p) (place_type k.context q)) h in
      let fit = and_parts (place_fits k.context p) (place_fits k.context q) parts.0 in
      copied_plain (place_type k.context p) (place_tree k.context p) (place_tree k.context q) (place_counted p k.context are) (place_plain p k.context fit.0) (place_plain q k.context fit.1)
  statement_plain (call f arguments v s) fs k looped are h =
      received_plain v (call_tree fs k.context f arguments) (call_plain fs k.context f arguments (arguments_of_call k.context (k.called f) arguments v h))
  statement_plain (choose a xs ys) fs k looped are h =
      let parts = and_parts (expr_fits k.context a && is_scalar (Some (type_of k.context a))) (stmts_fit k looped xs && stmts_fit k looped ys) h in
      let condition = and_parts (expr_fits k.context a) (is_scalar (Some (type_of k.context a))) parts.0 in
      let branches = and_parts (stmts_fit k looped xs) (stmts_fit k looped ys) parts.1 in
      both
      (both (expression_plain a k.context condition.0)
      (both (trees_plain (statements_trees fs k.context xs) (statements_plain xs fs k looped are branches.0))
      (else_is_plain ys (statements_trees fs k.context ys) (statements_plain ys fs k looped are branches.1)))) refl
  statement_plain (repeat xs s) fs k looped are h = both (trees_plain (statements_trees fs k.context xs) (statements_plain xs fs k true are h)) refl
  statement_plain break_out fs k looped are h = refl
  statement_plain continue_on fs k looped are h = refl
  statement_plain (give_back a) fs k looped are h = both (returned_plain k a h) refl

  pub statements_plain : (xs : StmtTrees) (fs : List (ℕ × Signature)) (k : Scope) (looped : Bool) → AreCounted k.context → stmts_fit k looped xs ≡ true → list_all stmt_plain (statements_trees fs k.context xs) ≡ true
  statements_plain no_stmts fs k looped are h = refl
  statements_plain (stmt_and a rest) fs k looped are h =
      let parts = and_parts (stmt_fits k looped a) (stmts_fit k looped rest) h in
      all_true_append stmt_plain (statement_trees fs k.context a) (statements_trees fs k.context rest) (statement_plain a fs k looped are parts.0) (statements_plain rest fs k looped are parts.1)
