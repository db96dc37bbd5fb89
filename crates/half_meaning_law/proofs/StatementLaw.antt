-- All statements.
use Rattle.std.proofs.Common.{◌≡◌, ◌∙◌, ℕ, refl, ap, sym, subst, Bool, true, false, not, Option, Some, None, List}
use Rattle.std.specs.Prelude.{IsTrue, ◌&&◌, ◌||◌, is_none, nat_lt, length}
use Rattle.pt_base.specs.declared.int_type.IntType.{IntType}
use Rattle.pt_base.specs.declared.span.Span.{Span}
use Rattle.pt_base.proofs.Booleans.{both_hold_first, both_hold_second, true_not_false}
use Rattle.pt_tree.specs.declared.signature.Signature.{Signature}
use Rattle.pt_tree.specs.StatementTree as e
use Rattle.typed_tree.specs.declared.types.VarTy.{VarTy}
use Rattle.typed_tree.specs.declared.types.VarTy.TheVariants as v
use Rattle.typed_tree.specs.TypeTests.{is_scalar, same_type, integer_of, both_int}
use Rattle.typed_tree.specs.WellFormedExpression.{is_main}
use Rattle.check_statements.specs.declared.context.Context as k
use Rattle.check_statements.specs.Outermost as o
use Rattle.check_statements.specs.Statements.{checked_all, inside, looping}
use Rattle.pt_core.specs.CodeTree.{ExprTree, ExprTrees, StmtTree, clear, check, assign, copy, call, choose, repeat, break_out, continue_on, give_back, StmtTrees, no_stmts, stmt_and}
use Rattle.pt_core.specs.Types.{type_at, type_of, place_type}
use Rattle.pt_core.specs.Statements.{does, do_all}
use Rattle.pt_core.specs.WellFormedExpression.{stands_for, expr_fits, place_fits}
use Rattle.pt_core.specs.WellFormedStatement.{Scope, value_fits, is_compound, call_fits, arguments_fit, result_fits, return_fits, stmt_fits, stmts_fit}
use Rattle.half_trees.specs.Statements.{cleared, variable, statement_trees, statements_trees}
use Rattle.half_meaning_law.specs.Relations.{Scene, frame_of}
use Rattle.half_meaning_law.specs.CForms.{is_null, stands, place_stands, is_const, is_stored, are_passed, params_of, is_struct, is_given, is_said, are_said}
use Rattle.half_meaning_law.specs.Known.{Known, FunctionsKnown, result_as}
use Rattle.half_meaning_law.specs.Expressions.{SceneFits}
use Rattle.half_meaning_law.specs.Statements.{advanced, StatementsMean, Judging, StatementsKeepTheirMeaning, BlocksKeepTheirMeaning}
use Rattle.typed_tree.proofs.SameTypes.{equal_ints}
use Rattle.half_meaning_law.proofs.Runs.{means_behind}
use Rattle.half_meaning_law.proofs.Assigns.{assign_means}
use Rattle.half_meaning_law.proofs.Copies.{copy_means}
use Rattle.half_meaning_law.proofs.Clears.{is_single, check_means, clear_means}
use Rattle.half_meaning_law.proofs.Fills.{fill_means}
use Rattle.half_meaning_law.proofs.Flows.{advanced_none, breaks, continues, returns_nothing, returns_value, condition_held}
use Rattle.half_meaning_law.proofs.Branches.{choose_means}
use Rattle.half_meaning_law.proofs.Loops.{repeat_means}
use Rattle.half_meaning_law.proofs.Results.{call_means}

-- ---- blocks

-- names mean the same in a block
pub known_inside : (s : Scene) (st : o.State) (n : ℕ) → Known s st.env st.structs → Known s (inside (advanced st n)).env (inside (advanced st n)).structs
known_inside s st n known = record {
  variables = λ j near. let h = known.variables j near in record { named = h.named; object = h.object };
  globals = λ g u is. let h = known.globals g u is in record { place = h.place; number = h.number; named = h.named; object = h.object; typed = h.typed; plain = h.plain };
  fields = known.fields;
  no_const = known.no_const;
}

pub functions_inside : (s : Scene) (names : List (ℕ × Signature)) (called : ℕ → Option Signature) (st : o.State) (n : ℕ) → FunctionsKnown s names called st.env → FunctionsKnown s names called (inside (advanced st n)).env
functions_inside s names called st n known f signature is other =
    let h = known f signature is other in
    record { place = h.place; number = h.number; named = h.named; callable = h.callable; known = h.known; no_main = h.no_main; params = h.params; result = h.result }

-- the body of a loop
in_loop : (s : Scene) (scope : Scope) (looped : Bool) (w : k.Context) → Judging s scope looped w → Judging s scope true (looping w)
in_loop s scope looped w h = record { context = h.context; result = h.result; in_loop = λ on. refl; calls = h.calls }

-- the scope with the context of the scene, which it has
abbrev within : Scene → Scope → Scope
within s scope = record { context = s.context; result = scope.result; called = scope.called }

-- ---- what is returned

integer_typed : (u : VarTy) (r : Option IntType) → IsTrue (both_int (integer_of (Some u)) r) → (to : IntType) × (u ≡ v.Int to) × (r ≡ Some to)
integer_typed (v.Int n) None h = true_not_false (sym h)
integer_typed (v.Int n) (Some to) h = (to, ap v.Int (equal_ints n to h), refl)
integer_typed (v.Struct n) r h = true_not_false (sym h)
integer_typed (v.Array el n) r h = true_not_false (sym h)
integer_typed (v.Pointer el g) r h = true_not_false (sym h)

no_result : (r : Option IntType) → IsTrue (is_none r) → r ≡ None
no_result None h = refl
no_result (Some to) h = true_not_false (sym h)

give_back_means : (s : Scene) (names : List (ℕ × Signature)) (scope : Scope) (looped : Bool) (w : k.Context) (st : o.State) (a : Option ExprTree) → SceneFits s → Known s st.env st.structs → Judging s scope looped w → IsTrue (return_fits (within s scope) a) → IsTrue (is_given a) →
    StatementsMean s st (checked_all w st (e.stmt_trees (statement_trees names s.context (give_back a)))) (does (give_back a) (frame_of s) s.core_calls)
give_back_means s names scope looped w st None fits known judging ok on = returns_nothing s w st (judging.result ∙ ap result_as (no_result scope.result ok))
give_back_means s names scope looped w st (Some a) fits known judging ok on =
    let r = integer_typed (type_of s.context a) scope.result (both_hold_second (expr_fits s.context a) (both_int (integer_of (Some (type_of s.context a))) scope.result) ok) in
    returns_value s w st r.0 a fits known (judging.result ∙ ap result_as r.2) (both_hold_first (expr_fits s.context a) (both_int (integer_of (Some (type_of s.context a))) scope.result) ok) r.1 on

-- ---- cleared variables

cleared_means : (s : Scene) (w : k.Context) (st : o.State) (n : ℕ) → SceneFits s → Known s st.env st.structs → IsTrue (nat_lt n (length s.context.variables)) → (z : Bool) → is_single (type_at s.context.variables n) ≡ z →
    StatementsMean s st (checked_all w st (e.stmt_trees (cleared s.context.structs (type_at s.context.variables n) (variable n)))) (does (clear n) (frame_of s) s.core_calls)
cleared_means s w st n fits known ok true is = clear_means s w st n fits known ok is
cleared_means s w st n fits known ok false is = fill_means s w st n fits known ok (ap not is)

-- ---- calls

called_means : (s : Scene) (names : List (ℕ × Signature)) (scope : Scope) (looped : Bool) (w : k.Context) (st : o.State) (f : ℕ) (es : ExprTrees) (result : Option ℕ) (sp : Span) → SceneFits s → Known s st.env st.structs → FunctionsKnown s names scope.called st.env → Judging s scope looped w →
    (z : Option Signature) → scope.called f ≡ z → IsTrue (call_fits s.context z es result) → IsTrue (are_passed s.context (params_of z) es) →
    StatementsMean s st (checked_all w st (e.stmt_trees (statement_trees names s.context (call f es result sp)))) (does (call f es result sp) (frame_of s) s.core_calls)
called_means s names scope looped w st f es result sp fits known functions judging None is ok on = true_not_false (sym ok)
called_means s names scope looped w st f es result sp fits known functions judging (Some signature) is ok on =
    let other = both_hold_first (not (is_main signature)) (arguments_fit s.context signature.params es && result_fits s.context signature.result result) ok in
    let more = both_hold_second (not (is_main signature)) (arguments_fit s.context signature.params es && result_fits s.context signature.result result) ok in
    call_means s names scope.called w st f signature es result sp fits known (functions f signature is other) judging.calls is other
    (both_hold_first (arguments_fit s.context signature.params es) (result_fits s.context signature.result result) more) on (both_hold_second (arguments_fit s.context signature.params es) (result_fits s.context signature.result result) more)

-- ---- all

mutual
  statement_held : (a : StmtTree) (s : Scene) (names : List (ℕ × Signature)) (scope : Scope) (looped : Bool) (w : k.Context) (st : o.State) → SceneFits s → Known s st.env st.structs → FunctionsKnown s names scope.called st.env → Judging s scope looped w →
      IsTrue (stmt_fits (within s scope) looped a) → IsTrue (is_said s.context scope.called a) → StatementsMean s st (checked_all w st (e.stmt_trees (statement_trees names s.context a))) (does a (frame_of s) s.core_calls)
  statement_held (clear n) s names scope looped w st fits known functions judging ok on = cleared_means s w st n fits known ok (is_single (type_at s.context.variables n)) refl
  statement_held (check q) s names scope looped w st fits known functions judging ok on = check_means s w st q fits known ok on
  statement_held (assign q a) s names scope looped w st fits known functions judging ok on =
      let more = both_hold_second (place_fits s.context q) (is_scalar (Some (place_type s.context q)) && value_fits s.context (place_type s.context q) a) ok in
      let value = both_hold_second (is_scalar (Some (place_type s.context q))) (value_fits s.context (place_type s.context q) a) more in
      let kept = both_hold_second (place_stands q) (not (is_const s.context q) && is_stored s.context (place_type s.context q) a) on in
      assign_means s w st q a fits known (both_hold_first (place_fits s.context q) (is_scalar (Some (place_type s.context q)) && value_fits s.context (place_type s.context q) a) ok) (both_hold_first (is_scalar (Some (place_type s.context q))) (value_fits s.context (place_type s.context q) a) more)
      (both_hold_first (expr_fits s.context a) (stands_for (type_of s.context a) (place_type s.context q)) value) (both_hold_second (expr_fits s.context a) (stands_for (type_of s.context a) (place_type s.context q)) value)
      (both_hold_first (place_stands q) (not (is_const s.context q) && is_stored s.context (place_type s.context q) a) on) (both_hold_first (not (is_const s.context q)) (is_stored s.context (place_type s.context q) a) kept) (both_hold_second (not (is_const s.context q)) (is_stored s.context (place_type s.context q) a) kept)
  statement_held (copy q r) s names scope looped w st fits known functions judging ok on =
      let places = both_hold_first (place_fits s.context q && place_fits s.context r) (is_compound (place_type s.context q) && same_type (place_type s.context q) (place_type s.context r)) ok in
      let types = both_hold_second (place_fits s.context q && place_fits s.context r) (is_compound (place_type s.context q) && same_type (place_type s.context q) (place_type s.context r)) ok in
      let stand = both_hold_first (place_stands q && place_stands r) (not (is_const s.context q) && is_struct (place_type s.context q)) on in
      let kept = both_hold_second (place_stands q && place_stands r) (not (is_const s.context q) && is_struct (place_type s.context q)) on in
      copy_means s w st q r fits known (both_hold_first (place_fits s.context q) (place_fits s.context r) places) (both_hold_second (place_fits s.context q) (place_fits s.context r) places) (both_hold_second (is_compound (place_type s.context q)) (same_type (place_type s.context q) (place_type s.context r)) types)
      (both_hold_first (place_stands q) (place_stands r) stand) (both_hold_second (place_stands q) (place_stands r) stand) (both_hold_first (not (is_const s.context q)) (is_struct (place_type s.context q)) kept) (both_hold_second (not (is_const s.context q)) (is_struct (place_type s.context q)) kept)
  statement_held (call f es result sp) s names scope looped w st fits known functions judging ok on =
      called_means s names scope looped w st f es result sp fits known functions judging (scope.called f) refl ok on
  statement_held (choose a xs ys) s names scope looped w st fits known functions judging ok on =
      let test = both_hold_first (expr_fits s.context a && is_scalar (Some (type_of s.context a))) (stmts_fit (within s scope) looped xs && stmts_fit (within s scope) looped ys) ok in
      let both = both_hold_second (expr_fits s.context a && is_scalar (Some (type_of s.context a))) (stmts_fit (within s scope) looped xs && stmts_fit (within s scope) looped ys) ok in
      let said = both_hold_second (is_null a || stands a) (are_said s.context scope.called xs && are_said s.context scope.called ys) on in
      choose_means s w st a xs ys (statements_trees names s.context xs) (statements_trees names s.context ys)
      (condition_held s st.env st.structs a fits known (both_hold_first (expr_fits s.context a) (is_scalar (Some (type_of s.context a))) test) (both_hold_second (expr_fits s.context a) (is_scalar (Some (type_of s.context a))) test) (both_hold_first (is_null a || stands a) (are_said s.context scope.called xs && are_said s.context scope.called ys) on))
      (λ n. statements_held xs s names scope looped w (inside (advanced st n)) fits (known_inside s st n known) (functions_inside s names scope.called st n functions) judging (both_hold_first (stmts_fit (within s scope) looped xs) (stmts_fit (within s scope) looped ys) both) (both_hold_first (are_said s.context scope.called xs) (are_said s.context scope.called ys) said))
      (λ n. statements_held ys s names scope looped w (inside (advanced st n)) fits (known_inside s st n known) (functions_inside s names scope.called st n functions) judging (both_hold_second (stmts_fit (within s scope) looped xs) (stmts_fit (within s scope) looped ys) both) (both_hold_second (are_said s.context scope.called xs) (are_said s.context scope.called ys) said))
  statement_held (repeat xs sp) s names scope looped w st fits known functions judging ok on =
      repeat_means s w st xs sp (statements_trees names s.context xs) (λ n. statements_held xs s names scope true (looping w) (inside (advanced st n)) fits (known_inside s st n known) (functions_inside s names scope.called st n functions) (in_loop s scope looped w judging) ok on)
  statement_held break_out s names scope looped w st fits known functions judging ok on = breaks s w st (judging.in_loop ok)
  statement_held continue_on s names scope looped w st fits known functions judging ok on = continues s w st (judging.in_loop ok)
  statement_held (give_back a) s names scope looped w st fits known functions judging ok on = give_back_means s names scope looped w st a fits known judging ok on

  statements_held : (xs : StmtTrees) (s : Scene) (names : List (ℕ × Signature)) (scope : Scope) (looped : Bool) (w : k.Context) (st : o.State) → SceneFits s → Known s st.env st.structs → FunctionsKnown s names scope.called st.env → Judging s scope looped w →
      IsTrue (stmts_fit (within s scope) looped xs) → IsTrue (are_said s.context scope.called xs) → StatementsMean s st (checked_all w st (e.stmt_trees (statements_trees names s.context xs))) (do_all xs (frame_of s) s.core_calls)
  statements_held no_stmts s names scope looped w st fits known functions judging ok on = record { fine = refl; state = advanced_none st; same = λ exprs listed st1 st1' al. record { alike = al; same = tt } }
  statements_held (stmt_and a xs) s names scope looped w st fits known functions judging ok on =
      means_behind s w st (statement_trees names s.context a) (statements_trees names s.context xs) (does a (frame_of s) s.core_calls) (do_all xs (frame_of s) s.core_calls)
      (statement_held a s names scope looped w st fits known functions judging (both_hold_first (stmt_fits (within s scope) looped a) (stmts_fit (within s scope) looped xs) ok) (both_hold_first (is_said s.context scope.called a) (are_said s.context scope.called xs) on))
      (λ n. statements_held xs s names scope looped w (advanced st n) fits known functions judging (both_hold_second (stmt_fits (within s scope) looped a) (stmts_fit (within s scope) looped xs) ok) (both_hold_second (is_said s.context scope.called a) (are_said s.context scope.called xs) on))

-- ---- the laws

scope_is : (s : Scene) (scope : Scope) (looped : Bool) (w : k.Context) → Judging s scope looped w → scope ≡ within s scope
scope_is s scope looped w h = ap (λ z. let y : Scope = record { context = z; result = scope.result; called = scope.called } in y) h.context

pub statements : StatementsKeepTheirMeaning
statements s names scope looped w st a fits known functions judging ok on =
    statement_held a s names scope looped w st fits known functions judging (subst (λ z. IsTrue (stmt_fits z looped a)) (scope_is s scope looped w judging) ok) on

pub blocks : BlocksKeepTheirMeaning
blocks s names scope looped w st xs fits known functions judging ok on =
    statements_held xs s names scope looped w st fits known functions judging (subst (λ z. IsTrue (stmts_fit z looped xs)) (scope_is s scope looped w judging) ok) on
