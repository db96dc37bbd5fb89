-- Outermost expressions without a fault are well formed where they stand.
use Rattle.std.proofs.Common.{◌≡◌, ℕ, refl, sym, ap, subst, Bool, true, false, [], Option, Some, None, length}
use Rattle.std.specs.Prelude.{IsTrue, slice_get, option_map}
use Rattle.pt_base.specs.declared.int_type.IntType.{IntType}
use Rattle.pt_base.specs.declared.span.Span.{Span}
use Rattle.pt_base.proofs.Booleans.{both_hold}
use Rattle.pt_base.proofs.Lists.{append_nil_first, append_nil_second}
use Rattle.pt_tree.specs.ExpressionTree as e
use Rattle.pt_tree.specs.Facts.{expr_sound, option_sound}
use Rattle.type_rules.specs.declared.types.Type.{«Type»}
use Rattle.type_rules.specs.declared.types.Type.TheVariants.{Bad, Void, Int, Struct, Array, Pointer}
use Rattle.type_rules.specs.declared.types.Value.{Value}
use Rattle.type_rules.specs.Conversions.{condition_rule, fit_rule, is_wrong}
use Rattle.typed_tree.specs.declared.ids.ExprId.{ExprId}
use Rattle.typed_tree.specs.declared.types.VarTy.{VarTy}
use Rattle.typed_tree.specs.declared.types.VarTy.TheVariants as v
use Rattle.typed_tree.specs.ExpressionTree.{ExprTree}
use Rattle.typed_tree.specs.TypeTests.{same_types, both_int, integer_of, is_scalar, is_value}
use Rattle.typed_tree.specs.WellFormedExpression.{Names, ty_of, is_typed}
use Rattle.typed_tree.specs.WellFormedStatement.{Scope, found_fits, expr_fits, option_fits, any_type, promotes_to, return_fits}
use Rattle.check_declarations.specs.declared.fault.FaultKind.TheVariants.{WrongType}
use Rattle.check_declarations.specs.Faults.{fault_if}
use Rattle.check_expressions.specs.Expressions.{judge}
use Rattle.check_expressions.specs.Operands.{var_type, value_of, value_tree, span_of}
use Rattle.check_expressions.specs.StructInfos.{object_type_of}
use Rattle.check_statements.specs.Labels.{kind_of, is_no_integer}
use Rattle.check_statements.specs.Outermost.{State, evaluated, tested, fitted, maybe_evaluated, maybe_tested, is_no_condition}
use Rattle.check_statements.specs.Statements.{switched, given_back, wants_value}
use Rattle.type_law.specs.DeclarationsTypes.{is_variable, is_result}
use Rattle.type_law.specs.ExpressionsAgreement.{Agrees}
use Rattle.type_law.specs.ExpressionsLaws.{SoundValue}
use Rattle.typed_tree.proofs.SameTypes.{int_self, type_self}
use Rattle.type_law.proofs.StatementsTypeLemmas.{has_object_type, condition_type, no_void, taking, switch_type}
use Rattle.type_law.proofs.StatementsEnvironments.{structs_within}
use Rattle.type_law.proofs.StatementsGiven.{Laws, Returns, Ready, Keeps, keeps_nowhere, keeps_behind}
use Rattle.type_law.proofs.DeclarationsFaultLemmas.{no_fault}

-- a well formed tree of a type that passes the test, which stands at a number
found : (sc : Scope) (test : Option VarTy → Bool) (k : ℕ) (tree : ExprTree) → slice_get sc.exprs k ≡ Some tree → IsTrue (is_typed sc.names tree) → IsTrue (test (ty_of tree)) → IsTrue (expr_fits sc test (record { 0 = k }))
found sc test k tree here typed passes =
    subst (λ (o : Option ExprTree). IsTrue (found_fits sc.names test o)) (sym here) (both_hold (is_typed sc.names tree) (test (ty_of tree)) typed passes)

-- a test of the type of a value
passing : (test : Option VarTy → Bool) (n : Names) (structs : ℕ) (w : Value) (tree : ExprTree) → SoundValue n structs w tree → IsTrue (test (var_type w.ty)) → IsTrue (test (ty_of tree))
passing test n structs w tree s h = subst (λ (o : Option VarTy). IsTrue (test o)) (sym s.has) h

pub evaluated_sound : (laws : Laws) (sc : Scope) (st : State) (a : e.ExprTree) → Agrees st.env st.structs sc.names → slice_get sc.exprs st.next ≡ Some (evaluated st a).tree → IsTrue (expr_sound a) → (evaluated st a).faults ≡ [] → Keeps sc.names st (evaluated st a).state × IsTrue (expr_fits sc any_type (evaluated st a).id)
evaluated_sound laws sc st a agrees here sound none =
    let s = laws.expressions sc.names st.env st.structs a agrees sound none in
    let w = s.value (span_of a) in
    (keeps_behind sc.names st (judge st.env st.structs a).structs s.same agrees, found sc any_type st.next (evaluated st a).tree here w.typed refl)

pub tested_sound : (laws : Laws) (sc : Scope) (st : State) (a : e.ExprTree) → Agrees st.env st.structs sc.names → slice_get sc.exprs st.next ≡ Some (tested st a).tree → IsTrue (expr_sound a) → (tested st a).faults ≡ [] → Keeps sc.names st (tested st a).state × IsTrue (expr_fits sc is_scalar (tested st a).id)
tested_sound laws sc st a agrees here sound none =
    let j = judge st.env st.structs a in
    let wrong = is_no_condition (condition_rule (value_of j.operand)) in
    let own = fault_if wrong WrongType (span_of a) in
    let s = laws.expressions sc.names st.env st.structs a agrees sound (append_nil_first j.faults own none) in
    let w = s.value (span_of a) in
    let value = value_of j.operand in
    let scalar = condition_type (length st.structs) value.ty value.null w.good (no_fault wrong WrongType (span_of a) (append_nil_second j.faults own none)) in
    (keeps_behind sc.names st j.structs s.same agrees, found sc is_scalar st.next (tested st a).tree here w.typed (passing is_scalar sc.names (length st.structs) value (tested st a).tree w scalar))

-- a value for an object or a result, in the typed tree: of its type, and one that a value can have
pub record Taken (sc : Scope) (ty : «Type») (id : ExprId) : Type 0 where
  pub fits : (test : Option VarTy → Bool) → IsTrue (test (var_type ty)) → IsTrue (expr_fits sc test id)
  pub value : IsTrue (is_value (Some (object_type_of ty)))

-- a value that fits an object of the type
pub fitted_sound : (laws : Laws) (sc : Scope) (st : State) (ty : «Type») (a : e.ExprTree) → Agrees st.env st.structs sc.names → slice_get sc.exprs st.next ≡ Some (fitted st ty a).tree → IsTrue (expr_sound a) → IsTrue (is_variable (length st.structs) ty) → (fitted st ty a).faults ≡ [] → Keeps sc.names st (fitted st ty a).state × Taken sc ty (fitted st ty a).id
fitted_sound laws sc st ty a agrees here sound good none =
    let j = judge st.env st.structs a in
    let value = value_of j.operand in
    let wrong = is_wrong (fit_rule ty value) in
    let own = fault_if wrong WrongType (span_of a) in
    let s = laws.expressions sc.names st.env st.structs a agrees sound (append_nil_first j.faults own none) in
    let w = s.value (span_of a) in
    let right = no_fault wrong WrongType (span_of a) (append_nil_second j.faults own none) in
    let f = laws.values sc.names (length st.structs) ty value (value_tree (span_of a) j.operand) w good (structs_within st.env st.structs sc.names agrees) right in (
      keeps_behind sc.names st j.structs s.same agrees,
      record {
        fits = λ test h. found sc test st.next (fitted st ty a).tree here f.typed (subst (λ (o : Option VarTy). IsTrue (test o)) (sym f.has) h);
        value = taking (length st.structs) ty value good w.good right;
      },
    )

-- its type is that of the object
pub takes_same : (sc : Scope) (structs : ℕ) (ty : «Type») (id : ExprId) → IsTrue (is_variable structs ty) → Taken sc ty id → IsTrue (expr_fits sc (same_types (Some (object_type_of ty))) id)
takes_same sc structs ty id good t =
    t.fits (same_types (Some (object_type_of ty)))
    (subst (λ (o : Option VarTy). IsTrue (same_types (Some (object_type_of ty)) o)) (sym (has_object_type structs ty good)) (type_self (object_type_of ty)))

-- ---- expressions that may be left out

pub maybe_evaluated_sound : (laws : Laws) (sc : Scope) (st : State) (a : Option e.ExprTree) → Ready sc st (maybe_evaluated st a).state (maybe_evaluated st a).trees → IsTrue (option_sound a) → (maybe_evaluated st a).faults ≡ [] → Keeps sc.names st (maybe_evaluated st a).state × IsTrue (option_fits sc any_type (maybe_evaluated st a).id)
maybe_evaluated_sound laws sc st None r sound none = (keeps_nowhere sc.names st r.agrees, refl)
maybe_evaluated_sound laws sc st (Some a) r sound none = evaluated_sound laws sc st a r.agrees r.stand.0 sound none

pub maybe_tested_sound : (laws : Laws) (sc : Scope) (st : State) (a : Option e.ExprTree) → Ready sc st (maybe_tested st a).state (maybe_tested st a).trees → IsTrue (option_sound a) → (maybe_tested st a).faults ≡ [] → Keeps sc.names st (maybe_tested st a).state × IsTrue (option_fits sc is_scalar (maybe_tested st a).id)
maybe_tested_sound laws sc st None r sound none = (keeps_nowhere sc.names st r.agrees, refl)
maybe_tested_sound laws sc st (Some a) r sound none = tested_sound laws sc st a r.agrees r.stand.0 sound none

-- ---- results

no_result : (result : Option IntType) (ty : «Type») → IsTrue (is_result ty) → option_map v.Int result ≡ var_type ty → wants_value ty ≡ false → result ≡ None
unfolding var_type
no_result None ty good is wants = refl
no_result (Some t) Bad good is wants = cc
no_result (Some t) Void good is wants = cc
no_result (Some t) (Int u) good is wants = cc
no_result (Some t) (Struct n) good is wants = cc
no_result (Some t) (Array e count) good is wants = cc
no_result (Some t) (Pointer e fixed) good is wants = cc

result_type : (result : Option IntType) (t : IntType) → option_map v.Int result ≡ var_type (Int t) → IsTrue (both_int (integer_of (var_type (Int t))) result)
unfolding var_type
result_type None t is = cc
result_type (Some u) t is = let same : Some u ≡ Some t = ap integer_of is in subst (λ (o : Option IntType). IsTrue (both_int (Some t) o)) (sym same) (int_self t)

-- a value that is given back
value_back : (laws : Laws) (sc : Scope) (st : State) (ty : «Type») (a : e.ExprTree) → Returns sc ty → Agrees st.env st.structs sc.names → slice_get sc.exprs st.next ≡ Some (fitted st ty a).tree → IsTrue (expr_sound a) → (fitted st ty a).faults ≡ [] → Keeps sc.names st (fitted st ty a).state × IsTrue (return_fits sc (Some (fitted st ty a).id))
value_back laws sc st Bad a returns agrees here sound none = let no : false ≡ true = returns.good in cc
value_back laws sc st Void a returns agrees here sound none =
    let j = judge st.env st.structs a in
    let value = value_of j.operand in
    let wrong = is_wrong (fit_rule Void value) in
    let own = fault_if wrong WrongType (span_of a) in
    let s = laws.expressions sc.names st.env st.structs a agrees sound (append_nil_first j.faults own none) in
    let w = s.value (span_of a) in
    absurd (no_void (length st.structs) value.ty value.null w.good (no_fault wrong WrongType (span_of a) (append_nil_second j.faults own none)))
value_back laws sc st (Int t) a returns agrees here sound none =
    let p = fitted_sound laws sc st (Int t) a agrees here sound refl none in
    (p.0, p.1.fits (λ o. both_int (integer_of o) sc.result) (result_type sc.result t returns.is))
value_back laws sc st (Struct n) a returns agrees here sound none = let no : false ≡ true = returns.good in cc
value_back laws sc st (Array e count) a returns agrees here sound none = let no : false ≡ true = returns.good in cc
value_back laws sc st (Pointer e fixed) a returns agrees here sound none = let no : false ≡ true = returns.good in cc

pub given_back_sound : (laws : Laws) (sc : Scope) (st : State) (ty : «Type») (at : Span) (a : Option e.ExprTree) → Returns sc ty → Ready sc st (given_back st ty at a).state (given_back st ty at a).trees → IsTrue (option_sound a) → (given_back st ty at a).faults ≡ [] → Keeps sc.names st (given_back st ty at a).state × IsTrue (return_fits sc (given_back st ty at a).id)
given_back_sound laws sc st ty at None returns r sound none =
    let is = no_result sc.result ty returns.good returns.is (no_fault (wants_value ty) WrongType at none) in
    (keeps_nowhere sc.names st r.agrees, rw is refl)
given_back_sound laws sc st ty at (Some a) returns r sound none = value_back laws sc st ty a returns r.agrees r.stand.0 sound none

-- ---- the controlling expression of a switch

pub record Controls (sc : Scope) (st : State) (a : e.ExprTree) : Type 0 where
  pub keeps : Keeps sc.names st (switched st a).state
  pub fits : IsTrue (expr_fits sc (promotes_to (switched st a).kind.ty) (switched st a).id)
  pub compared : IsTrue (switched st a).kind.compared

pub switched_sound : (laws : Laws) (sc : Scope) (st : State) (a : e.ExprTree) → Agrees st.env st.structs sc.names → slice_get sc.exprs st.next ≡ Some (switched st a).tree → IsTrue (expr_sound a) → (switched st a).faults ≡ [] → Controls sc st a
switched_sound laws sc st a agrees here sound none =
    let j = judge st.env st.structs a in
    let value = value_of j.operand in
    let wrong = is_no_integer value.ty in
    let own = fault_if wrong WrongType (span_of a) in
    let s = laws.expressions sc.names st.env st.structs a agrees sound (append_nil_first j.faults own none) in
    let w = s.value (span_of a) in
    let is = switch_type (length st.structs) value.ty w.good (no_fault wrong WrongType (span_of a) (append_nil_second j.faults own none)) in
    let test = promotes_to (kind_of value.ty).ty in
    record {
      keeps = keeps_behind sc.names st j.structs s.same agrees;
      fits = found sc test st.next (switched st a).tree here w.typed (passing test sc.names (length st.structs) value (switched st a).tree w is.1);
      compared = is.0;
    }
