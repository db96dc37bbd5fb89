-- An expression without a fault has a well formed tree of its own type; what is faulty already adds no
-- fault, and what is const is never written.
use Rattle.std.specs.Prelude.{◌≡◌, ◌≤◌, ◌++◌, ◌||◌, ℕ, List, [], Bool, true, false, Option, None, IsTrue, length, is_some}
use Rattle.std.specs.List.{Contains}
use Rattle.std.proofs.Math.Bool.{beq}
use Rattle.pt_base.specs.declared.ids.FnId.{FnId}
use Rattle.pt_base.specs.declared.span.Span.{Span}
use Rattle.pt_tree.specs.declared.operator.BinaryOp.{BinaryOp}
use Rattle.pt_tree.specs.declared.operator.PrefixOp.{PrefixOp}
use Rattle.pt_tree.specs.declared.operator.PrefixOp.TheVariants.{Increment, Decrement}
use Rattle.pt_tree.specs.ExpressionTree as e
use Rattle.pt_tree.specs.Facts.{expr_sound}
use Rattle.pt_tree.specs.SpecifierTree.{SpecTrees}
use Rattle.type_rules.specs.declared.types.Type.{«Type»}
use Rattle.type_rules.specs.declared.types.Type.TheVariants.{Bad, Void, Int, Struct, Array, Pointer}
use Rattle.type_rules.specs.declared.types.Value.{Value}
use Rattle.type_rules.specs.Conversions.{fit_rule, is_wrong}
use Rattle.type_rules.specs.Types.{is_bad, is_integer}
use Rattle.typed_tree.specs.ExpressionTree.{ExprTree}
use Rattle.typed_tree.specs.WellFormedExpression.{Names, is_typed, ty_of}
use Rattle.check_declarations.specs.declared.fault.FaultKind.TheVariants.{ConstWrite}
use Rattle.check_declarations.specs.Faults.{fault_at}
use Rattle.check_declarations.specs.Structs.{Structs, has_const}
use Rattle.check_expressions.specs.Conversions.{as_type}
use Rattle.check_expressions.specs.Environment.{Env}
use Rattle.check_expressions.specs.Expressions.{Judged, CastBase, cast_specified, judge, judge_link, judge_postfix}
use Rattle.check_expressions.specs.Links.{SoFar, logical_of}
use Rattle.check_expressions.specs.Operands.{Known, var_type, value_of, value_tree, span_of}
use Rattle.check_expressions.specs.Postfixes.{called, argument_faults}
use Rattle.type_law.specs.DeclarationsTypes.{is_good, is_variable}
use Rattle.type_law.specs.ExpressionsAgreement.{Agrees}

-- the tree of a value of this type
pub record SoundValue (n : Names) (structs : ℕ) (w : Value) (tree : ExprTree) : Type 0 where
  pub good : IsTrue (is_good structs w.ty)
  pub null : w.null ≡ true → is_integer w.ty ≡ true
  pub typed : IsTrue (is_typed n tree)
  pub has : ty_of tree ≡ var_type w.ty

-- an expression that was judged behind these structs, as a value
pub record SoundExpression (n : Names) (structs : Structs) (j : Judged) : Type 0 where
  -- a cast declares no struct
  pub same : j.structs ≡ structs
  pub value : (s : Span) → SoundValue n (length structs) (value_of j.operand) (value_tree s j.operand)

-- what is judged without a fault is sound; the constants of parsed programs are in range
abbrev pub ExpressionsAreSound : Type 0
ExpressionsAreSound = (n : Names) (env : Env) (structs : Structs) (a : e.ExprTree) → Agrees env structs n →
    IsTrue (expr_sound a) → (judge env structs a).faults ≡ [] → SoundExpression n structs (judge env structs a)

-- a value that fits a type of objects, no array, is sound as a value of it
pub record Fitted (n : Names) (ty : «Type») (tree : ExprTree) : Type 0 where
  pub typed : IsTrue (is_typed n tree)
  pub has : ty_of tree ≡ var_type ty

abbrev pub ValuesFit : Type 0
ValuesFit = (n : Names) (structs : ℕ) (ty : «Type») (w : Value) (tree : ExprTree) → SoundValue n structs w tree →
    IsTrue (is_variable structs ty) → structs ≤ length n.structs →
    is_wrong (fit_rule ty w) ≡ false → Fitted n ty (as_type ty w.null tree)

-- ---- what is faulty already, and what is const

abbrev pub is_faulty : Judged → Bool
is_faulty j = is_bad j.operand.ty

-- a postfix that stands behind its operand alone
abbrev pub is_simple : e.PostfixTree → Bool
is_simple (e.index s a) = false
is_simple (e.call s es) = false
is_simple (e.dot s w) = true
is_simple (e.arrow s w) = true
is_simple (e.increment s) = true
is_simple (e.decrement s) = true

-- An operand of type Bad was faulty already, and the operator adds no fault: the faults are those of the
-- operands. The grammar builds no chain with links of both sorts.
pub record BadOperandsAreSilent : Type 0 where
  pub prefixed : (env : Env) (structs : Structs) (s : Span) (op : PrefixOp) (a : e.ExprTree) →
      is_faulty (judge env structs a) ≡ true → (judge env structs (e.prefix s op a)).faults ≡ (judge env structs a).faults
  pub cast : (env : Env) (structs : Structs) (s : Span) (specs : SpecTrees) (pointer : Bool) (a : e.ExprTree) →
      let c : CastBase = cast_specified structs specs in
      let p : Judged = judge env c.structs a in
      is_faulty p ≡ true → (judge env structs (e.cast s specs pointer a)).faults ≡ c.faults ++ p.faults
  pub chosen : (env : Env) (structs : Structs) (s : Span) (a b c : e.ExprTree) →
      let p : Judged = judge env structs a in
      let q : Judged = judge env p.structs b in
      let r : Judged = judge env q.structs c in
      (is_faulty p || (is_faulty q || is_faulty r)) ≡ true → (judge env structs (e.choice s a b c)).faults ≡ p.faults ++ q.faults ++ r.faults
  pub assigned : (env : Env) (structs : Structs) (s : Span) (op : Option BinaryOp) (a b : e.ExprTree) →
      let p : Judged = judge env structs a in
      let q : Judged = judge env p.structs b in
      (is_faulty p || is_faulty q) ≡ true → (judge env structs (e.assign s op a b)).faults ≡ p.faults ++ q.faults
  pub linked : (env : Env) (structs : Structs) (s : Span) (is_logical : Bool) (far : SoFar) (span : Span) (op : BinaryOp) (a : e.ExprTree) →
      beq is_logical (is_some (logical_of op)) ≡ true → (is_bad far.value.ty || is_faulty (judge env structs a)) ≡ true →
      (judge_link env structs s is_logical far (e.link span op a)).faults ≡ (judge env structs a).faults
  pub indexed : (env : Env) (structs : Structs) (s : Span) (callee : Option FnId) (at : Span) (k : Known) (span : Span) (a : e.ExprTree) →
      (is_bad k.ty || is_faulty (judge env structs a)) ≡ true →
      (judge_postfix env structs s callee at k (e.index span a)).faults ≡ (judge env structs a).faults
  pub behind : (env : Env) (structs : Structs) (s : Span) (callee : Option FnId) (at : Span) (k : Known) (p : e.PostfixTree) →
      is_simple p ≡ true → is_bad k.ty ≡ true → (judge_postfix env structs s callee at k p).faults ≡ []
  pub called : (env : Env) (ty : «Type») (s : Span) (trees : List ExprTree) → is_bad ty ≡ true → (called env None ty s trees).faults ≡ []
  pub passed : (t : Option «Type») (w : Value) (at : Span) → is_bad w.ty ≡ true → argument_faults t w at ≡ []

abbrev pub is_array : «Type» → Bool
is_array Bad = false
is_array Void = false
is_array (Int t) = false
is_array (Struct n) = false
is_array (Array elem count) = true
is_array (Pointer elem fixed) = false

-- an object, no array, that is const itself or in a part
pub record IsConstObject (structs : Structs) (k : Known) : Type 0 where
  pub object : k.designates ≡ true
  pub known : is_bad k.ty ≡ false
  pub whole : is_array k.ty ≡ false
  pub is_const : (k.fixed || has_const structs k.ty) ≡ true

-- What would write a const object always has the fault of that, at the object: assignments whose right
-- side isn't faulty already, ++ and -- (C99 6.5.16p2, 6.5.2.4p1, 6.5.3.1p1).
pub record ConstIsNotWritten : Type 0 where
  pub assigned : (env : Env) (structs : Structs) (s : Span) (op : Option BinaryOp) (a b : e.ExprTree) →
      let p : Judged = judge env structs a in
      let q : Judged = judge env p.structs b in
      IsConstObject q.structs p.operand → is_faulty q ≡ false →
      Contains (judge env structs (e.assign s op a b)).faults (fault_at ConstWrite (span_of a))
  pub increased : (env : Env) (structs : Structs) (s : Span) (a : e.ExprTree) →
      let p : Judged = judge env structs a in
      IsConstObject p.structs p.operand → Contains (judge env structs (e.prefix s Increment a)).faults (fault_at ConstWrite (span_of a))
  pub decreased : (env : Env) (structs : Structs) (s : Span) (a : e.ExprTree) →
      let p : Judged = judge env structs a in
      IsConstObject p.structs p.operand → Contains (judge env structs (e.prefix s Decrement a)).faults (fault_at ConstWrite (span_of a))
  pub increased_behind : (env : Env) (structs : Structs) (s : Span) (callee : Option FnId) (at : Span) (k : Known) (span : Span) →
      IsConstObject structs k → Contains (judge_postfix env structs s callee at k (e.increment span)).faults (fault_at ConstWrite at)
  pub decreased_behind : (env : Env) (structs : Structs) (s : Span) (callee : Option FnId) (at : Span) (k : Known) (span : Span) →
      IsConstObject structs k → Contains (judge_postfix env structs s callee at k (e.decrement span)).faults (fault_at ConstWrite at)
