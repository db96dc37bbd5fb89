-- What would write a const object has the fault ConstWrite.
use Rattle.std.proofs.Common.{◌≡◌, sym, subst, refl, [], ◌∷◌, ◌++◌, Bool, true, false, Option, Some, None, if◌then◌else◌}
use Rattle.std.specs.Prelude.{◌||◌}
use Rattle.std.specs.List.{Contains}
use Rattle.std.proofs.lemmas.List.Elements.{Contains-append_right}
use Rattle.std.proofs.lemmas.Bool.{or_from}
use Rattle.pt_base.specs.declared.span.Span.{Span}
use Rattle.pt_base.proofs.Members.{contains_first}
use Rattle.pt_tree.specs.declared.operator.BinaryOp.{BinaryOp}
use Rattle.type_rules.specs.declared.types.Type.{«Type»}
use Rattle.type_rules.specs.declared.types.Type.TheVariants.{Bad, Void, Int, Struct, Array, Pointer}
use Rattle.type_rules.specs.declared.unary.UnaryRule.{UnaryRule}
use Rattle.type_rules.specs.declared.unary.UnaryRule.TheVariants as unary
use Rattle.type_rules.specs.Operators.{step_rule}
use Rattle.type_rules.specs.Types.{is_bad}
use Rattle.check_declarations.specs.declared.fault.FaultKind.{FaultKind}
use Rattle.check_declarations.specs.declared.fault.FaultKind.TheVariants.{ConstWrite, WrongType}
use Rattle.check_declarations.specs.Faults.{fault_at}
use Rattle.check_declarations.specs.Structs.{Structs, has_const}
use Rattle.check_expressions.specs.Assignments.{misfits, stored_by, stored, step_rule_of, compounded_by, compounded, assigned}
use Rattle.check_expressions.specs.Expressions.{Judged, judge, judge_postfix}
use Rattle.check_expressions.specs.Operands.{Known, value_of, value_tree, refused, span_of, joined}
use Rattle.check_expressions.specs.Prefixes.{stepped_by, stepped, prefixed}
use Rattle.check_expressions.specs.Targets.{optional_fault, object_fault, target_fault_of, target_fault}
use Rattle.type_law.specs.ExpressionsLaws.{ConstIsNotWritten, IsConstObject, is_array}

object_const : (d c : Bool) → d ≡ true → c ≡ true → object_fault d c ≡ Some ConstWrite
unfolding object_fault
object_const true true h k = refl
object_const true false h k = cc
object_const false c h k = cc

target_const : (t : «Type») (d c : Bool) → is_bad t ≡ false → is_array t ≡ false → d ≡ true → c ≡ true → target_fault_of t d c ≡ Some ConstWrite
unfolding target_fault_of
target_const Bad d c known whole h k = cc
target_const Void d c known whole h k = object_const d c h k
target_const (Int t) d c known whole h k = object_const d c h k
target_const (Struct n) d c known whole h k = object_const d c h k
target_const (Array el m) d c known whole h k = cc
target_const (Pointer el f) d c known whole h k = object_const d c h k

const_target : (structs : Structs) (k : Known) → IsConstObject structs k → target_fault structs k ≡ Some ConstWrite
unfolding target_fault
const_target structs k h = target_const k.ty k.designates (k.fixed || has_const structs k.ty) h.known h.whole h.object h.is_const

assigned_const : (structs : Structs) (o : Option BinaryOp) (s left right : Span) (a b : Known) → IsConstObject structs a → is_bad b.ty ≡ false → Contains (assigned structs o s left a right b).faults (fault_at ConstWrite left)
unfolding assigned stored compounded stored_by compounded_by optional_fault
assigned_const structs None s left right a b h known =
    let w = value_of b in
    let x = value_tree right b in
    subst (λ c. Contains (if c then refused [] else stored_by (target_fault structs a) (misfits a.ty w) s left a right w x).faults (fault_at ConstWrite left)) (sym (or_from (is_bad a.ty) (is_bad b.ty) h.known known))
    (subst (λ (t : Option FaultKind). Contains (stored_by t (misfits a.ty w) s left a right w x).faults (fault_at ConstWrite left)) (sym (const_target structs a h)) (contains_first _ _))
assigned_const structs (Some o) s left right a b h known =
    let w = value_of b in
    let x = value_tree right b in
    subst (λ c. Contains (if c then refused [] else compounded_by (target_fault structs a) (step_rule_of o a.ty w) o s left a right w x).faults (fault_at ConstWrite left)) (sym (or_from (is_bad a.ty) (is_bad b.ty) h.known known))
    (subst (λ (t : Option FaultKind). Contains (compounded_by t (step_rule_of o a.ty w) o s left a right w x).faults (fault_at ConstWrite left)) (sym (const_target structs a h)) (contains_first _ _))

stepped_const : (structs : Structs) (s : Span) (back postfix : Bool) (at : Span) (k : Known) → IsConstObject structs k → Contains (stepped structs s back postfix at k).faults (fault_at ConstWrite at)
unfolding stepped stepped_by optional_fault
stepped_const structs s back postfix at k h =
    subst (λ (t : Option FaultKind). Contains (stepped_by t (step_rule k.ty) s back postfix at k.tree).faults (fault_at ConstWrite at)) (sym (const_target structs k h)) (by_rule (step_rule k.ty))
  where
    by_rule : (r : UnaryRule) → Contains (stepped_by (Some ConstWrite) r s back postfix at k.tree).faults (fault_at ConstWrite at)
    by_rule unary.Unknown = contains_first (fault_at ConstWrite at) []
    by_rule unary.Wrong = contains_first (fault_at ConstWrite at) (fault_at WrongType at ∷ [])
    by_rule (unary.Gives t) = contains_first (fault_at ConstWrite at) []

pub const_is_not_written : ConstIsNotWritten
unfolding judge judge_postfix prefixed
const_is_not_written = record {
  assigned = λ env structs s o a b h known.
      let p : Judged = judge env structs a in
      let q : Judged = judge env p.structs b in
      Contains-append_right (p.faults ++ q.faults) _ _ (assigned_const q.structs o s (span_of a) (span_of b) p.operand q.operand h known);
  increased = λ env structs s a h.
      let p : Judged = judge env structs a in
      Contains-append_right p.faults _ _ (stepped_const p.structs s false false (span_of a) p.operand h);
  decreased = λ env structs s a h.
      let p : Judged = judge env structs a in
      Contains-append_right p.faults _ _ (stepped_const p.structs s true false (span_of a) p.operand h);
  increased_behind = λ env structs s callee at k span h. stepped_const structs (joined s span) false true at k h;
  decreased_behind = λ env structs s callee at k span h. stepped_const structs (joined s span) true true at k h;
}
