-- An operator with an operand of type Bad adds no fault to those of its operands.
use Rattle.std.proofs.Common.{◌≡◌, ◌∙◌, ap, refl, List, [], ◌++◌, Bool, true, false, Option, Some, None, append-nil, if◌then◌else◌, is_some}
use Rattle.std.specs.Prelude.{◌||◌}
use Rattle.std.proofs.Math.Bool.{beq}
use Rattle.std.proofs.lemmas.Bool.{or_right}
use Rattle.pt_base.specs.declared.ids.FnId.{FnId}
use Rattle.pt_base.specs.declared.span.Span.{Span}
use Rattle.pt_int.specs.declared.operator.UnOp.{UnOp}
use Rattle.pt_int.specs.declared.operator.UnOp.TheVariants.{Minus, Plus, Flip, Not}
use Rattle.pt_tree.specs.declared.operator.BinaryOp.{BinaryOp}
use Rattle.pt_tree.specs.declared.operator.PrefixOp.{PrefixOp}
use Rattle.pt_tree.specs.declared.operator.PrefixOp.TheVariants as op
use Rattle.pt_tree.specs.ExpressionTree as e
use Rattle.type_rules.specs.declared.types.Type.{«Type»}
use Rattle.type_rules.specs.declared.types.Type.TheVariants.{Bad, Void, Int, Struct, Array, Pointer}
use Rattle.type_rules.specs.declared.types.Value.{Value}
use Rattle.type_rules.specs.declared.operators.Rule.TheVariants as rule
use Rattle.type_rules.specs.declared.conversions.CastRule.TheVariants as cast
use Rattle.type_rules.specs.declared.conversions.ChoiceRule.{ChoiceRule}
use Rattle.type_rules.specs.declared.conversions.ChoiceRule.TheVariants as arms
use Rattle.type_rules.specs.declared.conversions.ConditionRule.TheVariants as condition
use Rattle.type_rules.specs.declared.conversions.Fit.TheVariants as fit
use Rattle.type_rules.specs.Conversions.{fit_rule, is_wrong, taken, choice_rule, condition_rule, cast_rule}
use Rattle.type_rules.specs.Conversions as conversion
use Rattle.type_rules.specs.Operators.{judged, takes, pair_rule, subscript, binary_rule, index_rule, promoted_rule, not_rule, step_rule, deref_rule}
use Rattle.type_rules.specs.Types.{is_bad, is_scalar, value_type}
use Rattle.typed_tree.specs.ExpressionTree.{ExprTree}
use Rattle.check_declarations.specs.declared.fault.FaultKind.TheVariants.{WrongType}
use Rattle.check_declarations.specs.Faults.{fault_if}
use Rattle.check_declarations.specs.Structs.{Structs, has_const}
use Rattle.check_expressions.specs.Assignments.{misfits, stored_by, stored, step_rule_of, compounded_by, compounded, assigned}
use Rattle.check_expressions.specs.Choices.{Placed, chosen_by, chosen_when, chosen, value_at}
use Rattle.check_expressions.specs.Environment.{Env}
use Rattle.check_expressions.specs.Expressions.{Judged, CastBase, cast_specified, judge, judge_link, judge_postfix}
use Rattle.check_expressions.specs.Links.{logical_of, link_rule, rule_faults}
use Rattle.check_expressions.specs.Operands.{Known, value_of, value_tree, refused, span_of, joined}
use Rattle.check_expressions.specs.Postfixes.{indexed_by, indexed, dotted_as, dotted, arrow_as, arrow, called_other, called, argument_faults}
use Rattle.check_expressions.specs.Prefixes.{unary_rule_of, computed_by, computed, points_to_const, dereferenced_by, dereferenced, addressed_as, addressed, stepped_by, stepped, prefixed, cast_target, cast_by, cast_to}
use Rattle.check_expressions.specs.Targets.{optional_fault, target_fault_of, target_fault}
use Rattle.type_law.specs.ExpressionsLaws.{BadOperandsAreSilent, is_simple}

-- ---- tests and lists

adds_none : {X : Type 0} (xs ys : List X) → ys ≡ [] → xs ++ ys ≡ xs
adds_none xs ys h = ap (λ zs. xs ++ zs) h ∙ append-nil xs

-- the value of an operand is Bad where the operand is
value_bad : (t : «Type») (f : Bool) → is_bad (value_type t f) ≡ is_bad t
value_bad Bad f = refl
value_bad Void f = refl
value_bad (Int t) f = refl
value_bad (Struct n) f = refl
value_bad (Array el c) f = refl
value_bad (Pointer el g) f = refl

known_bad : (k : Known) → is_bad (value_of k).ty ≡ is_bad k.ty
unfolding value_of
known_bad k = value_bad k.ty k.fixed

-- ---- before an operand

addressed_silent : (t : «Type») (s at : Span) (k : Known) → is_bad t ≡ true → (addressed_as t s at k).faults ≡ []
unfolding addressed_as
addressed_silent Bad s at k h = refl
addressed_silent Void s at k h = cc
addressed_silent (Int t) s at k h = cc
addressed_silent (Struct n) s at k h = cc
addressed_silent (Array el c) s at k h = cc
addressed_silent (Pointer el f) s at k h = cc

dereferenced_silent : (t : «Type») (s at : Span) (x : ExprTree) → is_bad t ≡ true → (dereferenced_by (deref_rule t) (points_to_const t) s at x).faults ≡ []
unfolding dereferenced_by deref_rule points_to_const
dereferenced_silent Bad s at x h = refl
dereferenced_silent Void s at x h = cc
dereferenced_silent (Int t) s at x h = cc
dereferenced_silent (Struct n) s at x h = cc
dereferenced_silent (Array el c) s at x h = cc
dereferenced_silent (Pointer el f) s at x h = cc

computed_silent : (o : UnOp) (t : «Type») (s at : Span) (x : ExprTree) → is_bad t ≡ true → (computed_by (unary_rule_of o t) o s at x).faults ≡ []
unfolding unary_rule_of computed_by promoted_rule not_rule
computed_silent Minus Bad s at x h = refl
computed_silent Plus Bad s at x h = refl
computed_silent Flip Bad s at x h = refl
computed_silent Not Bad s at x h = refl
computed_silent o Void s at x h = cc
computed_silent o (Int t) s at x h = cc
computed_silent o (Struct n) s at x h = cc
computed_silent o (Array el c) s at x h = cc
computed_silent o (Pointer el f) s at x h = cc

stepped_silent : (structs : Structs) (s : Span) (back postfix : Bool) (at : Span) (k : Known) → is_bad k.ty ≡ true → (stepped structs s back postfix at k).faults ≡ []
unfolding stepped target_fault stepped_by step_rule target_fault_of optional_fault
stepped_silent structs s back postfix at k h = go k.ty (k.fixed || has_const structs k.ty) h
  where
    go : (t : «Type») (c : Bool) → is_bad t ≡ true → (stepped_by (target_fault_of t k.designates c) (step_rule t) s back postfix at k.tree).faults ≡ []
    go Bad c h = refl
    go Void c h = cc
    go (Int t) c h = cc
    go (Struct n) c h = cc
    go (Array el m) c h = cc
    go (Pointer el f) c h = cc

prefixed_silent : (structs : Structs) (o : PrefixOp) (s at : Span) (k : Known) → is_bad k.ty ≡ true → (prefixed structs o s at k).faults ≡ []
unfolding prefixed addressed dereferenced computed
prefixed_silent structs op.AddressOf s at k h = addressed_silent k.ty s at k h
prefixed_silent structs op.Dereference s at k h = dereferenced_silent (value_of k).ty s at (value_tree at k) (known_bad k ∙ h)
prefixed_silent structs op.Plus s at k h = computed_silent Plus (value_of k).ty s at (value_tree at k) (known_bad k ∙ h)
prefixed_silent structs op.Minus s at k h = computed_silent Minus (value_of k).ty s at (value_tree at k) (known_bad k ∙ h)
prefixed_silent structs op.Complement s at k h = computed_silent Flip (value_of k).ty s at (value_tree at k) (known_bad k ∙ h)
prefixed_silent structs op.Not s at k h = computed_silent Not (value_of k).ty s at (value_tree at k) (known_bad k ∙ h)
prefixed_silent structs op.Increment s at k h = stepped_silent structs s false false at k h
prefixed_silent structs op.Decrement s at k h = stepped_silent structs s true false at k h

cast_silent : (pointer : Bool) (base : «Type») (s at : Span) (k : Known) → is_bad k.ty ≡ true → (cast_to pointer base s at k).faults ≡ []
unfolding cast_to cast_rule cast_by
cast_silent pointer base s at k h =
    let t = cast_target pointer base in
    ap (λ b. (cast_by (if b then cast.Unknown else conversion.converted t (value_of k).ty) s at (value_tree at k)).faults) (or_right (is_bad t) (is_bad (value_of k).ty) (known_bad k ∙ h))

-- ---- of two and three operands

chosen_silent : (s : Span) (test first last : Placed) → (is_bad test.known.ty || (is_bad first.known.ty || is_bad last.known.ty)) ≡ true → (chosen s test first last).faults ≡ []
unfolding chosen condition_rule choice_rule chosen_when chosen_by
chosen_silent s test first last h =
    go (is_bad (value_at test).ty) (is_bad (value_at first).ty || is_bad (value_at last).ty) (is_scalar (value_at test).ty)
    (conversion.joined (value_at first).ty (value_at first).null (value_at last).ty (value_at last).null)
    (ap (λ b. b || (is_bad (value_at first).ty || is_bad (value_at last).ty)) (known_bad test.known)
    ∙ ap (λ b. is_bad test.known.ty || (b || is_bad (value_at last).ty)) (known_bad first.known)
    ∙ ap (λ b. is_bad test.known.ty || (is_bad first.known.ty || b)) (known_bad last.known)
    ∙ h)
  where
    go : (a b c : Bool) (j : ChoiceRule) → (a || b) ≡ true → (chosen_when (if a then condition.Unknown else if c then condition.Good else condition.Wrong) (if b then arms.Unknown else j) s test first last).faults ≡ []
    go true b c j h = refl
    go false true true j h = refl
    go false true false j h = refl
    go false false c j h = cc

assigned_silent : (structs : Structs) (o : Option BinaryOp) (s left right : Span) (a b : Known) → (is_bad a.ty || is_bad b.ty) ≡ true → (assigned structs o s left a right b).faults ≡ []
unfolding assigned stored compounded
assigned_silent structs None s left right a b h =
    ap (λ c. (if c then refused [] else stored_by (target_fault structs a) (misfits a.ty (value_of b)) s left a right (value_of b) (value_tree right b)).faults) h
assigned_silent structs (Some o) s left right a b h =
    ap (λ c. (if c then refused [] else compounded_by (target_fault structs a) (step_rule_of o a.ty (value_of b)) o s left a right (value_of b) (value_tree right b)).faults) h

linked_silent : (is_logical : Bool) (o : BinaryOp) (v w : Value) (left right : Span) → beq is_logical (is_some (logical_of o)) ≡ true → (is_bad v.ty || is_bad w.ty) ≡ true → rule_faults (link_rule is_logical o v w) left right ≡ []
unfolding link_rule binary_rule rule_faults
linked_silent is_logical o v w left right sort h =
    ap (λ c. rule_faults (if c then judged (is_bad v.ty || is_bad w.ty) (takes o v.ty) (takes o w.ty) (pair_rule o v w) else rule.Wrong true true) left right) sort
    ∙ ap (λ c. rule_faults (judged c (takes o v.ty) (takes o w.ty) (pair_rule o v w)) left right) h

-- ---- behind an operand

indexed_silent : (s at : Span) (k : Known) (at_index : Span) (i : Known) → (is_bad k.ty || is_bad i.ty) ≡ true → (indexed s at k at_index i).faults ≡ []
unfolding indexed index_rule indexed_by
indexed_silent s at k at_index i h =
    let v = value_of k in
    let w = value_of i in
    let known : (is_bad v.ty || is_bad w.ty) ≡ true = ap (λ b. b || is_bad w.ty) (known_bad k) ∙ ap (λ b. is_bad k.ty || b) (known_bad i) ∙ h in
    ap (λ c. (indexed_by (judged c (is_scalar v.ty) (is_scalar w.ty) (subscript v.ty w.ty)) s at k at_index i).faults) known

arrow_silent : (t : «Type») (f : Bool) (structs : Structs) (s at : Span) (x : ExprTree) → is_bad t ≡ true → (w : _) → (arrow_as (value_type t f) structs s w at x).faults ≡ []
unfolding arrow_as
arrow_silent Bad f structs s at x h w = refl
arrow_silent Void f structs s at x h w = cc
arrow_silent (Int t) f structs s at x h w = cc
arrow_silent (Struct n) f structs s at x h w = cc
arrow_silent (Array el c) f structs s at x h w = cc
arrow_silent (Pointer el g) f structs s at x h w = cc

dotted_silent : (t : «Type») (structs : Structs) (at : Span) (k : Known) → is_bad t ≡ true → (w : _) → (dotted_as t structs w at k).faults ≡ []
unfolding dotted_as
dotted_silent Bad structs at k h w = refl
dotted_silent Void structs at k h w = cc
dotted_silent (Int t) structs at k h w = cc
dotted_silent (Struct n) structs at k h w = cc
dotted_silent (Array el c) structs at k h w = cc
dotted_silent (Pointer el g) structs at k h w = cc

behind_silent : (env : Env) (structs : Structs) (s : Span) (callee : Option FnId) (at : Span) (k : Known) (p : e.PostfixTree) → is_simple p ≡ true → is_bad k.ty ≡ true → (judge_postfix env structs s callee at k p).faults ≡ []
unfolding judge_postfix dotted arrow value_of
behind_silent env structs s callee at k (e.index span a) simple h = cc
behind_silent env structs s callee at k (e.call span es) simple h = cc
behind_silent env structs s callee at k (e.dot span w) simple h = dotted_silent k.ty structs at k h w
behind_silent env structs s callee at k (e.arrow span w) simple h = arrow_silent k.ty k.fixed structs (joined s span) at (value_tree at k) h w
behind_silent env structs s callee at k (e.increment span) simple h = stepped_silent structs (joined s span) false true at k h
behind_silent env structs s callee at k (e.decrement span) simple h = stepped_silent structs (joined s span) true true at k h

called_silent : (env : Env) (t : «Type») (s : Span) (trees : List ExprTree) → is_bad t ≡ true → (called env None t s trees).faults ≡ []
unfolding called called_other
called_silent env Bad s trees h = refl
called_silent env Void s trees h = cc
called_silent env (Int t) s trees h = cc
called_silent env (Struct n) s trees h = cc
called_silent env (Array el c) s trees h = cc
called_silent env (Pointer el g) s trees h = cc

passed_silent : (t : Option «Type») (w : Value) (at : Span) → is_bad w.ty ≡ true → argument_faults t w at ≡ []
unfolding argument_faults fit_rule
passed_silent None w at h = refl
passed_silent (Some t) w at h = ap (λ c. fault_if (is_wrong (if c then fit.Unknown else taken t w.ty w.null)) WrongType at) (or_right (is_bad t) (is_bad w.ty) h)

-- ---- all

pub bad_operands_are_silent : BadOperandsAreSilent
unfolding judge judge_link judge_postfix
bad_operands_are_silent = record {
  prefixed = λ env structs s o a h.
      let p : Judged = judge env structs a in
      adds_none p.faults _ (prefixed_silent p.structs o s (span_of a) p.operand h);
  cast = λ env structs s specs pointer a h.
      let c : CastBase = cast_specified structs specs in
      let p : Judged = judge env c.structs a in
      adds_none (c.faults ++ p.faults) _ (cast_silent pointer c.base s (span_of a) p.operand h);
  chosen = λ env structs s a b c h.
      let p : Judged = judge env structs a in
      let q : Judged = judge env p.structs b in
      let r : Judged = judge env q.structs c in
      adds_none (p.faults ++ q.faults ++ r.faults) _
      (chosen_silent s (record { span = span_of a; known = p.operand }) (record { span = span_of b; known = q.operand }) (record { span = span_of c; known = r.operand }) h);
  assigned = λ env structs s o a b h.
      let p : Judged = judge env structs a in
      let q : Judged = judge env p.structs b in
      adds_none (p.faults ++ q.faults) _ (assigned_silent q.structs o s (span_of a) (span_of b) p.operand q.operand h);
  linked = λ env structs s is_logical far span o a sort h.
      let q : Judged = judge env structs a in
      adds_none q.faults _ (linked_silent is_logical o far.value (value_of q.operand) far.span (span_of a) sort (ap (λ b. is_bad far.value.ty || b) (known_bad q.operand) ∙ h));
  indexed = λ env structs s callee at k span a h.
      let q : Judged = judge env structs a in
      adds_none q.faults _ (indexed_silent (joined s span) at k (span_of a) q.operand h);
  behind = behind_silent;
  called = called_silent;
  passed = passed_silent;
}
