-- Comparisons and differences of pointers, as links of chains; null is the constant 0.
use Rattle.std.proofs.Common.{◌≡◌, ◌∙◌, pos, refl, ap, sym, subst, Bool, true, false, Some, None, Result, if◌then◌else◌}
use Rattle.std.specs.Prelude.{IsTrue, is_some}
use Rattle.pt_base.specs.declared.int_type.IntType.TheVariants as i
use Rattle.pt_base.specs.declared.span.Span.{Span}
use Rattle.pt_int.specs.declared.operator.BinOp.{BinOp}
use Rattle.pt_int.specs.declared.operator.BinOp.TheVariants.{Mul, Div, Rem, Add, Sub, Shl, Shr, Lt, Gt, Le, Ge, Eq, Ne, And, Xor, Or}
use Rattle.pt_tree.specs.declared.operator.BinaryOp.{BinaryOp}
use Rattle.pt_tree.specs.declared.operator.BinaryOp.TheVariants.{Subtract}
use Rattle.pt_tree.specs.declared.signature.Elem.{Elem}
use Rattle.pt_tree.specs.ExpressionTree as e
use Rattle.runs.specs.Pointers.{compared, difference as differs}
use Rattle.type_rules.specs.declared.types.Type.{«Type»}
use Rattle.type_rules.specs.declared.types.Type.TheVariants as ty
use Rattle.type_rules.specs.declared.types.Value.{Value}
use Rattle.type_rules.specs.declared.operators.Rule.{Rule}
use Rattle.type_rules.specs.declared.operators.Rule.TheVariants as rule
use Rattle.type_rules.specs.Operators.{binary_rule, pointers}
use Rattle.type_rules.proofs.TypeLemmas.{is_same_elem-self}
use Rattle.typed_tree.specs.declared.types.VarTy.{VarTy}
use Rattle.typed_tree.specs.declared.types.VarTy.TheVariants as v
use Rattle.typed_tree.specs.ExpressionTree as t
use Rattle.typed_tree.specs.declared.link.LinkStep.TheVariants as link_step
use Rattle.typed_tree.specs.ExpressionTree.{typed}
use Rattle.typed_tree.specs.TypeTests.{pointee_of, both_elem}
use Rattle.typed_tree.specs.TypeRules.{is_comparison, int_where}
use Rattle.check_declarations.specs.Structs.{Structs}
use Rattle.check_expressions.specs.Environment.{Env}
use Rattle.check_expressions.specs.Expressions.{Judged, judge}
use Rattle.check_expressions.specs.Conversions.{as_type}
use Rattle.check_expressions.specs.Links.{SoFar, begun, link_rule, logical_of, rule_faults, step_of, integer_op, converted_by, first_by, has_none}
use Rattle.check_expressions.specs.Operands.{Known, value_of, value_tree, read_tree, span_of}
use Rattle.block_memory.specs.declared.cell.Cell as core
use Rattle.block_memory.specs.Blocks.{is_same_name}
use Rattle.source_meaning.specs.Memory.{Cell}
use Rattle.source_meaning.specs.Values.{stepped}
use Rattle.source_meaning.specs.Expressions as x
use Rattle.pt_core.specs.CodeTree.{ExprTree, compare, difference}
use Rattle.pt_core.specs.Types.{type_of, pointee_cells}
use Rattle.pt_core.specs.Values as w
use Rattle.pt_core.specs.Values.{Stop, ◌>>?◌, at_span, numbered, pointed, told}
use Rattle.half_trees.specs.Expressions as h
use Rattle.half_trees.specs.Expressions.{operator_of}
use Rattle.half_meaning_law.specs.Relations.{Scene, context_of, core_cell, is_pointer}
use Rattle.half_meaning_law.specs.CForms.{points_const, with_const, c_type}
use Rattle.half_meaning_law.specs.Expressions.{SameValues, asked, ExpressionMeans}
use Rattle.half_meaning_law.proofs.Chains.{FarHolds, LinkHolds}
use Rattle.half_meaning_law.proofs.Memories.{OneToOne}
use Rattle.half_meaning_law.proofs.Operators.{Told, compared_told, difference_told}
use Rattle.typed_tree.proofs.SameTypes.{equal_elems}
use Rattle.half_meaning_law.proofs.Judged.{Held, linked_held, one_held}
use Rattle.half_meaning_law.proofs.Operands.{as_pointer}
use Rattle.half_meaning_law.proofs.Links.{ValueOf, OpFits, steps_of, pair_held, integer_back, no_logical, val, rule_as}
use Rattle.half_meaning_law.proofs.PlaceLaw.{pointer_type}
use Rattle.check_expressions.specs.Conversions.{to_null}
use Rattle.check_expressions.specs.Expressions.{literal}
use Rattle.source_meaning.specs.Memory.{null as no_cell}
use Rattle.typed_tree.specs.Sizes.{sizes_of, elem_cells}
use Rattle.half_trees.specs.Names.{nowhere}
use Rattle.pt_core.specs.CodeTree.{null}
use Rattle.half_meaning_law.specs.Expressions.{IsFine}

-- ---- two pointers

-- both point to such elements
pub both_pointers : (c d : VarTy) → both_elem (pointee_of (Some c)) (pointee_of (Some d)) ≡ true → (elem : Elem) × (f : Bool) × (g : Bool) × (c ≡ v.Pointer elem f) × (d ≡ v.Pointer elem g)
both_pointers (v.Int t) d h = cc
both_pointers (v.Struct n) d h = cc
both_pointers (v.Array elem count) d h = cc
both_pointers (v.Pointer a f) (v.Int t) h = cc
both_pointers (v.Pointer a f) (v.Struct n) h = cc
both_pointers (v.Pointer a f) (v.Array elem count) h = cc
both_pointers (v.Pointer a f) (v.Pointer b g) h = (b, f, g, ap (λ z. v.Pointer z f) (equal_elems a b h), refl)

-- the rule of two pointers that aren't null
pointer_rule : (s : Scene) (op : BinaryOp) (a b : ExprTree) (elem : Elem) (f g : Bool) (r : Rule) (p q : Value) → type_of s.context a ≡ v.Pointer elem f → type_of s.context b ≡ v.Pointer elem g →
    ((f g : Bool) → link_rule false op (val (ty.Pointer elem f) false) (val (ty.Pointer elem g) false) ≡ r) → ValueOf s a p → ValueOf s b q → link_rule false op p q ≡ r
pointer_rule s op a b elem f g r p q is is' rules k l =
    rule_as op p q (ty.Pointer elem (points_const s.context a)) (ty.Pointer elem (points_const s.context b)) r (as_pointer s a elem f p is k) (as_pointer s b elem g q is' l)
    (ap (λ z. link_rule false op (val (ty.Pointer elem (points_const s.context a)) z) (val (ty.Pointer elem (points_const s.context b)) q.null)) (k.plain (ap is_pointer is))
    ∙ ap (λ z. link_rule false op (val (ty.Pointer elem (points_const s.context a)) false) (val (ty.Pointer elem (points_const s.context b)) z)) (l.plain (ap is_pointer is'))
    ∙ rules (points_const s.context a) (points_const s.context b))

-- how many elements one is past the other
difference_fits : (s : Scene) (a b : ExprTree) (sp : Span) (elem : Elem) (f g : Bool) → OneToOne s.global_number → type_of s.context a ≡ v.Pointer elem f → type_of s.context b ≡ v.Pointer elem g → OpFits s a b (difference a b sp) Subtract
unfolding rule_faults converted_by step_of link_rule logical_of binary_rule
difference_fits s a b sp elem f g one is is' = record {
  rule = rule.Difference;
  is = λ p q k l. pointer_rule s Subtract a b elem f g rule.Difference p q is is' (λ f g. ap (λ z. if z then rule.Difference else rule.Wrong false true) (is_same_elem-self elem)) k l;
  fine = λ p q. refl;
  typed = λ p q k. refl;
  whole = refl;
  left = λ own other y p h. refl;
  right = λ own other y p h. refl;
  combine = λ p q. numbered (at_span sp (differs is_same_name (w.target_of p) (w.target_of q)));
  asks = λ blocks. refl;
  steps = λ y z p q. difference_told s one sp y z;
}

pub int_if : (b : Bool) → IsTrue (is_some (int_where b)) → b ≡ true
int_if true h = refl
int_if false h = cc

same_elems : (b : Bool) → IsTrue (is_some (if b then Some (v.Int i.Long) else None)) → b ≡ true
same_elems true h = refl
same_elems false h = cc

pub difference_held : (s : Scene) (env : Env) (structs : Structs) (a b : ExprTree) (sp : Span) (ta tb : e.ExprTree) → OneToOne s.global_number →
    IsTrue (is_some (if both_elem (pointee_of (Some (type_of s.context a))) (pointee_of (Some (type_of s.context b))) then Some (v.Int i.Long) else None)) →
    Held s env structs a ta → Held s env structs b tb → Held s env structs (difference a b sp) (h.linked Subtract ta tb)
unfolding logical_of
difference_held s env structs a b sp ta tb one ok left right =
    let p = both_pointers (type_of s.context a) (type_of s.context b) (same_elems (both_elem (pointee_of (Some (type_of s.context a))) (pointee_of (Some (type_of s.context b)))) ok) in
    pair_held s env structs a b (difference a b sp) Subtract ta tb refl (difference_fits s a b sp p.0 p.1 p.2 one p.3 p.4) left right

-- ---- comparisons

-- what a comparison's rule is of values of these types, null or not
abbrev ComparesTypes : BinaryOp → «Type» → Bool → «Type» → Bool → Type 0
ComparesTypes op c n d k = link_rule false op (val c n) (val d k) ≡ rule.ComparePointers

two_pointers : (op : BinOp) (elem : Elem) (f g : Bool) → is_comparison op ≡ true → ComparesTypes (operator_of op) (ty.Pointer elem f) false (ty.Pointer elem g) false
unfolding link_rule logical_of binary_rule
two_pointers Lt elem f g h = ap pointers (is_same_elem-self elem)
two_pointers Gt elem f g h = ap pointers (is_same_elem-self elem)
two_pointers Le elem f g h = ap pointers (is_same_elem-self elem)
two_pointers Ge elem f g h = ap pointers (is_same_elem-self elem)
two_pointers Eq elem f g h = ap pointers (is_same_elem-self elem)
two_pointers Ne elem f g h = ap pointers (is_same_elem-self elem)
two_pointers Mul elem f g h = cc
two_pointers Div elem f g h = cc
two_pointers Rem elem f g h = cc
two_pointers Add elem f g h = cc
two_pointers Sub elem f g h = cc
two_pointers Shl elem f g h = cc
two_pointers Shr elem f g h = cc
two_pointers And elem f g h = cc
two_pointers Xor elem f g h = cc
two_pointers Or elem f g h = cc

right_null : (op : BinOp) (elem : Elem) (f n : Bool) → is_comparison op ≡ true → ComparesTypes (operator_of op) (ty.Pointer elem f) n (ty.Int i.Int) true
unfolding link_rule logical_of binary_rule
right_null Lt elem f n h = refl
right_null Gt elem f n h = refl
right_null Le elem f n h = refl
right_null Ge elem f n h = refl
right_null Eq elem f n h = refl
right_null Ne elem f n h = refl
right_null Mul elem f n h = cc
right_null Div elem f n h = cc
right_null Rem elem f n h = cc
right_null Add elem f n h = cc
right_null Sub elem f n h = cc
right_null Shl elem f n h = cc
right_null Shr elem f n h = cc
right_null And elem f n h = cc
right_null Xor elem f n h = cc
right_null Or elem f n h = cc

left_null : (op : BinOp) (elem : Elem) (f n : Bool) → is_comparison op ≡ true → ComparesTypes (operator_of op) (ty.Int i.Int) true (ty.Pointer elem f) n
unfolding link_rule logical_of binary_rule
left_null Lt elem f n h = refl
left_null Gt elem f n h = refl
left_null Le elem f n h = refl
left_null Ge elem f n h = refl
left_null Eq elem f n h = refl
left_null Ne elem f n h = refl
left_null Mul elem f n h = cc
left_null Div elem f n h = cc
left_null Rem elem f n h = cc
left_null Add elem f n h = cc
left_null Sub elem f n h = cc
left_null Shl elem f n h = cc
left_null Shr elem f n h = cc
left_null And elem f n h = cc
left_null Xor elem f n h = cc
left_null Or elem f n h = cc

-- the cells are compared in the same way
compare_steps : (s : Scene) (op : BinOp) (a : ExprTree) (sp : Span) (elem : Elem) (f g : Bool) (y z : Cell) → OneToOne s.global_number → type_of s.context a ≡ v.Pointer elem f →
    Told s None (stepped (x.sizes (context_of s)) (v.Pointer elem g) (step_of (integer_op (operator_of op)) rule.ComparePointers) y z) (told (at_span sp (compared is_same_name op (pointee_cells s.context (type_of s.context a)) (w.target_of (core_cell s y)) (w.target_of (core_cell s z)))))
unfolding step_of
compare_steps s op a sp elem f g y z one is =
    subst (λ o. Told s None (stepped (x.sizes (context_of s)) (v.Pointer elem g) (link_step.Compare o) y z) (told (at_span sp (compared is_same_name op (pointee_cells s.context (type_of s.context a)) (w.target_of (core_cell s y)) (w.target_of (core_cell s z)))))) (sym (integer_back op))
    (subst (λ o. Told s None (stepped (x.sizes (context_of s)) (v.Pointer elem g) (link_step.Compare op) y z) (told (at_span sp (compared is_same_name op (pointee_cells s.context o) (w.target_of (core_cell s y)) (w.target_of (core_cell s z)))))) (sym is)
    (compared_told s one sp op (elem_cells (sizes_of s.context.structs) elem) y z))

-- what the normal form makes of the cells
abbrev compares : Scene → BinOp → ExprTree → Span → core.Cell → core.Cell → Result core.Cell Stop
compares s op a sp p q = told (at_span sp (compared is_same_name op (pointee_cells s.context (type_of s.context a)) (w.target_of p) (w.target_of q)))

pub compare_fits : (s : Scene) (op : BinOp) (a b : ExprTree) (sp : Span) (elem : Elem) (f g : Bool) → OneToOne s.global_number → is_comparison op ≡ true → type_of s.context a ≡ v.Pointer elem f → type_of s.context b ≡ v.Pointer elem g → OpFits s a b (compare op a b sp) (operator_of op)
unfolding rule_faults converted_by
compare_fits s op a b sp elem f g one tells is is' = record {
  rule = rule.ComparePointers;
  is = λ p q k l. pointer_rule s (operator_of op) a b elem f g rule.ComparePointers p q is is' (λ f g. two_pointers op elem f g tells) k l;
  fine = λ p q. refl;
  typed = λ p q k. refl;
  whole = refl;
  left = λ own other y p h. ap (λ z. if z then as_type other.ty true y else y) (p.plain (ap is_pointer is));
  right = λ own other y p h. ap (λ z. if z then as_type other.ty true y else y) (p.plain (ap is_pointer is'));
  combine = compares s op a sp;
  asks = λ blocks. refl;
  steps = λ y z p q. subst (λ o. Told s None (stepped (x.sizes (context_of s)) o (step_of (integer_op (operator_of op)) rule.ComparePointers) y z) (compares s op a sp (core_cell s y) (core_cell s z))) (sym (ap (with_const (points_const s.context a)) is))
      (compare_steps s op a sp elem f (points_const s.context a) y z one is);
}

-- the constant 0 as null
null_same : (s : Scene) (elem other : Elem) (f : Bool) (y : t.ExprTree) → SameValues s (v.Pointer elem false) (to_null other f y) (asked s (null elem))
null_same s elem other f (typed sp u form) st st' al = (refl, record { cell = no_cell; is = refl; same = refl; fits = tt })

null_type : (elem other : Elem) (f : Bool) (y : t.ExprTree) → x.type_of (to_null other f y) ≡ v.Pointer other f
null_type elem other f (typed sp u form) = refl

-- the judgment of the constant 0
abbrev zero : Known
zero = literal (record { span = nowhere; value = pos 0; ty = i.Int })

zero_fine : (env : Env) (structs : Structs) → IsFine structs (judge env structs h.zero_tree)
unfolding judge
zero_fine env structs = record { faults = refl; structs_stay = refl }

-- a pointer with null
right_null_holds : (s : Scene) (op : BinOp) (a : ExprTree) (sp : Span) (elem other : Elem) (f : Bool) (far : SoFar) (at : Span) → OneToOne s.global_number → is_comparison op ≡ true → type_of s.context a ≡ v.Pointer elem f → FarHolds s a far →
    LinkHolds s a (null other) (compare op a (null other) sp) (operator_of op) far (value_of zero) (value_tree at zero)
unfolding rule_faults converted_by first_by literal value_of value_tree read_tree as_type
right_null_holds s op a sp elem other f far at one tells is held = record {
  rule = rule.ComparePointers;
  is = ap (λ z. link_rule false (operator_of op) (val z far.value.null) (val (ty.Int i.Int) true)) left_is ∙ right_null op elem (points_const s.context a) far.value.null tells;
  fine = λ p q. refl;
  typed = refl;
  whole = refl;
  first_now = far.first;
  first = go (has_none far.links);
  left = c_type s.context a;
  last = held.last;
  so_far = held.same;
  right = subst (λ z. SameValues s (v.Pointer other false) (as_type z true (value_tree at zero)) (asked s (null other))) (sym left_is) (null_same s other elem (points_const s.context a) (value_tree at zero));
  combine = compares s op a sp;
  asks = λ blocks. refl;
  steps = steps_of s (type_of s.context a) (v.Pointer other false) None (stepped (x.sizes (context_of s)) (c_type s.context a) (step_of (integer_op (operator_of op)) rule.ComparePointers)) (compares s op a sp)
      (λ y z p q. subst (λ o. Told s None (stepped (x.sizes (context_of s)) o (step_of (integer_op (operator_of op)) rule.ComparePointers) y z) (compares s op a sp (core_cell s y) (core_cell s z))) (sym (ap (with_const (points_const s.context a)) is))
      (compare_steps s op a sp elem f (points_const s.context a) y z one is));
}
  where
    left_is : far.value.ty ≡ ty.Pointer elem (points_const s.context a)
    left_is = as_pointer s a elem f far.value is (record { typed = held.typed; plain = held.plain })

    go : (z : Bool) → first_by z rule.ComparePointers far.value (value_of zero) far.first ≡ far.first
    go true = ap (λ z. if z then as_type (ty.Int i.Int) true far.first else far.first) (held.plain (ap is_pointer is))
    go false = refl

pub right_null_held : (s : Scene) (env : Env) (structs : Structs) (op : BinOp) (a : ExprTree) (other : Elem) (sp : Span) (ta : e.ExprTree) → OneToOne s.global_number → is_comparison op ≡ true → IsTrue (is_some (pointee_of (Some (type_of s.context a)))) →
    Held s env structs a ta → Held s env structs (compare op a (null other) sp) (h.linked (operator_of op) ta h.zero_tree)
unfolding judge span_of
right_null_held s env structs op a other sp ta one tells ok left =
    let p = pointer_type (type_of s.context a) ok in
    linked_held s env structs a (null other) (compare op a (null other) sp) (operator_of op) ta h.zero_tree left (zero_fine env structs) (no_logical op)
    (λ far held. right_null_holds s op a sp p.0 other p.1 far nowhere one tells p.2 held)

-- null with a pointer
left_null_holds : (s : Scene) (structs : Structs) (op : BinOp) (b : ExprTree) (j : Judged) (sp : Span) (elem : Elem) (f : Bool) (begin at : Span) → OneToOne s.global_number → is_comparison op ≡ true → type_of s.context b ≡ v.Pointer elem f → ExpressionMeans s structs b j →
    LinkHolds s (null elem) b (compare op (null elem) b sp) (operator_of op) (begun begin zero) (value_of j.operand) (value_tree at j.operand)
unfolding rule_faults converted_by first_by literal value_of value_tree read_tree as_type begun has_none
left_null_holds s structs op b j sp elem f begin at one tells is right = record {
  rule = rule.ComparePointers;
  is = ap (λ z. link_rule false (operator_of op) (val (ty.Int i.Int) true) (val z j.operand.null)) right_is ∙ left_null op elem (points_const s.context b) j.operand.null tells;
  fine = λ p q. refl;
  typed = refl;
  whole = refl;
  first_now = to_null elem (points_const s.context b) (value_tree begin zero);
  first = ap (λ z. as_type z true (value_tree begin zero)) right_is;
  left = v.Pointer elem (points_const s.context b);
  last = refl;
  so_far = λ st st' al. (refl, record { cell = no_cell; is = refl; same = refl; fits = tt });
  right = subst (λ z. SameValues s (type_of s.context b) (if z then as_type (ty.Int i.Int) true (value_tree at j.operand) else value_tree at j.operand) (asked s b)) (sym (right.plain (ap is_pointer is))) (right.same at);
  combine = compares s op (null elem) sp;
  asks = λ blocks. refl;
  steps = steps_of s (v.Pointer elem false) (type_of s.context b) None (stepped (x.sizes (context_of s)) (v.Pointer elem (points_const s.context b)) (step_of (integer_op (operator_of op)) rule.ComparePointers)) (compares s op (null elem) sp)
      (λ y z p q. compare_steps s op (null elem) sp elem false (points_const s.context b) y z one refl);
}
  where
    right_is : (value_of j.operand).ty ≡ ty.Pointer elem (points_const s.context b)
    right_is = as_pointer s b elem f (value_of j.operand) is (record { typed = right.typed; plain = right.plain })

pub left_null_held : (s : Scene) (env : Env) (structs : Structs) (op : BinOp) (b : ExprTree) (elem : Elem) (f : Bool) (sp : Span) (tb : e.ExprTree) → OneToOne s.global_number → is_comparison op ≡ true → type_of s.context b ≡ v.Pointer elem f →
    Held s env structs b tb → Held s env structs (compare op (null elem) b sp) (h.linked (operator_of op) h.zero_tree tb)
unfolding judge
left_null_held s env structs op b elem f sp tb one tells is right =
    one_held s env structs (null elem) b (compare op (null elem) b sp) (operator_of op) h.zero_tree tb (zero_fine env structs) right.means.fine (no_logical op)
    (left_null_holds s structs op b (judge env structs tb) sp elem f _ (span_of tb) one tells is right.means)
