-- What operators make of operands has few nodes more than these.
use Rattle.std.proofs.Common.{◌≡◌, ◌≤◌, ◌+◌, ◌++◌, refl, ℕ, Bool, true, false, List, [], ◌∷◌, length, map, arith, Option, Some, None}
use Rattle.std.specs.Prelude.{◌||◌, is_some, nat_eq, if◌then◌else◌}
use Rattle.pt_base.specs.declared.ids.FnId.{FnId}
use Rattle.pt_base.specs.declared.span.Span.{Span}
use Rattle.pt_int.specs.declared.operator.UnOp.{UnOp}
use Rattle.pt_int.specs.declared.operator.UnOp.TheVariants.{Minus, Plus, Flip, Not}
use Rattle.pt_tree.specs.declared.operator.BinaryOp.{BinaryOp}
use Rattle.pt_tree.specs.declared.operator.PrefixOp.{PrefixOp}
use Rattle.pt_tree.specs.declared.operator.PrefixOp.TheVariants as op
use Rattle.pt_tree.specs.declared.signature.Elem.{Elem}
use Rattle.pt_tree.specs.declared.signature.Elem.TheVariants as elem
use Rattle.pt_tree.specs.declared.word.Word.{Word}
use Rattle.type_rules.specs.declared.types.Type.{«Type»}
use Rattle.type_rules.specs.declared.types.Type.TheVariants.{Bad, Void, Int, Struct, Array, Pointer}
use Rattle.type_rules.specs.declared.types.Value.{Value}
use Rattle.type_rules.specs.declared.unary.UnaryRule.{UnaryRule}
use Rattle.type_rules.specs.declared.unary.UnaryRule.TheVariants as unary_rule
use Rattle.type_rules.specs.declared.conversions.CastRule.{CastRule}
use Rattle.type_rules.specs.declared.conversions.CastRule.TheVariants as cast
use Rattle.type_rules.specs.declared.conversions.ChoiceRule.{ChoiceRule}
use Rattle.type_rules.specs.declared.conversions.ChoiceRule.TheVariants as arms
use Rattle.type_rules.specs.declared.conversions.ConditionRule.{ConditionRule}
use Rattle.type_rules.specs.declared.conversions.ConditionRule.TheVariants as condition
use Rattle.type_rules.specs.declared.operators.Rule.{Rule}
use Rattle.type_rules.specs.declared.operators.Rule.TheVariants as rule
use Rattle.type_rules.specs.Operators.{step_rule, deref_rule, index_rule, rule_type}
use Rattle.type_rules.specs.Conversions.{cast_rule, condition_rule, choice_rule}
use Rattle.type_rules.specs.Types.{is_bad}
use Rattle.typed_tree.specs.declared.link.LogicalOp.{LogicalOp}
use Rattle.typed_tree.specs.declared.link.LinkStep.{LinkStep}
use Rattle.typed_tree.specs.declared.link.LinkStep.TheVariants as link_step
use Rattle.typed_tree.specs.ExpressionTree.{ExprTree, LinkTree, RootTree, StepTree, typed, link, link_trees, operand_trees, expr_trees, deref}
use Rattle.typed_tree.specs.Nodes.{expr_nodes, root_nodes, link_nodes, operand_nodes, exprs_nodes}
use Rattle.check_declarations.specs.declared.fault.FaultKind.{FaultKind}
use Rattle.check_declarations.specs.declared.structs.FoundField.{FoundField}
use Rattle.check_declarations.specs.Structs.{Structs, field_named}
use Rattle.check_expressions.specs.declared.meaning.Callable.{Callable}
use Rattle.check_expressions.specs.Conversions.{as_type}
use Rattle.check_expressions.specs.Environment.{Env, function_at}
use Rattle.check_expressions.specs.Operands.{Elaboration, value, object, pointed, moved, element, Known, Made, root_of, steps_of, var_type, value_tree, value_of, faulty, plain}
use Rattle.check_expressions.specs.Targets.{target_fault}
use Rattle.check_expressions.specs.Prefixes.{unary_rule_of, unary_operand, computed_by, computed, points_to_const, dereferenced_by, dereferenced, address_tree, address_of, address_of_pointer, addressed_as, addressed, stepped_by, stepped, prefixed, cast_target, cast_by, cast_to}
use Rattle.check_expressions.specs.Links.{SoFar, begun, link_type, step_of, integer_op, converted_by, first_by, has_none, linked, operand_of, links_tree, chained}
use Rattle.check_expressions.specs.Choices.{Placed, arm_tree, choice_tree, chosen_by, chosen_when, chosen, value_at, tree_at}
use Rattle.check_expressions.specs.Assignments.{misfits, stored_tree, stored_by, stored, step_rule_of, is_refused, object_value, compound_tree, compounded_by, compounded, assigned}
use Rattle.check_expressions.specs.Postfixes.{moved_tree, element_tree, index_tree, indexed_by, indexed, part_by, dotted_as, dotted, arrow_as, arrow, is_main, call_of, called_function, called_other, called}
use Rattle.type_law.proofs.SizesTree.{weight, weight_of, place_weight, steps_nodes, steps_push_field, value_small, to_int_small, as_type_small, as_promoted_small}

abbrev pub made_nodes : Made → ℕ
made_nodes m = weight_of m.operand

if_known : (b : Bool) (x y : Known) (n : ℕ) → weight_of x ≤ n → weight_of y ≤ n → weight_of (if b then x else y) ≤ n
if_known true x y n h k = h
if_known false x y n h k = k

if_made : (b : Bool) (x y : Made) (n : ℕ) → made_nodes x ≤ n → made_nodes y ≤ n → made_nodes (if b then x else y) ≤ n
if_made true x y n h k = h
if_made false x y n h k = k

-- ---- operators before an operand

unary_operand_small : (op : UnOp) (ty : «Type») (x : ExprTree) → expr_nodes (unary_operand op ty x) ≤ 1 + expr_nodes x
unfolding unary_operand
unary_operand_small Minus ty x = as_type_small ty false x
unary_operand_small Plus ty x = as_type_small ty false x
unary_operand_small Flip ty x = as_type_small ty false x
unary_operand_small Not ty x = omega arith

computed_by_small : (r : UnaryRule) (op : UnOp) (s at : Span) (x : ExprTree) → made_nodes (computed_by r op s at x) ≤ 2 + expr_nodes x
unfolding computed_by
computed_by_small unary_rule.Unknown op s at x = omega arith
computed_by_small unary_rule.Wrong op s at x = omega arith
computed_by_small (unary_rule.Gives ty) op s at x = let operand = unary_operand_small op ty x in omega (arith, operand)

computed_small : (op : UnOp) (s at : Span) (k : Known) → made_nodes (computed op s at k) ≤ 3 + weight_of k
unfolding computed
computed_small op s at k =
    let one = computed_by_small (unary_rule_of op (value_of k).ty) op s at (value_tree at k) in
    let read = value_small at k in
    omega (arith, one, read)

dereferenced_by_small : (r : UnaryRule) (fixed : Bool) (s at : Span) (x : ExprTree) → made_nodes (dereferenced_by r fixed s at x) ≤ 1 + expr_nodes x
unfolding dereferenced_by
dereferenced_by_small unary_rule.Unknown fixed s at x = omega arith
dereferenced_by_small unary_rule.Wrong fixed s at x = omega arith
dereferenced_by_small (unary_rule.Gives ty) fixed s at x = omega arith

dereferenced_small : (s at : Span) (k : Known) → made_nodes (dereferenced s at k) ≤ 2 + weight_of k
unfolding dereferenced
dereferenced_small s at k =
    let one = dereferenced_by_small (deref_rule (value_of k).ty) (points_to_const (value_of k).ty) s at (value_tree at k) in
    let read = value_small at k in
    omega (arith, one, read)

address_tree_small : (s : Span) (e : Elem) (fixed : Bool) (t : Elaboration) → expr_nodes (address_tree s e fixed t) ≤ 2 + weight t
unfolding address_tree
address_tree_small s e fixed (value x) = let place = place_weight (value x) in omega (arith, place)
address_tree_small s e fixed (object root steps) = let place = place_weight (object root steps) in omega (arith, place)
address_tree_small s e fixed (pointed p span) = omega arith
address_tree_small s e fixed (moved (typed span ty f)) = omega arith
address_tree_small s e fixed (element root steps at i span) = omega arith

address_of_small : (s at : Span) (e : Elem) (k : Known) → made_nodes (address_of s at e k) ≤ 2 + weight_of k
unfolding address_of
address_of_small s at e k = let tree = address_tree_small s e k.fixed k.tree in if_made k.designates _ _ _ tree (omega arith)

address_of_pointer_small : (designates : Bool) (s at : Span) → made_nodes (address_of_pointer designates s at) ≤ 1
unfolding address_of_pointer
address_of_pointer_small true s at = omega arith
address_of_pointer_small false s at = omega arith

addressed_as_small : (ty : «Type») (s at : Span) (k : Known) → made_nodes (addressed_as ty s at k) ≤ 2 + weight_of k
unfolding addressed_as
addressed_as_small Bad s at k = omega arith
addressed_as_small Void s at k = omega arith
addressed_as_small (Int t) s at k = address_of_small s at (elem.Int t) k
addressed_as_small (Struct n) s at k = address_of_small s at (elem.Struct n) k
addressed_as_small (Array e count) s at k = omega arith
addressed_as_small (Pointer e fixed) s at k = let one = address_of_pointer_small k.designates s at in omega (arith, one)

addressed_small : (s at : Span) (k : Known) → made_nodes (addressed s at k) ≤ 2 + weight_of k
unfolding addressed
addressed_small s at k = addressed_as_small k.ty s at k

stepped_by_small : (target : Option FaultKind) (r : UnaryRule) (s : Span) (back postfix : Bool) (at : Span) (t : Elaboration) → made_nodes (stepped_by target r s back postfix at t) ≤ 1 + weight t
unfolding stepped_by
stepped_by_small target unary_rule.Unknown s back postfix at t = omega arith
stepped_by_small target unary_rule.Wrong s back postfix at t = omega arith
stepped_by_small None (unary_rule.Gives ty) s back postfix at t = let place = place_weight t in omega (arith, place)
stepped_by_small (Some kind) (unary_rule.Gives ty) s back postfix at t = omega arith

pub stepped_small : (structs : Structs) (s : Span) (back postfix : Bool) (at : Span) (k : Known) → made_nodes (stepped structs s back postfix at k) ≤ 1 + weight_of k
unfolding stepped
stepped_small structs s back postfix at k = stepped_by_small (target_fault structs k) (step_rule k.ty) s back postfix at k.tree

pub prefixed_small : (structs : Structs) (o : PrefixOp) (s at : Span) (k : Known) → made_nodes (prefixed structs o s at k) ≤ 3 + weight_of k
unfolding prefixed
prefixed_small structs op.AddressOf s at k = let one = addressed_small s at k in omega (arith, one)
prefixed_small structs op.Dereference s at k = let one = dereferenced_small s at k in omega (arith, one)
prefixed_small structs op.Plus s at k = computed_small Plus s at k
prefixed_small structs op.Minus s at k = computed_small Minus s at k
prefixed_small structs op.Complement s at k = computed_small Flip s at k
prefixed_small structs op.Not s at k = computed_small Not s at k
prefixed_small structs op.Increment s at k = let one = stepped_small structs s false false at k in omega (arith, one)
prefixed_small structs op.Decrement s at k = let one = stepped_small structs s true false at k in omega (arith, one)

cast_by_small : (r : CastRule) (s at : Span) (x : ExprTree) → made_nodes (cast_by r s at x) ≤ 1 + expr_nodes x
unfolding cast_by
cast_by_small cast.Unknown s at x = omega arith
cast_by_small cast.Wrong s at x = omega arith
cast_by_small cast.OutOfProfile s at x = omega arith
cast_by_small (cast.Converts t) s at x = omega arith
cast_by_small cast.Discards s at x = omega arith

pub cast_small : (pointer : Bool) (base : «Type») (s at : Span) (k : Known) → made_nodes (cast_to pointer base s at k) ≤ 2 + weight_of k
unfolding cast_to
cast_small pointer base s at k =
    let one = cast_by_small (cast_rule (cast_target pointer base) (value_of k)) s at (value_tree at k) in
    let read = value_small at k in
    omega (arith, one, read)

-- ---- choices

arm_small : (ty : «Type») (p : Placed) → expr_nodes (arm_tree ty p) ≤ 2 + weight_of p.known
unfolding arm_tree
arm_small ty p =
    let one = as_type_small ty (value_at p).null (tree_at p) in
    let read = value_small p.span p.known in
    omega (arith, one, read)

choice_tree_small : (s : Span) (ty : «Type») (test first last : Placed) → expr_nodes (choice_tree s ty test first last) ≤ 6 + (weight_of test.known + (weight_of first.known + weight_of last.known))
unfolding choice_tree
choice_tree_small s ty test first last =
    let a = value_small test.span test.known in
    let b = arm_small ty first in
    let c = arm_small ty last in
    omega (arith, a, b, c)

chosen_by_small : (r : ChoiceRule) (wrong : Bool) (s : Span) (test first last : Placed) → made_nodes (chosen_by r wrong s test first last) ≤ 6 + (weight_of test.known + (weight_of first.known + weight_of last.known))
unfolding chosen_by
chosen_by_small arms.Unknown wrong s test first last = omega arith
chosen_by_small arms.Wrong wrong s test first last = omega arith
chosen_by_small arms.Structs wrong s test first last = omega arith
chosen_by_small (arms.Gives ty) true s test first last = omega arith
chosen_by_small (arms.Gives ty) false s test first last = choice_tree_small s ty test first last

chosen_when_small : (c : ConditionRule) (r : ChoiceRule) (s : Span) (test first last : Placed) → made_nodes (chosen_when c r s test first last) ≤ 6 + (weight_of test.known + (weight_of first.known + weight_of last.known))
unfolding chosen_when
chosen_when_small condition.Unknown r s test first last = omega arith
chosen_when_small condition.Wrong r s test first last = chosen_by_small r true s test first last
chosen_when_small condition.Good r s test first last = chosen_by_small r false s test first last

pub chosen_small : (s : Span) (test first last : Placed) → made_nodes (chosen s test first last) ≤ 6 + (weight_of test.known + (weight_of first.known + weight_of last.known))
unfolding chosen
chosen_small s test first last = chosen_when_small (condition_rule (value_at test)) (choice_rule (value_at first) (value_at last)) s test first last

-- ---- chains

converted_small : (r : Rule) (own other : Value) (x : ExprTree) → expr_nodes (converted_by r own other x) ≤ 1 + expr_nodes x
unfolding converted_by
converted_small rule.Unknown own other x = omega arith
converted_small (rule.Wrong left right) own other x = omega arith
converted_small (rule.Arithmetic t) own other x = to_int_small t x
converted_small (rule.Comparison t) own other x = to_int_small t x
converted_small (rule.Shift t) own other x = as_promoted_small own.ty x
converted_small rule.Logical own other x = omega arith
converted_small rule.Move own other x = omega arith
converted_small rule.MoveBy own other x = omega arith
converted_small rule.Difference own other x = omega arith
converted_small rule.ComparePointers own other x = go own.null
  where
    go : (b : Bool) → expr_nodes (if b then as_type other.ty true x else x) ≤ 1 + expr_nodes x
    go true = as_type_small other.ty true x
    go false = omega arith

first_small : (b : Bool) (r : Rule) (own other : Value) (x : ExprTree) → expr_nodes (first_by b r own other x) ≤ 1 + expr_nodes x
unfolding first_by
first_small true r own other x = converted_small r own other x
first_small false r own other x = omega arith

links_push : (ls : List LinkTree) (s : Span) (ty : _) (step : LinkStep) (x : ExprTree) → link_nodes (link_trees (ls ++ link s ty step x ∷ [])) ≡ link_nodes (link_trees ls) + expr_nodes x
links_push [] s ty step x = omega arith
links_push (link t u p y ∷ ls) s ty step x = let rest = links_push ls s ty step x in omega (arith, rest)

-- a chain so far
abbrev pub far_nodes : SoFar → ℕ
far_nodes far = expr_nodes far.first + link_nodes (link_trees far.links)

pub begun_small : (at : Span) (k : Known) → far_nodes (begun at k) ≤ 1 + weight_of k
unfolding begun
begun_small at k = let read = value_small at k in omega (arith, read)

pub linked_small : (r : Rule) (o : BinaryOp) (s : Span) (far : SoFar) (w : Value) (x : ExprTree) → far_nodes (linked r o s far w x) ≤ 2 + (far_nodes far + expr_nodes x)
unfolding linked
linked_small r o s far w x =
    let first = first_small (has_none far.links) r far.value w far.first in
    let own = converted_small r w far.value x in
    let all = links_push far.links s (link_type (rule_type r far.value w)) (step_of (integer_op o) r) (converted_by r w far.value x) in
    omega (arith, first, own, all)

operands_same : (ls : List LinkTree) → operand_nodes (operand_trees (map operand_of ls)) ≡ link_nodes (link_trees ls)
unfolding operand_of
operands_same [] = refl
operands_same (link s ty step x ∷ ls) = let rest = operands_same ls in omega (arith, rest)

links_tree_small : (o : Option LogicalOp) (s : Span) (ty : _) (first : ExprTree) (ls : List LinkTree) → expr_nodes (links_tree o s ty first ls) ≡ 1 + (expr_nodes first + link_nodes (link_trees ls))
unfolding links_tree
links_tree_small None s ty first ls = refl
links_tree_small (Some o) s ty first ls = let same = operands_same ls in omega (arith, same)

pub chained_small : (o : Option LogicalOp) (s : Span) (far : SoFar) → made_nodes (chained o s far) ≤ 1 + far_nodes far
unfolding chained
chained_small o s far = let tree = links_tree_small o s (var_type far.value.ty) far.first far.links in if_made (has_none far.links) _ _ _ (omega arith) (omega (arith, tree))

-- ---- assignments

stored_tree_small : (s : Span) (a : Known) (w : Value) (x : ExprTree) → expr_nodes (stored_tree s a w x) ≤ 2 + (weight_of a + expr_nodes x)
unfolding stored_tree
stored_tree_small s a w x = let place = place_weight a.tree in let own = as_type_small a.ty w.null x in omega (arith, place, own)

stored_by_small : (target : Option FaultKind) (misfit : Bool) (s left : Span) (a : Known) (right : Span) (w : Value) (x : ExprTree) → made_nodes (stored_by target misfit s left a right w x) ≤ 2 + (weight_of a + expr_nodes x)
unfolding stored_by
stored_by_small target misfit s left a right w x = let tree = stored_tree_small s a w x in if_known (is_some target || misfit) faulty (plain a.ty (stored_tree s a w x)) _ (omega arith) tree

stored_small : (structs : Structs) (s left : Span) (a : Known) (right : Span) (b : Known) → made_nodes (stored structs s left a right b) ≤ 3 + (weight_of a + weight_of b)
unfolding stored
stored_small structs s left a right b =
    let own = stored_by_small (target_fault structs a) (misfits a.ty (value_of b)) s left a right (value_of b) (value_tree right b) in
    let read = value_small right b in
    if_made (is_bad a.ty || is_bad b.ty) _ _ _ (omega arith) (omega (arith, own, read))

compound_tree_small : (r : Rule) (o : BinaryOp) (s left : Span) (a : Known) (w : Value) (x : ExprTree) → expr_nodes (compound_tree r o s left a w x) ≤ 2 + (weight_of a + expr_nodes x)
unfolding compound_tree
compound_tree_small r o s left a w x = let place = place_weight a.tree in let own = converted_small r w (object_value a.ty) x in omega (arith, place, own)

compounded_by_small : (target : Option FaultKind) (r : Rule) (o : BinaryOp) (s left : Span) (a : Known) (right : Span) (w : Value) (x : ExprTree) → made_nodes (compounded_by target r o s left a right w x) ≤ 2 + (weight_of a + expr_nodes x)
unfolding compounded_by
compounded_by_small target r o s left a right w x = let tree = compound_tree_small r o s left a w x in if_known (is_some target || is_refused r) faulty (plain a.ty (compound_tree r o s left a w x)) _ (omega arith) tree

compounded_small : (structs : Structs) (o : BinaryOp) (s left : Span) (a : Known) (right : Span) (b : Known) → made_nodes (compounded structs o s left a right b) ≤ 3 + (weight_of a + weight_of b)
unfolding compounded
compounded_small structs o s left a right b =
    let own = compounded_by_small (target_fault structs a) (step_rule_of o a.ty (value_of b)) o s left a right (value_of b) (value_tree right b) in
    let read = value_small right b in
    if_made (is_bad a.ty || is_bad b.ty) _ _ _ (omega arith) (omega (arith, own, read))

pub assigned_small : (structs : Structs) (o : Option BinaryOp) (s left : Span) (a : Known) (right : Span) (b : Known) → made_nodes (assigned structs o s left a right b) ≤ 3 + (weight_of a + weight_of b)
unfolding assigned
assigned_small structs None s left a right b = stored_small structs s left a right b
assigned_small structs (Some o) s left a right b = compounded_small structs o s left a right b

-- ---- what stands behind an operand

moved_tree_small : (s : Span) (ty : «Type») (step : LinkStep) (x y : ExprTree) → expr_nodes (moved_tree s ty step x y) ≤ 1 + (expr_nodes x + expr_nodes y)
unfolding moved_tree
moved_tree_small s ty step x y = omega arith

moved_small : (s at : Span) (ty : «Type») (step : LinkStep) (k : Known) (y : ExprTree) → expr_nodes (moved_tree s ty step (value_tree at k) y) ≤ 2 + (weight_of k + expr_nodes y)
moved_small s at ty step k y = let own = moved_tree_small s ty step (value_tree at k) y in let read = value_small at k in omega (arith, own, read)

element_tree_small : (ty : «Type») (s at : Span) (k : Known) (y : ExprTree) → weight (element_tree ty s at k y) ≤ 2 + (weight_of k + expr_nodes y)
unfolding element_tree
element_tree_small (Array e count) s at k y = let place = place_weight k.tree in omega (arith, place)
element_tree_small Bad s at k y = moved_small s at (value_of k).ty (link_step.Move false) k y
element_tree_small Void s at k y = moved_small s at (value_of k).ty (link_step.Move false) k y
element_tree_small (Int t) s at k y = moved_small s at (value_of k).ty (link_step.Move false) k y
element_tree_small (Struct n) s at k y = moved_small s at (value_of k).ty (link_step.Move false) k y
element_tree_small (Pointer e fixed) s at k y = moved_small s at (value_of k).ty (link_step.Move false) k y

index_tree_small : (s at : Span) (k : Known) (at_index : Span) (i : Known) → weight (index_tree s at k at_index i) ≤ 3 + (weight_of k + weight_of i)
unfolding index_tree
index_tree_small s at k at_index i = let own = moved_small s at (value_of i).ty link_step.MoveBy k (value_tree at_index i) in let read = value_small at_index i in omega (arith, own, read)

indexed_by_small : (r : Rule) (s at : Span) (k : Known) (at_index : Span) (i : Known) → made_nodes (indexed_by r s at k at_index i) ≤ 3 + (weight_of k + weight_of i)
unfolding indexed_by
indexed_by_small rule.Unknown s at k at_index i = omega arith
indexed_by_small (rule.Wrong left right) s at k at_index i = omega arith
indexed_by_small (rule.Arithmetic t) s at k at_index i = omega arith
indexed_by_small (rule.Comparison t) s at k at_index i = omega arith
indexed_by_small (rule.Shift t) s at k at_index i = omega arith
indexed_by_small rule.Logical s at k at_index i = omega arith
indexed_by_small rule.Move s at k at_index i = let own = element_tree_small k.ty s at k (value_tree at_index i) in let read = value_small at_index i in omega (arith, own, read)
indexed_by_small rule.MoveBy s at k at_index i = index_tree_small s at k at_index i
indexed_by_small rule.Difference s at k at_index i = omega arith
indexed_by_small rule.ComparePointers s at k at_index i = omega arith

pub indexed_small : (s at : Span) (k : Known) (at_index : Span) (i : Known) → made_nodes (indexed s at k at_index i) ≤ 3 + (weight_of k + weight_of i)
unfolding indexed
indexed_small s at k at_index i = indexed_by_small (index_rule (value_of k) (value_of i)) s at k at_index i

part_small : (f : Option FoundField) (w : Word) (fixed designates : Bool) (root : RootTree) (steps : List StepTree) → made_nodes (part_by f w fixed designates root steps) ≤ 1 + (root_nodes root + steps_nodes steps)
unfolding part_by
part_small None w fixed designates root steps = omega arith
part_small (Some f) w fixed designates root steps = let more = steps_push_field steps f.number in omega (arith, more)

dotted_as_small : (ty : «Type») (structs : Structs) (w : Word) (at : Span) (k : Known) → made_nodes (dotted_as ty structs w at k) ≤ 1 + weight_of k
unfolding dotted_as
dotted_as_small Bad structs w at k = omega arith
dotted_as_small Void structs w at k = omega arith
dotted_as_small (Int t) structs w at k = omega arith
dotted_as_small (Struct n) structs w at k = let part = part_small (field_named structs n w.bytes) w k.fixed k.designates (root_of k.tree) (steps_of k.tree) in let place = place_weight k.tree in omega (arith, part, place)
dotted_as_small (Array e count) structs w at k = omega arith
dotted_as_small (Pointer e fixed) structs w at k = omega arith

pub dotted_small : (structs : Structs) (w : Word) (at : Span) (k : Known) → made_nodes (dotted structs w at k) ≤ 1 + weight_of k
unfolding dotted
dotted_small structs w at k = dotted_as_small k.ty structs w at k

arrow_as_small : (ty : «Type») (structs : Structs) (s : Span) (w : Word) (at : Span) (x : ExprTree) → made_nodes (arrow_as ty structs s w at x) ≤ 1 + expr_nodes x
unfolding arrow_as
arrow_as_small Bad structs s w at x = omega arith
arrow_as_small Void structs s w at x = omega arith
arrow_as_small (Int t) structs s w at x = omega arith
arrow_as_small (Struct n) structs s w at x = omega arith
arrow_as_small (Array e count) structs s w at x = omega arith
arrow_as_small (Pointer (elem.Int t) fixed) structs s w at x = omega arith
arrow_as_small (Pointer (elem.Struct n) fixed) structs s w at x = let part = part_small (field_named structs n w.bytes) w fixed true (deref x s) [] in omega (arith, part)

pub arrow_small : (structs : Structs) (s : Span) (w : Word) (at : Span) (k : Known) → made_nodes (arrow structs s w at k) ≤ 2 + weight_of k
unfolding arrow
arrow_small structs s w at k =
    let own = arrow_as_small (value_of k).ty structs s w at (value_tree at k) in
    let read = value_small at k in
    omega (arith, own, read)

call_small : (c : Callable) (s : Span) (f : FnId) (trees : List ExprTree) → made_nodes (call_of c s f trees) ≤ 1 + exprs_nodes (expr_trees trees)
unfolding call_of
call_small c s f trees = if_made (is_main c.name) _ _ _ (omega arith) (if_made (nat_eq (length trees) (length c.params)) _ _ _ (omega arith) (omega arith))

called_function_small : (c : Option Callable) (s : Span) (f : FnId) (trees : List ExprTree) → made_nodes (called_function c s f trees) ≤ 1 + exprs_nodes (expr_trees trees)
unfolding called_function
called_function_small None s f trees = omega arith
called_function_small (Some c) s f trees = call_small c s f trees

called_other_small : (ty : «Type») (s : Span) → made_nodes (called_other ty s) ≤ 1
unfolding called_other
called_other_small Bad s = omega arith
called_other_small Void s = omega arith
called_other_small (Int t) s = omega arith
called_other_small (Struct n) s = omega arith
called_other_small (Array e count) s = omega arith
called_other_small (Pointer e fixed) s = omega arith

pub called_small : (env : Env) (f : Option FnId) (ty : «Type») (s : Span) (trees : List ExprTree) → made_nodes (called env f ty s trees) ≤ 1 + exprs_nodes (expr_trees trees)
unfolding called
called_small env None ty s trees = let one = called_other_small ty s in omega (arith, one)
called_small env (Some f) ty s trees = called_function_small (function_at env f) s f trees
