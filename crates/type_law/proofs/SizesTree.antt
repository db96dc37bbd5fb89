-- The nodes of what is known of an expression, of its value, and of conversions.
use Rattle.std.proofs.Common.{◌≡◌, ◌≤◌, ◌+◌, ◌++◌, refl, ℕ, Bool, true, false, List, [], ◌∷◌, arith}
use Rattle.std.specs.Prelude.{if◌then◌else◌}
use Rattle.pt_base.specs.declared.span.Span.{Span}
use Rattle.pt_base.specs.declared.int_type.IntType.{IntType}
use Rattle.pt_base.specs.IntTypes.{promoted}
use Rattle.pt_tree.specs.declared.signature.Elem.{Elem}
use Rattle.type_rules.specs.declared.types.Type.{«Type»}
use Rattle.type_rules.specs.declared.types.Type.TheVariants.{Bad, Void, Int, Struct, Array, Pointer}
use Rattle.typed_tree.specs.ExpressionTree.{ExprTree, PlaceTree, StepTree, typed, field, item, step_trees}
use Rattle.typed_tree.specs.Nodes.{expr_nodes, form_nodes, place_nodes, root_nodes, step_nodes}
use Rattle.check_expressions.specs.Conversions.{is_of_int, is_of_pointer, to_int, to_pointer, as_type, as_promoted}
use Rattle.check_expressions.specs.Operands.{Elaboration, value, object, pointed, moved, element, Known, root_of, steps_of, place_of, read_form, read_tree, value_tree}

-- ---- places

abbrev pub steps_nodes : List StepTree → ℕ
steps_nodes steps = step_nodes (step_trees steps)

-- one step more
pub steps_push_item : (steps : List StepTree) (i : ExprTree) (s : Span) → steps_nodes (steps ++ item i s ∷ []) ≡ steps_nodes steps + expr_nodes i
steps_push_item [] i s = omega arith
steps_push_item (field k ∷ steps) i s = let rest = steps_push_item steps i s in omega (arith, rest)
steps_push_item (item j t ∷ steps) i s = let rest = steps_push_item steps i s in omega (arith, rest)

pub steps_push_field : (steps : List StepTree) (k : ℕ) → steps_nodes (steps ++ field k ∷ []) ≡ steps_nodes steps + 1
steps_push_field [] k = omega arith
steps_push_field (field j ∷ steps) k = let rest = steps_push_field steps k in omega (arith, rest)
steps_push_field (item j t ∷ steps) k = let rest = steps_push_field steps k in omega (arith, rest)

-- the nodes of an expression's tree, before it is read
abbrev pub weight : Elaboration → ℕ
weight (value e) = expr_nodes e
weight (object root steps) = root_nodes root + steps_nodes steps
weight (pointed p s) = expr_nodes p
weight (moved e) = expr_nodes e
weight (element root steps at i s) = (root_nodes root + steps_nodes steps) + expr_nodes i

abbrev pub weight_of : Known → ℕ
weight_of k = weight k.tree

-- its place has as many
pub place_weight : (t : Elaboration) → root_nodes (root_of t) + steps_nodes (steps_of t) ≡ weight t
unfolding root_of steps_of
place_weight (value e) = omega arith
place_weight (object root steps) = refl
place_weight (pointed p s) = omega arith
place_weight (moved (typed s t f)) = omega arith
place_weight (element root steps at i s) = let more = steps_push_item steps i s in omega (arith, more)

form_nodes_of_read : (ty : «Type») (p : PlaceTree) → form_nodes (read_form ty p) ≡ place_nodes p
unfolding read_form
form_nodes_of_read Bad p = refl
form_nodes_of_read Void p = refl
form_nodes_of_read (Int t) p = refl
form_nodes_of_read (Struct n) p = refl
form_nodes_of_read (Array e count) p = refl
form_nodes_of_read (Pointer e fixed) p = refl

-- reading adds at most one
read_small : (s : Span) (ty : «Type») (fixed : Bool) (t : Elaboration) → expr_nodes (read_tree s ty fixed t) ≤ 1 + weight t
unfolding read_tree
read_small s ty fixed (value e) = omega arith
read_small s ty fixed (object root steps) = let form = form_nodes_of_read ty (place_of (object root steps)) in let place = place_weight (object root steps) in omega (arith, form, place)
read_small s ty fixed (pointed p span) = let form = form_nodes_of_read ty (place_of (pointed p span)) in let place = place_weight (pointed p span) in omega (arith, form, place)
read_small s ty fixed (moved p) = let form = form_nodes_of_read ty (place_of (moved p)) in let place = place_weight (moved p) in omega (arith, form, place)
read_small s ty fixed (element root steps at i span) = let form = form_nodes_of_read ty (place_of (element root steps at i span)) in let place = place_weight (element root steps at i span) in omega (arith, form, place)

pub value_small : (s : Span) (k : Known) → expr_nodes (value_tree s k) ≤ 1 + weight_of k
unfolding value_tree
value_small s k = read_small s k.ty k.fixed k.tree

-- ---- conversions add at most one

if_small : (b : Bool) (x y : ExprTree) (n : ℕ) → expr_nodes x ≤ n → expr_nodes y ≤ n → expr_nodes (if b then x else y) ≤ n
if_small true x y n h k = h
if_small false x y n h k = k

pub to_int_small : (t : IntType) (x : ExprTree) → expr_nodes (to_int t x) ≤ 1 + expr_nodes x
unfolding to_int
to_int_small t (typed s ty f) = if_small (is_of_int t ty) _ _ _ (omega arith) (omega arith)

to_pointer_small : (e : Elem) (fixed : Bool) (x : ExprTree) → expr_nodes (to_pointer e fixed x) ≤ 1 + expr_nodes x
unfolding to_pointer
to_pointer_small e fixed (typed s ty f) = if_small (is_of_pointer fixed ty) _ _ _ (omega arith) (omega arith)

pub as_type_small : (ty : «Type») (is_null : Bool) (x : ExprTree) → expr_nodes (as_type ty is_null x) ≤ 1 + expr_nodes x
unfolding as_type
as_type_small Bad is_null x = omega arith
as_type_small Void is_null x = omega arith
as_type_small (Int t) is_null x = to_int_small t x
as_type_small (Struct n) is_null x = omega arith
as_type_small (Array e count) is_null x = omega arith
as_type_small (Pointer e fixed) true (typed s t f) = omega arith
as_type_small (Pointer e fixed) false x = to_pointer_small e fixed x

pub as_promoted_small : (ty : «Type») (x : ExprTree) → expr_nodes (as_promoted ty x) ≤ 1 + expr_nodes x
unfolding as_promoted
as_promoted_small Bad x = omega arith
as_promoted_small Void x = omega arith
as_promoted_small (Int t) x = to_int_small (promoted t) x
as_promoted_small (Struct n) x = omega arith
as_promoted_small (Array e count) x = omega arith
as_promoted_small (Pointer e fixed) x = omega arith
