-- The edges of a function: along which the values of its expressions move.
use Rattle.std.specs.Prelude.{◌≡◌, ℕ, ◌+◌, List, [], ◌∷◌, ◌++◌, Option, None, Some, Bool, not, ◌&&◌, false, if◌then◌else◌, get_or, is_none, is_some, slice_get}
use Rattle.std.specs.List.{flat_map}
use Rattle.std.specs.Option.{option_map_or}
use Rattle.pt_base.specs.declared.ids.FnId.{FnId}
use Rattle.pt_base.specs.declared.slot.Edge.{Edge}
use Rattle.pt_base.specs.declared.span.Span.{Span}
use Rattle.sides.specs.declared.objects.Object.{Object}
use Rattle.usages.specs.declared.usage.How.{How}
use Rattle.usages.specs.declared.usage.How.TheVariants.{Kept, Operated, Passed, Begins, Returned}
use Rattle.sides.specs.Carried.{Scope, carried, place_slots, scope_of, start_of}
use Rattle.reach.specs.Contexts.{InSlave, is_plain, test_function}
use Rattle.sides.specs.Leaves.{leaf_count, value_count}
use Rattle.sides.specs.Objects.{result_start, variable_objects}
use Rattle.usages.specs.Usages.{UsageTree, usages_in}
use Rattle.typed_tree.specs.declared.types.VarTy.{VarTy}
use Rattle.typed_tree.specs.ExpressionTree.{ExprTree, FormTree, typed, assign}
use Rattle.typed_tree.specs.Lookup.{function_at}
use Rattle.typed_tree.specs.TypedTree.{FunctionTree, TypedTree}
use Rattle.typed_tree.specs.TypeTests.{pointee_of}
use Rattle.typed_tree.specs.WellFormedExpression.{is_struct, ty_of}
use Rattle.flow_edges.specs.Items.{items_of}
use Rattle.flow_edges.specs.Moves.{Move, first_of_each, move_edges}

abbrev pub span_of : ExprTree → Span
span_of (typed s t f) = s

-- The value of an expression moves to these slots.
abbrev pub moved_to : Scope → ExprTree → List ℕ → Move
moved_to c a to = record {
  from = first_of_each (carried c a);
  to = first_of_each to;
  leaves = value_count (leaf_count c.structs) (ty_of a);
  back = is_some (pointee_of (ty_of a));
  span = span_of a;
}

-- ---- where values go

-- a host that isn't privileged has a result, and this parameter is marked: its result may be the argument
abbrev pub mixes : FunctionTree → ℕ → Bool
mixes f k = (is_none f.body && not f.signature.privileged)
    && (is_some f.signature.result && option_map_or (λ p. p.marked) (slice_get f.signature.params k) false)

-- the argument k of g goes to the parameter of a function of the slave, and of a mixed host to its result
abbrev pub passed_slots : TypedTree → FnId → ℕ → List ℕ
passed_slots t g k =
    if test_function is_plain t g then start_of (slice_get (variable_objects t g.0) k)
    else (if option_map_or (λ f. mixes f k) (function_at t g) false then (result_start t + g.0) ∷ [] else [])

-- a struct goes to the whole object, the item k of a brace list to the object's integer k
abbrev pub begun_slots : Scope → Option Object → ℕ → Option VarTy → List ℕ
begun_slots c None k ty = []
begun_slots c (Some x) k ty = (if is_struct ty then x.start else get_or (items_of c.structs x) k x.start) ∷ []

-- where a value of this type goes that is used so, in the body of the function f
abbrev pub target_slots : TypedTree → ℕ → How → Option VarTy → List ℕ
target_slots t f Kept ty = []
target_slots t f Operated ty = []
target_slots t f (Passed g k) ty = passed_slots t g k
target_slots t f (Begins v k) ty = begun_slots (scope_of t f) (slice_get (variable_objects t f) v.0) k ty
target_slots t f Returned ty = (result_start t + f) ∷ []

-- ---- edges

-- a plain assignment moves the value of its right side to its left side
abbrev pub assigned_edges : Scope → FormTree → List Edge
assigned_edges c (assign p a) = move_edges (moved_to c a (place_slots c p))
assigned_edges c _ = []

abbrev pub form_edges : Scope → ExprTree → List Edge
form_edges c (typed s t f) = assigned_edges c f

-- what an expression does itself, and then what is done with its value
abbrev pub usage_edges : TypedTree → ℕ → UsageTree → List Edge
usage_edges t f u =
    form_edges (scope_of t f) u.value
    ++ move_edges (moved_to (scope_of t f) u.value (target_slots t f u.how (ty_of u.value)))

-- the edges that the body of a function gives, in the order of evaluation
unfoldable pub edges_in : TypedTree → FnId → List Edge
edges_in t f = flat_map (usage_edges t f.0) (usages_in t f)

-- the edges of a function: none of one that the slave doesn't run
pub record AreEdges (t : TypedTree) (f : FnId) (edges : List Edge) : Type 0 where
  pub inside : InSlave t f → edges ≡ edges_in t f
  pub outside : ¬ InSlave t f → edges ≡ []
