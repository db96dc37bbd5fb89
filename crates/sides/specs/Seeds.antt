-- Where secrets begin in the slave's code.
use Rattle.std.specs.Prelude.{◌<◌, ℕ, ◌+◌, List, [], Option, None, Some, Bool, false, not, ◌&&◌, ◌||◌, ◌⊎◌, if◌then◌else◌, length, map, slice_get, IsTrue, Contains}
use Rattle.std.specs.List.{filter, flat_map, range_with_len}
use Rattle.std.specs.Option.{option_map_or}
use Rattle.pt_base.specs.declared.ids.FnId.{FnId}
use Rattle.pt_base.specs.declared.slot.Slot.{Slot}
use Rattle.pt_tree.specs.declared.signature.ParamKind.TheVariants as k
use Rattle.pt_tree.specs.declared.signature.Signature.{Signature}
use Rattle.typed_tree.specs.ExpressionTree.{ExprTree}
use Rattle.typed_tree.specs.TypedTree.{FunctionTree, TypedTree}
use Rattle.typed_tree.specs.Lookup.{function_at}
use Rattle.sides.specs.declared.slots.Owner.{Owner}
use Rattle.sides.specs.declared.slots.Owner.TheVariants.{Variable, Global, Result}
use Rattle.sides.specs.declared.objects.Object.{Object}
use Rattle.usages.specs.declared.usage.How.TheVariants.{Passed}
use Rattle.sides.specs.Leaves.{leaf_count}
use Rattle.sides.specs.Slots.{slots_of, slot_at}
use Rattle.sides.specs.Objects.{variable_objects}
use Rattle.usages.specs.declared.usage.How.{How}
use Rattle.usages.specs.Usages.{usages_in}
use Rattle.sides.specs.Carried.{scope_of, carried}
use Rattle.reach.specs.Contexts.{InSlave, IsOwned}
pub use Rattle.pt_tree.specs.Signatures.{is_out}

-- ---- marked slots

-- what a function or host returns is secret: it is marked `priv` and not `declassify`
abbrev pub is_sealed_result : Signature → Bool
is_sealed_result s = s.privileged && not s.declassify

-- the object itself is marked `priv`, or of a result, it is secret
abbrev pub owner_marked : TypedTree → Owner → Bool
owner_marked t (Variable f v) = option_map_or (λ x. option_map_or (λ y. y.marked) (slice_get x.vars v.0) false) (function_at t f) false
owner_marked t (Global g) = option_map_or (λ x. x.var.marked) (slice_get t.globals g.0) false
owner_marked t (Result f) = option_map_or (λ x. is_sealed_result x.signature) (function_at t f) false

-- it stands in the slave's code: a variable of one of its functions, a global that it owns, or what a function returns,
-- which belongs to no half alone
abbrev pub StandsInSlave : TypedTree → Owner → Type 0
StandsInSlave t (Variable f v) = InSlave t f
StandsInSlave t (Global g) = IsOwned t g
StandsInSlave t (Result f) = Unit {0}

-- the slot is of an object that is marked, or lies under a marked field
abbrev pub IsMarkedSlot : TypedTree → ℕ → Type 0
IsMarkedSlot t s = StandsInSlave t (slot_at t s).owner × IsTrue (owner_marked t (slot_at t s).owner || (slot_at t s).marked)

-- ---- what comes back from privileged functions

-- the function is marked `priv`, and gives something back through its parameter k
abbrev pub gives_back : Option FunctionTree → ℕ → Bool
gives_back None k = false
gives_back (Some f) k = f.signature.privileged && option_map_or (λ p. is_out p.kind) (slice_get f.signature.params k) false

-- all that it gives back there is secret
abbrev pub seals_all : Option FunctionTree → ℕ → Bool
seals_all f k = option_map_or (λ x. option_map_or (λ p. p.marked && not p.declassify) (slice_get x.signature.params k) false) f false

-- it gives back a secret in the leaf j of its parameter k, of which this is the object: the leaf lies under
-- a marked field of what is pointed to, or all is secret
abbrev pub is_sealed_leaf : TypedTree → FnId → ℕ → Object → ℕ → Bool
is_sealed_leaf t g k x j = seals_all (function_at t g) k || (slot_at t (x.start + j)).marked

-- the leaves of the parameter k of g, of which this is the object, that come back secret
abbrev pub sealed_leaves : TypedTree → FnId → ℕ → Object → List ℕ
sealed_leaves t g k x = filter (is_sealed_leaf t g k x) (range_with_len 0 (leaf_count t.structs x.ty))

-- the slots behind an argument that come back secret: behind each slot that it carries, those leaves
abbrev pub sealed_behind : TypedTree → FnId → ℕ → Option Object → List ℕ → List ℕ
sealed_behind t g k None starts = []
sealed_behind t g k (Some x) starts = flat_map (λ start. map (λ j. start + j) (sealed_leaves t g k x)) starts

-- those behind an expression that is used so, in the body of the function f
abbrev pub usage_sealed : TypedTree → FnId → How → ExprTree → List ℕ
usage_sealed t f (Passed g k) a = if gives_back (function_at t g) k then sealed_behind t g k (slice_get (variable_objects t g.0) k) (carried (scope_of t f.0) a) else []
usage_sealed t f how a = []

-- those behind all arguments in the body of a function
abbrev pub sealed_in : TypedTree → FnId → List ℕ
sealed_in t f = flat_map (λ u. usage_sealed t f u.how u.value) (usages_in t f)

-- ---- seeds

-- a slot is a seed: it is marked, or it lies behind an argument in the slave's code and comes back secret
abbrev pub IsSeed : TypedTree → Slot → Type 0
IsSeed t s = (s.0 < length (slots_of t)) × (IsMarkedSlot t s.0 ⊎ ((f : FnId) × InSlave t f × Contains (sealed_in t f) s.0))
