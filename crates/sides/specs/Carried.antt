-- The slots that an expression carries: the values of which its value may be, without a change. Where a
-- value has several leaves, the slot of the first one stands for all, since the others follow it.
use Rattle.std.specs.Prelude.{ℕ, ◌+◌, List, [], ◌∷◌, ◌++◌, Option, None, Some, if◌then◌else◌, map, slice_get, option_map, is_some}
use Rattle.typed_tree.specs.declared.types.VarTy.{VarTy}
use Rattle.typed_tree.specs.declared.types.VarTy.TheVariants.{Struct}
use Rattle.typed_tree.specs.declared.types.StructInfo.{StructInfo}
use Rattle.typed_tree.specs.declared.link.LinkStep.{LinkStep}
use Rattle.typed_tree.specs.declared.link.LinkStep.TheVariants.{Arithmetic, Shift, Move, MoveBy, Difference, Compare}
use Rattle.typed_tree.specs.ExpressionTree.{ExprTree, FormTree, LinkTrees, PlaceTree, RootTree, StepTree, StepTrees, typed, constant, null, read, decay, address, unary, convert, discard, chain, logical, choice, assign, compound, step, call, link, no_links, link_and, place, local, global, deref, assigned, field, item, no_steps, step_and}
use Rattle.typed_tree.specs.TypeTests.{pointee_of, item_of, type_of_elem}
use Rattle.typed_tree.specs.TypedTree.{TypedTree}
use Rattle.typed_tree.specs.WellFormedExpression.{ty_of, field_type, assigned_type}
use Rattle.sides.specs.declared.objects.Object.{Object}
use Rattle.sides.specs.Leaves.{field_start}
use Rattle.sides.specs.Objects.{global_objects, variable_objects, result_start}
use Rattle.usages.specs.Usages.{keeps_value}

-- what the numbers in a body name
pub record Scope : Type 0 where
  pub structs : List StructInfo
  pub globals : List Object
  pub variables : List Object
  -- the slot of what the function 0 returns
  pub results : ℕ

-- the scope of the body of the function with this number
abbrev pub scope_of : TypedTree → ℕ → Scope
scope_of t f = record { structs = t.structs; globals = global_objects t; variables = variable_objects t f; results = result_start t }

-- ---- places

abbrev pub root_type : Scope → RootTree → Option VarTy
root_type c (local v) = option_map (λ x. x.ty) (slice_get c.variables v.0)
root_type c (global g) = option_map (λ x. x.ty) (slice_get c.globals g.0)
root_type c (deref a s) = option_map type_of_elem (pointee_of (ty_of a))
root_type c (assigned a) = assigned_type a

abbrev pub step_type : List StructInfo → Option VarTy → StepTree → Option VarTy
step_type structs ty (field k) = field_type structs ty k
step_type structs ty (item a s) = option_map type_of_elem (item_of ty)

-- how far behind an object's first leaf that of a part stands; elements share their leaves
abbrev pub step_offset : List StructInfo → Option VarTy → StepTree → ℕ
step_offset structs (Some (Struct n)) (field k) = field_start structs n k
step_offset structs ty s = 0

abbrev pub steps_offset : List StructInfo → Option VarTy → StepTrees → ℕ
steps_offset structs ty no_steps = 0
steps_offset structs ty (step_and s rest) = step_offset structs ty s + steps_offset structs (step_type structs ty s) rest

-- the slot from which on an object lies, where there is such an object
abbrev pub start_of : Option Object → List ℕ
start_of None = []
start_of (Some x) = x.start ∷ []

-- ---- chains

-- what a pointer carries that is moved; every other operator gives a new number
abbrev pub linked_slots : List ℕ → LinkStep → List ℕ → List ℕ
linked_slots left (Arithmetic op t) right = []
linked_slots left (Shift dir) right = []
linked_slots left (Move back) right = left
linked_slots left MoveBy right = right
linked_slots left Difference right = []
linked_slots left (Compare op) right = []

abbrev mutual
  -- in the order of the text, with repeats
  pub carried : Scope → ExprTree → List ℕ
  carried c (typed s t f) = form_slots c t f

  pub form_slots : Scope → Option VarTy → FormTree → List ℕ
  form_slots c t (constant v) = []
  form_slots c t null = []
  form_slots c t (read p) = place_slots c p
  form_slots c t (decay p) = place_slots c p
  form_slots c t (address p) = place_slots c p
  form_slots c t (unary op a) = []
  form_slots c t (convert a) = if keeps_value (ty_of a) t then carried c a else []
  form_slots c t (discard a) = []
  form_slots c t (chain a ls) = links_slots c (carried c a) ls
  form_slots c t (logical op a os) = []
  form_slots c t (choice a b d) = carried c b ++ carried c d
  form_slots c t (assign p a) = place_slots c p
  form_slots c t (compound p at op a) = place_slots c p
  -- ++ and -- of an integer give a new number
  form_slots c t (step p at back postfix) = if is_some (pointee_of t) then place_slots c p else []
  form_slots c t (call g arguments) = (c.results + g.0) ∷ []

  -- the links from a value that carries these
  pub links_slots : Scope → List ℕ → LinkTrees → List ℕ
  links_slots c left no_links = left
  links_slots c left (link_and (link s ty op a) rest) = links_slots c (linked_slots left op (carried c a)) rest

  pub place_slots : Scope → PlaceTree → List ℕ
  place_slots c (place r ss) = map (λ s. s + steps_offset c.structs (root_type c r) ss) (root_slots c r)

  -- a pointer carries the slots of what it points to, an assignment those of its left side
  pub root_slots : Scope → RootTree → List ℕ
  root_slots c (local v) = start_of (slice_get c.variables v.0)
  root_slots c (global g) = start_of (slice_get c.globals g.0)
  root_slots c (deref a s) = carried c a
  root_slots c (assigned a) = carried c a
