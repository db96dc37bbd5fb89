-- What the type judgments convert: null comes only where it may stand.
use Rattle.std.proofs.Common.{◌≡◌, refl, sym, List, [], ◌∷◌, ◌++◌, Bool, true, false, if◌then◌else◌}
use Rattle.std.proofs.lemmas.Bool.{or_right}
use Rattle.pt_base.specs.declared.int_type.IntType.{IntType}
use Rattle.pt_base.specs.declared.span.Span.{Span}
use Rattle.pt_base.specs.IntTypes.{promoted}
use Rattle.pt_base.proofs.Booleans.{both_hold, both_hold_first, both_hold_second, false_not_true}
use Rattle.pt_tree.specs.declared.signature.Elem.{Elem}
use Rattle.type_rules.specs.declared.types.Type.{«Type»}
use Rattle.type_rules.specs.declared.types.Type.TheVariants.{Bad, Void, Int, Struct, Array, Pointer}
use Rattle.type_rules.specs.declared.types.Value.{Value}
use Rattle.type_rules.specs.declared.operators.Rule.{Rule}
use Rattle.type_rules.specs.declared.operators.Rule.TheVariants as rule
use Rattle.type_rules.specs.Types.{is_integer, value_type}
use Rattle.typed_tree.specs.declared.types.VarTy.TheVariants as v
use Rattle.typed_tree.specs.ExpressionTree.{ExprTree, typed, null, StepTree, step_trees, field, item, PlaceTree}
use Rattle.check_expressions.specs.Conversions.{is_of_int, is_of_pointer, converted, to_int, to_pointer, to_null, as_type, as_promoted}
use Rattle.check_expressions.specs.Links.{converted_by}
use Rattle.check_expressions.specs.Operands.{Elaboration, value, object, pointed, moved, element, Known, root_of, steps_of, place_of, read_form, read_object, read_tree, value_tree, value_of, faulty, plain, designated}
use Rattle.half_names_law.specs.SaidNulls.{is_null, stands, place_stands, root_stands, steps_stand, is_placed}

-- ---- null

-- what stands isn't null
pub not_null : (a : ExprTree) → stands a ≡ true → is_null a ≡ false
not_null (typed s ty null) h = false_not_true h
not_null (typed s ty form) h = refl

pub placed_of : (a : ExprTree) → stands a ≡ true → is_placed a ≡ true
placed_of a h = or_right (is_null a) (stands a) h

-- ---- conversions

to_int_stands : (t : IntType) (x : ExprTree) → stands x ≡ true → stands (to_int t x) ≡ true
unfolding to_int
to_int_stands t (typed s ty f) h = go (is_of_int t ty)
  where
    go : (b : Bool) → stands (if b then typed s ty f else converted (v.Int t) (typed s ty f)) ≡ true
    go true = h
    go false = h

to_pointer_stands : (e : Elem) (fixed : Bool) (x : ExprTree) → stands x ≡ true → stands (to_pointer e fixed x) ≡ true
unfolding to_pointer
to_pointer_stands e fixed (typed s ty f) h = go (is_of_pointer fixed ty)
  where
    go : (b : Bool) → stands (if b then typed s ty f else converted (v.Pointer e fixed) (typed s ty f)) ≡ true
    go true = h
    go false = h

-- what is no null constant, or becomes an integer, isn't null
pub as_type_stands : (ty : «Type») (x : ExprTree) → stands x ≡ true → stands (as_type ty false x) ≡ true
unfolding as_type
as_type_stands Bad x h = h
as_type_stands Void x h = h
as_type_stands (Int t) x h = to_int_stands t x h
as_type_stands (Struct n) x h = h
as_type_stands (Array e count) x h = h
as_type_stands (Pointer e fixed) x h = to_pointer_stands e fixed x h

pub integer_stands : (ty : «Type») (nul : Bool) (x : ExprTree) → is_integer ty ≡ true → stands x ≡ true → stands (as_type ty nul x) ≡ true
unfolding as_type
integer_stands (Int t) nul x i h = to_int_stands t x h
integer_stands Bad nul x i h = false_not_true i
integer_stands Void nul x i h = false_not_true i
integer_stands (Struct n) nul x i h = false_not_true i
integer_stands (Array e count) nul x i h = false_not_true i
integer_stands (Pointer e fixed) nul x i h = false_not_true i

null_placed : (e : Elem) (fixed : Bool) (x : ExprTree) → is_placed (to_null e fixed x) ≡ true
null_placed e fixed (typed s ty f) = refl

-- what is stored or passed is null, or stands
pub as_type_placed : (ty : «Type») (nul : Bool) (x : ExprTree) → stands x ≡ true → is_placed (as_type ty nul x) ≡ true
unfolding as_type
as_type_placed Bad nul x h = placed_of x h
as_type_placed Void nul x h = placed_of x h
as_type_placed (Int t) nul x h = placed_of (to_int t x) (to_int_stands t x h)
as_type_placed (Struct n) nul x h = placed_of x h
as_type_placed (Array e count) nul x h = placed_of x h
as_type_placed (Pointer e fixed) true x h = null_placed e fixed x
as_type_placed (Pointer e fixed) false x h = placed_of (to_pointer e fixed x) (to_pointer_stands e fixed x h)

as_promoted_stands : (ty : «Type») (x : ExprTree) → stands x ≡ true → stands (as_promoted ty x) ≡ true
unfolding as_promoted
as_promoted_stands Bad x h = h
as_promoted_stands Void x h = h
as_promoted_stands (Int t) x h = to_int_stands (promoted t) x h
as_promoted_stands (Struct n) x h = h
as_promoted_stands (Array e count) x h = h
as_promoted_stands (Pointer e fixed) x h = h

-- the rule compares pointers
abbrev pub is_pointers : Rule → Bool
is_pointers rule.ComparePointers = true
is_pointers _ = false

-- only pointers' comparisons make null
pub converted_stands : (r : Rule) (own other : Value) (x : ExprTree) → is_pointers r ≡ false → stands x ≡ true → stands (converted_by r own other x) ≡ true
unfolding converted_by
converted_stands rule.Unknown own other x p h = h
converted_stands (rule.Wrong left right) own other x p h = h
converted_stands (rule.Arithmetic t) own other x p h = to_int_stands t x h
converted_stands (rule.Comparison t) own other x p h = to_int_stands t x h
converted_stands (rule.Shift t) own other x p h = as_promoted_stands own.ty x h
converted_stands rule.Logical own other x p h = h
converted_stands rule.Move own other x p h = h
converted_stands rule.MoveBy own other x p h = h
converted_stands rule.Difference own other x p h = h
converted_stands rule.ComparePointers own other x p h = false_not_true (sym p)

-- ---- what is known of operands

abbrev pub Stands : Elaboration → Type 0
Stands (value x) = stands x ≡ true
Stands (object root steps) = (root_stands root ≡ true) × (steps_stand (step_trees steps) ≡ true)
Stands (pointed p s) = stands p ≡ true
Stands (moved p) = stands p ≡ true
Stands (element root steps at i s) = (root_stands root ≡ true) × (steps_stand (step_trees steps) ≡ true) × (stands i ≡ true)

-- an operand; a null constant is an integer
pub record KnownStands (k : Known) : Type 0 where
  pub tree : Stands k.tree
  pub null : k.null ≡ true → is_integer k.ty ≡ true

pub faulty_stands : KnownStands faulty
faulty_stands = record { tree = refl; null = λ e. false_not_true e }

pub plain_stands : (ty : «Type») (x : ExprTree) → stands x ≡ true → KnownStands (plain ty x)
plain_stands ty x h = record { tree = h; null = λ e. false_not_true e }

pub designated_stands : (ty : «Type») (fixed : Bool) (t : Elaboration) → Stands t → KnownStands (designated ty fixed t)
designated_stands ty fixed t h = record { tree = h; null = λ e. false_not_true e }

pub root_of_stands : (t : Elaboration) → Stands t → root_stands (root_of t) ≡ true
unfolding root_of
root_of_stands (value x) h = h
root_of_stands (object root steps) h = h.0
root_of_stands (pointed p s) h = h
root_of_stands (moved (typed s ty f)) h = h
root_of_stands (element root steps at i s) h = h.0

-- a step more
pub steps_more : (ss : List StepTree) (s : StepTree) → steps_stand (step_trees ss) ≡ true → steps_stand (step_trees (s ∷ [])) ≡ true → steps_stand (step_trees (ss ++ s ∷ [])) ≡ true
steps_more [] s h k = k
steps_more (field j ∷ rest) s h k = steps_more rest s h k
steps_more (item i at ∷ rest) s h k = both_hold (stands i) (steps_stand (step_trees (rest ++ s ∷ []))) (both_hold_first (stands i) (steps_stand (step_trees rest)) h) (steps_more rest s (both_hold_second (stands i) (steps_stand (step_trees rest)) h) k)

pub steps_of_stand : (t : Elaboration) → Stands t → steps_stand (step_trees (steps_of t)) ≡ true
unfolding steps_of
steps_of_stand (value x) h = refl
steps_of_stand (object root steps) h = h.1
steps_of_stand (pointed p s) h = refl
steps_of_stand (moved p) h = refl
steps_of_stand (element root steps at i s) h = steps_more steps (item i s) h.1 (both_hold (stands i) true h.2 refl)

pub place_of_stands : (t : Elaboration) → Stands t → place_stands (place_of t) ≡ true
place_of_stands t h = both_hold (root_stands (root_of t)) (steps_stand (step_trees (steps_of t))) (root_of_stands t h) (steps_of_stand t h)

read_stands : (s : Span) (ty : «Type») (fixed : Bool) (p : PlaceTree) → place_stands p ≡ true → stands (read_object s ty fixed p) ≡ true
unfolding read_form
read_stands s Bad fixed p h = h
read_stands s Void fixed p h = h
read_stands s (Int t) fixed p h = h
read_stands s (Struct n) fixed p h = h
read_stands s (Array e count) fixed p h = h
read_stands s (Pointer e f) fixed p h = h

read_tree_stands : (s : Span) (ty : «Type») (fixed : Bool) (t : Elaboration) → Stands t → stands (read_tree s ty fixed t) ≡ true
unfolding read_tree
read_tree_stands s ty fixed (value x) h = h
read_tree_stands s ty fixed (object root steps) h = read_stands s ty fixed (place_of (object root steps)) (place_of_stands (object root steps) h)
read_tree_stands s ty fixed (pointed p span) h = read_stands s ty fixed (place_of (pointed p span)) (place_of_stands (pointed p span) h)
read_tree_stands s ty fixed (moved p) h = read_stands s ty fixed (place_of (moved p)) (place_of_stands (moved p) h)
read_tree_stands s ty fixed (element root steps at i span) h = read_stands s ty fixed (place_of (element root steps at i span)) (place_of_stands (element root steps at i span) h)

pub value_stands : (s : Span) (k : Known) → KnownStands k → stands (value_tree s k) ≡ true
unfolding value_tree
value_stands s k h = read_tree_stands s k.ty k.fixed k.tree h.tree

-- the same of its value
pub value_null : (k : Known) → KnownStands k → (value_of k).null ≡ true → is_integer (value_of k).ty ≡ true
unfolding value_of
value_null k h e = go k.ty (h.null e)
  where
    go : (ty : «Type») → is_integer ty ≡ true → is_integer (value_type ty k.fixed) ≡ true
    go (Int t) i = refl
    go Bad i = false_not_true i
    go Void i = false_not_true i
    go (Struct n) i = false_not_true i
    go (Array e count) i = false_not_true i
    go (Pointer e f) i = false_not_true i
