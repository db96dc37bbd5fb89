-- Operators and steps of places give values of their sizes, and parts that lie within.
use Rattle.std.proofs.Common.{◌≡◌, ◌∙◌, ◌≤◌, ℕ, ◌+◌, pos, ℤ, refl, ap, sym, subst, arith, Bool, true, Option, Some, None, List, Result, Ok, Err}
use Rattle.std.specs.Prelude.{IsTrue, ◌&&◌, ◌||◌, not}
use Rattle.pt_base.specs.declared.int_type.IntType.{IntType}
use Rattle.pt_base.specs.declared.int_type.IntType.TheVariants as i
use Rattle.pt_base.specs.declared.trap.Trap.{Trap}
use Rattle.pt_base.proofs.Booleans.{both_hold_first, both_hold_second, false_not_true}
use Rattle.pt_int.specs.declared.operator.UnOp.{UnOp}
use Rattle.pt_int.specs.declared.operator.UnOp.TheVariants as u
use Rattle.pt_int.specs.Conversion.{conv}
use Rattle.pt_int.specs.Operator.{binary_of, truth}
use Rattle.pt_tree.specs.declared.signature.Elem.{Elem}
use Rattle.runs.specs.Pointers.{if_ok, difference, compared, directed}
use Rattle.typed_tree.specs.declared.types.VarTy.{VarTy}
use Rattle.typed_tree.specs.declared.types.VarTy.TheVariants.{Int, Struct, Array, Pointer}
use Rattle.typed_tree.specs.declared.link.LinkStep.{LinkStep}
use Rattle.typed_tree.specs.declared.link.LinkStep.TheVariants.{Arithmetic, Shift, Move, MoveBy, Difference, Compare}
use Rattle.typed_tree.specs.Sizes.{cells_by, elem_cells, offset_of}
use Rattle.typed_tree.specs.TypeTests.{same_elem, same_types, both_elem, integer_of, pointee_of, type_of_elem, is_scalar}
use Rattle.typed_tree.specs.TypeRules as r
use Rattle.typed_tree.specs.TypeRules.{unary_fits, converts, promoted_value, is_comparison}
use Rattle.typed_tree.specs.WellFormedExpression as f
use Rattle.typed_tree.specs.WellFormedExpression.{Names}
use Rattle.typed_tree.specs.WellFormed.{structs_sound}
use Rattle.source_meaning.specs.Memory.{same_block, Cell, number, null, read}
use Rattle.source_meaning.specs.State.{State}
use Rattle.source_meaning.specs.Values.{Value, holds, cell_of, number_in, target_of, moved_cell, shift_of, pointee_cells, promoted_of, stepped, converted_cell, converted, unit_step, Location}
use Rattle.source_meaning.specs.Expressions as x
use Rattle.source_meaning.specs.Expressions.{Context, sizes, type_or_int, decayed, address_of, loaded, field_at}
use Rattle.source_soundness.specs.Worlds.{World, type_in, LocationFits}
use Rattle.source_soundness.specs.Laws.{ContextFits}
use Rattle.source_soundness.specs.Sizes.{object_cells, PointsWithin, Sized, ValueSized, LiesWithin, CallsKeepSizes}
use Rattle.typed_tree.proofs.SameTypes.{equal_options, equal_elems}
use Rattle.source_soundness.proofs.Memories.{type_is}
use Rattle.source_soundness.proofs.Operators.{Gives, same_promoted_is}
use Rattle.source_soundness.proofs.Steps.{when, IsInt, arithmetic_int, shift_int, moved_is, field_is}
use Rattle.source_soundness.proofs.Layouts.{field_within}
use Rattle.source_soundness.proofs.SizedObjects.{elem_object, moves_within, within_of_pointer, loaded_sized}

-- ---- values

-- what has the size of a type
abbrev pub SizedAs : World → List ℕ → Option VarTy → Cell → Type 0
SizedAs w ss t c = ValueSized w ss t (holds c)

pub number_sized : (w : World) (ss : List ℕ) (t : Option VarTy) (v : ℤ) → SizedAs w ss t (number v)
number_sized w ss None v = tt
number_sized w ss (Some (Int t)) v = tt
number_sized w ss (Some (Struct n)) v = tt
number_sized w ss (Some (Array elem count)) v = tt
number_sized w ss (Some (Pointer elem fixed)) v = tt

pub null_sized : (w : World) (ss : List ℕ) (t : Option VarTy) → SizedAs w ss t null
null_sized w ss None = tt
null_sized w ss (Some (Int t)) = tt
null_sized w ss (Some (Struct n)) = tt
null_sized w ss (Some (Array elem count)) = tt
null_sized w ss (Some (Pointer elem fixed)) = tt

-- an integer has no size to keep
pub int_sized : (w : World) (ss : List ℕ) (t : IntType) (a : Option VarTy) (v : Value) → a ≡ Some (Int t) → ValueSized w ss a v
int_sized w ss t a v is = subst (λ z. ValueSized w ss z v) (sym is) tt

all_ints : (w : World) (ss : List ℕ) (ty : VarTy) (o : Result Cell Trap) → IsInt ty → Gives (SizedAs w ss (Some ty)) o
all_ints w ss ty (Ok c) is = int_sized w ss is.0 (Some ty) (holds c) (ap Some (sym is.1))
all_ints w ss ty (Err trap) is = tt

pub unary_sized : (w : World) (ss : List ℕ) (op : UnOp) (a t : Option VarTy) (v : Value) → unary_fits op a t ≡ true → ValueSized w ss t v
unary_sized w ss u.Minus a t v h = let p = same_promoted_is a t h in int_sized w ss p.1 t v p.3
unary_sized w ss u.Plus a t v h = let p = same_promoted_is a t h in int_sized w ss p.1 t v p.3
unary_sized w ss u.Flip a t v h = let p = same_promoted_is a t h in int_sized w ss p.1 t v p.3
unary_sized w ss u.Not a t v h = int_sized w ss i.Int t v (equal_options t r.int (both_hold_second (is_scalar a) (same_types t r.int) h))

pub converted_sized : (w : World) (ss : List ℕ) (a t : Option VarTy) (v : Value) → converts a t ≡ true → ValueSized w ss a v → ValueSized w ss t (converted (type_or_int t) v)
converted_sized w ss (Some (Int a)) (Some (Int b)) v h p = tt
converted_sized w ss (Some (Pointer a g)) (Some (Pointer b k)) v h p = subst (λ z. PointsWithin w ss z (cell_of v)) (equal_elems a b (both_hold_first (same_elem a b) (not g || k) h)) (within_of_pointer w ss a g v p)
converted_sized w ss None t v h p = false_not_true h
converted_sized w ss (Some (Struct n)) t v h p = false_not_true h
converted_sized w ss (Some (Array e n)) t v h p = false_not_true h
converted_sized w ss (Some (Int a)) None v h p = false_not_true h
converted_sized w ss (Some (Int a)) (Some (Struct n)) v h p = false_not_true h
converted_sized w ss (Some (Int a)) (Some (Array e n)) v h p = false_not_true h
converted_sized w ss (Some (Int a)) (Some (Pointer e k)) v h p = false_not_true h
converted_sized w ss (Some (Pointer a g)) None v h p = false_not_true h
converted_sized w ss (Some (Pointer a g)) (Some (Int b)) v h p = false_not_true h
converted_sized w ss (Some (Pointer a g)) (Some (Struct n)) v h p = false_not_true h
converted_sized w ss (Some (Pointer a g)) (Some (Array e n)) v h p = false_not_true h

-- ---- steps of chains

pointer_result : (w : World) (ss : List ℕ) (elem : Elem) (fixed : Bool) (ty : VarTy) (o : Result Cell Trap) → Pointer elem fixed ≡ ty → Gives (PointsWithin w ss elem) o → Gives (SizedAs w ss (Some ty)) o
pointer_result w ss elem fixed ty (Ok c) is h = subst (λ t. SizedAs w ss (Some t) c) is h
pointer_result w ss elem fixed ty (Err trap) is h = tt

within_at : (w : World) (ss : List ℕ) (a : Option VarTy) (elem : Elem) (fixed : Bool) (v : Value) → a ≡ Some (Pointer elem fixed) → ValueSized w ss a v → PointsWithin w ss elem (cell_of v)
within_at w ss a elem fixed v is p = within_of_pointer w ss elem fixed v (subst (λ z. ValueSized w ss z v) is p)

pub step_sized : (w : World) (ss : List ℕ) (so_far : VarTy) (a b : Option VarTy) (ty : VarTy) (step : LinkStep) (v y : Value) →
    r.stepped a step b ≡ Some ty → ValueSized w ss a v → ValueSized w ss b y → Gives (SizedAs w ss (Some ty)) (stepped ss so_far step (cell_of v) (cell_of y))
step_sized w ss so_far a b ty (Arithmetic op t) v y h p q =
    all_ints w ss ty (if_ok (binary_of op t (conv t (number_in (cell_of v))) (conv t (number_in (cell_of y)))) number) (arithmetic_int op t (integer_of a) (integer_of b) ty h)
step_sized w ss so_far a b ty (Shift to_left) v y h p q =
    all_ints w ss ty (if_ok (binary_of (shift_of to_left) (promoted_of so_far) (conv (promoted_of so_far) (number_in (cell_of v))) (number_in (cell_of y))) number) (shift_int (integer_of a) (integer_of b) ty h)
step_sized w ss so_far a b ty (Move back) v y h p q =
    let m = moved_is a b ty h in
    pointer_result w ss m.elem m.fixed ty (moved_cell (directed back (number_in (cell_of y))) (cell_of v)) m.gives (moves_within w ss m.elem (directed back (number_in (cell_of y))) (cell_of v) (within_at w ss a m.elem m.fixed v m.is p))
step_sized w ss so_far a b ty MoveBy v y h p q =
    let m = moved_is b a ty h in
    pointer_result w ss m.elem m.fixed ty (moved_cell (number_in (cell_of v)) (cell_of y)) m.gives (moves_within w ss m.elem (number_in (cell_of v)) (cell_of y) (within_at w ss b m.elem m.fixed y m.is q))
step_sized w ss so_far a b ty Difference v y h p q =
    all_ints w ss ty (if_ok (difference same_block (target_of (cell_of v)) (target_of (cell_of y))) number) (i.Long, when (both_elem (pointee_of a) (pointee_of b)) (Int i.Long) ty h)
step_sized w ss so_far a b ty (Compare op) v y h p q =
    all_ints w ss ty (if_ok (compared same_block op (pointee_cells ss so_far) (target_of (cell_of v)) (target_of (cell_of y))) (λ so. number (truth so))) (i.Int, when (is_comparison op && both_elem (pointee_of a) (pointee_of b)) (Int i.Int) ty h)

-- ---- what an assignment by an operator stores

abbrev pub StorableSized : World → List ℕ → VarTy → Cell → Type 0
StorableSized w ss ty cell = SizedAs w ss (Some ty) (converted_cell ty cell)

pub stepped_sized : (w : World) (ss : List ℕ) (ty : VarTy) (b : Option VarTy) (step : LinkStep) (old : Cell) (v : Value) → IsTrue (converts (r.stepped (promoted_value (Some ty)) step b) (Some ty)) → SizedAs w ss (promoted_value (Some ty)) old → ValueSized w ss b v → Gives (StorableSized w ss ty) (stepped ss ty step old (cell_of v))
stepped_sized w ss ty b step old v h p q = go (r.stepped (promoted_value (Some ty)) step b) refl h
  where
    each : (a : VarTy) (o : Result Cell Trap) → IsTrue (converts (Some a) (Some ty)) → Gives (SizedAs w ss (Some a)) o → Gives (StorableSized w ss ty) o
    each a (Ok cell) h k = converted_sized w ss (Some a) (Some ty) (holds cell) h k
    each a (Err trap) h k = tt

    go : (a : Option VarTy) → r.stepped (promoted_value (Some ty)) step b ≡ a → IsTrue (converts a (Some ty)) → Gives (StorableSized w ss ty) (stepped ss ty step old (cell_of v))
    go None is h = false_not_true h
    go (Some a) is h = each a (stepped ss ty step old (cell_of v)) h (step_sized w ss ty (promoted_value (Some ty)) b a step (holds old) v is p q)

pub unit_sized : (w : World) (ss : List ℕ) (ty : VarTy) (back : Bool) (old : Cell) → IsTrue (is_scalar (Some ty)) → SizedAs w ss (promoted_value (Some ty)) old → Gives (StorableSized w ss ty) (stepped ss ty (unit_step ty back) old (number (pos 1)))
unit_sized w ss (Int t) back old h p = each (stepped ss (Int t) (unit_step (Int t) back) old (number (pos 1)))
  where
    each : (o : Result Cell Trap) → Gives (StorableSized w ss (Int t)) o
    each (Ok cell) = tt
    each (Err trap) = tt
unit_sized w ss (Pointer elem fixed) back old h p = each (stepped ss (Pointer elem fixed) (unit_step (Pointer elem fixed) back) old (number (pos 1))) (moves_within w ss elem (directed back (pos 1)) old p)
  where
    each : (o : Result Cell Trap) → Gives (PointsWithin w ss elem) o → Gives (StorableSized w ss (Pointer elem fixed)) o
    each (Ok cell) k = k
    each (Err trap) k = tt
unit_sized w ss (Struct n) back old h p = false_not_true h
unit_sized w ss (Array elem n) back old h p = false_not_true h

pub read_sized : (w : World) (c : Context) (at : Location) (st : State) (ty : VarTy) → LocationFits w (Some ty) at → LiesWithin w (sizes c) at → IsTrue (is_scalar (Some ty)) → Sized w (sizes c) st.memory → SizedAs w (sizes c) (promoted_value (Some ty)) (read st.memory at.block at.cell)
read_sized w c at st (Int t) l lies h z = tt
read_sized w c at st (Pointer elem fixed) l lies h z =
    subst (λ ty. ValueSized w (sizes c) (Some (Pointer elem fixed)) (loaded c at ty st)) (sym (type_is (Pointer elem fixed) at.ty l.has)) (loaded_sized w c at st (Pointer elem fixed) l lies z)
read_sized w c at st (Struct n) l lies h z = false_not_true h
read_sized w c at st (Array elem n) l lies h z = false_not_true h

-- ---- places

-- an object lies within as one of its type
lies_as : (w : World) (ss : List ℕ) (at : Location) (a t : VarTy) → LocationFits w (Some a) at → LiesWithin w ss at → type_in w at.block ≡ Some t → at.cell + object_cells ss a ≤ object_cells ss t
lies_as w ss at a t l lies live = subst (λ ty. at.cell + object_cells ss ty ≤ object_cells ss t) (sym (type_is a at.ty l.has)) (lies t live)

pub array_within : (w : World) (ss : List ℕ) (at : Location) (elem : Elem) (count : ℕ) → LocationFits w (Some (Array elem count)) at → LiesWithin w ss at → PointsWithin w ss elem (decayed at at.ty)
array_within w ss at elem count l lies =
    subst (λ ty. PointsWithin w ss elem (decayed at ty)) (type_is (Array elem count) at.ty l.has) (λ t live. lies_as w ss at (Array elem count) t l lies live)

pub object_within : (w : World) (ss : List ℕ) (at : Location) (elem : Elem) → LocationFits w (Some (type_of_elem elem)) at → LiesWithin w ss at → PointsWithin w ss elem (address_of at)
object_within w ss at elem l lies t live =
    let here : at.cell + object_cells ss (type_of_elem elem) ≤ object_cells ss t = lies_as w ss at (type_of_elem elem) t l lies live in
    let one : object_cells ss (type_of_elem elem) ≡ elem_cells ss elem = elem_object ss elem in
    omega (arith, here, one)

-- what an expression is evaluated with keeps sizes
pub record Setup (w : World) (n : Names) (c : Context) : Type 0 where
  pub fits : ContextFits w n c
  pub sound : IsTrue (structs_sound n.structs 0 n.structs)
  pub calls : CallsKeepSizes w n (sizes c) c.frame c.calls

-- a field lies within
pub field_sized : (w : World) (n : Names) (c : Context) (k : ℕ) (a : VarTy) (at : Location) (ty : VarTy) → Setup w n c → LocationFits w (Some a) at → LiesWithin w (sizes c) at → f.field_type n.structs (Some a) k ≡ Some ty → LiesWithin w (sizes c) (field_at c k at)
field_sized w n c k (Struct m) at ty s l lies h = go at.ty (type_is (Struct m) at.ty l.has) lies
  where
    number_is : (j : ℕ) → Struct m ≡ Struct j → m ≡ j
    number_is j e = cc

    inside : (j : ℕ) → m ≡ j → offset_of c.structs j k + object_cells (sizes c) (x.field_type c.structs j k) ≤ cells_by (sizes c) (Struct j)
    inside j e =
        let there : f.field_type c.structs (Some (Struct j)) k ≡ Some ty = subst (λ z. f.field_type c.structs (Some (Struct z)) k ≡ Some ty) e (ap (λ ss. f.field_type ss (Some (Struct m)) k) s.fits.structs ∙ h) in
        subst (λ z. offset_of c.structs j k + object_cells (sizes c) z ≤ cells_by (sizes c) (Struct j)) (sym (field_is c.structs j k ty there))
        (field_within c.structs j k ty (subst (λ z. structs_sound z 0 z ≡ true) (sym s.fits.structs) s.sound) there)

    go : (b : VarTy) → Struct m ≡ b → ((t : VarTy) → type_in w at.block ≡ Some t → at.cell + object_cells (sizes c) b ≤ object_cells (sizes c) t) → LiesWithin w (sizes c) (x.field_of c k at b)
    go (Struct j) is lies = λ t live.
        let part : offset_of c.structs j k + object_cells (sizes c) (x.field_type c.structs j k) ≤ cells_by (sizes c) (Struct j) = inside j (number_is j is) in
        let all : at.cell + cells_by (sizes c) (Struct j) ≤ object_cells (sizes c) t = lies t live in
        omega (arith, part, all)
    go (Int t) is lies = cc
    go (Array elem count) is lies = cc
    go (Pointer elem fixed) is lies = cc
field_sized w n c k (Int t) at ty s l lies h = cc
field_sized w n c k (Array elem count) at ty s l lies h = cc
field_sized w n c k (Pointer elem fixed) at ty s l lies h = cc
