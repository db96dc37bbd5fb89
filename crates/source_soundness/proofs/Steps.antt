-- Steps of chains and of places give what their types say.
use Rattle.std.proofs.Common.{◌≡◌, ◌∙◌, ℕ, refl, ap, sym, subst, Bool, true, false, Option, Some, None, List, [], Result, Ok, Err, if◌then◌else◌, nat_lt}
use Rattle.std.specs.Prelude.{◌&&◌, not, is_some, slice_get, get_or, option_map, option_and_then}
use Rattle.std.proofs.lemmas.Option.{get_or_from_slice_get}
use Rattle.pt_base.specs.declared.int_type.IntType.{IntType}
use Rattle.pt_base.specs.declared.int_type.IntType.TheVariants as i
use Rattle.pt_base.specs.IntTypes.{usual}
use Rattle.pt_base.specs.declared.trap.Trap.{Trap}
use Rattle.pt_base.specs.declared.trap.Trap.TheVariants.{Bounds}
use Rattle.pt_base.proofs.Booleans.{false_not_true}
use Rattle.pt_int.specs.declared.operator.BinOp.{BinOp}
use Rattle.pt_int.specs.Conversion.{conv}
use Rattle.pt_int.specs.Operator.{binary_of, truth, is_shift, binary_type}
use Rattle.pt_tree.specs.declared.signature.Elem.{Elem}
use Rattle.pt_tree.specs.declared.signature.Elem.TheVariants as e
use Rattle.runs.specs.Pointers.{if_ok, difference, compared, directed, cell_at}
use Rattle.typed_tree.specs.declared.types.VarTy.{VarTy}
use Rattle.typed_tree.specs.declared.types.VarTy.TheVariants.{Int, Struct, Array, Pointer}
use Rattle.typed_tree.specs.declared.types.StructInfo.{StructInfo}
use Rattle.typed_tree.specs.declared.types.Field.{Field}
use Rattle.typed_tree.specs.declared.link.LinkStep.{LinkStep}
use Rattle.typed_tree.specs.declared.link.LinkStep.TheVariants.{Arithmetic, Shift, Move, MoveBy, Difference, Compare}
use Rattle.typed_tree.specs.Sizes.{elem_cells}
use Rattle.typed_tree.specs.TypeTests.{same_int, both_elem, integer_of, pointee_of, type_of_elem}
use Rattle.typed_tree.specs.TypeRules as r
use Rattle.typed_tree.specs.TypeRules.{converts, promoted_value, moved_type, arithmetic_type, shift_type, int_where, is_comparison}
use Rattle.typed_tree.specs.WellFormedExpression as f
use Rattle.source_meaning.specs.Memory.{same_block, Cell, number, null, pointer}
use Rattle.source_meaning.specs.Values.{Value, cell_of, number_in, target_of, moved_cell, shift_of, pointee_cells, promoted_of, stepped}
use Rattle.source_meaning.specs.Expressions.{Context, sizes, field_type, dereferenced, object_at}
use Rattle.source_soundness.specs.Worlds.{World, is_pointer, IsNumber, IsScoped, ValueFits, PartFits, LocationFits}
use Rattle.source_soundness.proofs.Memories.{type_is}
use Rattle.source_soundness.proofs.Operators.{Gives, FitsAs, gives_number, moves, scoped_of_pointer}

-- ---- chains

pub when : (c : Bool) (x y : VarTy) → (if c then Some x else None) ≡ Some y → x ≡ y
when true x y h = cc
when false x y h = cc

pub holds_when : (c : Bool) (x : Option VarTy) (y : VarTy) → (if c then x else None) ≡ Some y → c ≡ true
holds_when true x y h = refl
holds_when false x y h = cc

given_when : (c : Bool) (x : Option VarTy) (y : VarTy) → (if c then x else None) ≡ Some y → x ≡ Some y
given_when true x y h = h
given_when false x y h = cc

-- a result that is a number, of an integer type
abbrev pub IsInt : VarTy → Type 0
IsInt ty = (t : IntType) × (Int t ≡ ty)

number_fits : (w : World) (ty : VarTy) (r : Result Cell Trap) → IsInt ty → Gives IsNumber r → Gives (FitsAs w (Some ty)) r
number_fits w ty (Ok c) is h = subst (λ t. FitsAs w (Some t) c) is.1 h
number_fits w ty (Err trap) is h = tt

pub arithmetic_int : (op : BinOp) (t : IntType) (a b : Option IntType) (ty : VarTy) → arithmetic_type op t a b ≡ Some ty → IsInt ty
arithmetic_int op t None b ty h = cc
arithmetic_int op t (Some a) None ty h = cc
arithmetic_int op t (Some a) (Some b) ty h = (binary_type op t, when (not (is_shift op) && (same_int (usual a t) t && same_int b t)) (Int (binary_type op t)) ty h)

pub shift_int : (a b : Option IntType) (ty : VarTy) → shift_type a b ≡ Some ty → IsInt ty
shift_int None b ty h = cc
shift_int (Some a) None ty h = cc
shift_int (Some a) (Some b) ty h = (a, when (r.is_promoted a && r.is_promoted b) (Int a) ty h)

-- the pointer that is moved
pub record Moved (a : Option VarTy) (ty : VarTy) : Type 0 where
  pub elem : Elem
  pub fixed : Bool
  pub is : a ≡ Some (Pointer elem fixed)
  pub gives : Pointer elem fixed ≡ ty

pub moved_is : (a b : Option VarTy) (ty : VarTy) → moved_type a b ≡ Some ty → Moved a ty
moved_is (Some (Pointer elem fixed)) b ty h = record { elem = elem; fixed = fixed; is = refl; gives = when (is_some (integer_of b)) (Pointer elem fixed) ty h }
moved_is None b ty h = cc
moved_is (Some (Int t)) b ty h = cc
moved_is (Some (Struct n)) b ty h = cc
moved_is (Some (Array elem count)) b ty h = cc

pointer_result : (w : World) (elem : Elem) (fixed : Bool) (ty : VarTy) (r : Result Cell Trap) → Pointer elem fixed ≡ ty → Gives (IsScoped w w.depth) r → Gives (FitsAs w (Some ty)) r
pointer_result w elem fixed ty (Ok c) is h = subst (λ t. FitsAs w (Some t) c) is (c, refl, h)
pointer_result w elem fixed ty (Err trap) is h = tt

-- a pointer of this type holds a scoped cell
scoped_at : (w : World) (a : Option VarTy) (elem : Elem) (fixed : Bool) (v : Value) → a ≡ Some (Pointer elem fixed) → ValueFits w a v → IsScoped w w.depth (cell_of v)
scoped_at w a elem fixed v is fit = scoped_of_pointer w elem fixed v (subst (λ x. ValueFits w x v) is fit)

pub step_fits : (w : World) (sizes : List ℕ) (so_far : VarTy) (a b : Option VarTy) (ty : VarTy) (step : LinkStep) (v x : Value) →
    r.stepped a step b ≡ Some ty → ValueFits w a v → ValueFits w b x → Gives (FitsAs w (Some ty)) (stepped sizes so_far step (cell_of v) (cell_of x))
step_fits w sizes so_far a b ty (Arithmetic op t) v x h fit fit' =
    number_fits w ty (if_ok (binary_of op t (conv t (number_in (cell_of v))) (conv t (number_in (cell_of x)))) number) (arithmetic_int op t (integer_of a) (integer_of b) ty h)
    (gives_number (binary_of op t (conv t (number_in (cell_of v))) (conv t (number_in (cell_of x)))) number (λ k. tt))
step_fits w sizes so_far a b ty (Shift to_left) v x h fit fit' =
    number_fits w ty (if_ok (binary_of (shift_of to_left) (promoted_of so_far) (conv (promoted_of so_far) (number_in (cell_of v))) (number_in (cell_of x))) number) (shift_int (integer_of a) (integer_of b) ty h)
    (gives_number (binary_of (shift_of to_left) (promoted_of so_far) (conv (promoted_of so_far) (number_in (cell_of v))) (number_in (cell_of x))) number (λ k. tt))
step_fits w sizes so_far a b ty (Move back) v x h fit fit' =
    let m = moved_is a b ty h in
    pointer_result w m.elem m.fixed ty (moved_cell (directed back (number_in (cell_of x))) (cell_of v)) m.gives (moves w w.depth (directed back (number_in (cell_of x))) (cell_of v) (scoped_at w a m.elem m.fixed v m.is fit))
step_fits w sizes so_far a b ty MoveBy v x h fit fit' =
    let m = moved_is b a ty h in
    pointer_result w m.elem m.fixed ty (moved_cell (number_in (cell_of v)) (cell_of x)) m.gives (moves w w.depth (number_in (cell_of v)) (cell_of x) (scoped_at w b m.elem m.fixed x m.is fit'))
step_fits w sizes so_far a b ty Difference v x h fit fit' =
    number_fits w ty (if_ok (difference same_block (target_of (cell_of v)) (target_of (cell_of x))) number) (i.Long, when (both_elem (pointee_of a) (pointee_of b)) (Int i.Long) ty h)
    (gives_number (difference same_block (target_of (cell_of v)) (target_of (cell_of x))) number (λ k. tt))
step_fits w sizes so_far a b ty (Compare op) v x h fit fit' =
    number_fits w ty (if_ok (compared same_block op (pointee_cells sizes so_far) (target_of (cell_of v)) (target_of (cell_of x))) (λ holds. number (truth holds))) (i.Int, when (is_comparison op && both_elem (pointee_of a) (pointee_of b)) (Int i.Int) ty h)
    (gives_number (compared same_block op (pointee_cells sizes so_far) (target_of (cell_of v)) (target_of (cell_of x))) (λ holds. number (truth holds)) (λ k. tt))

-- ---- places

pub plain_elem : (elem : Elem) → is_pointer (type_of_elem elem) ≡ false
plain_elem (e.Int t) = refl
plain_elem (e.Struct n) = refl

-- a part without pointers of an object that is none
pub plain_in : (cell : ℕ) (in_ ty : VarTy) → is_pointer in_ ≡ false → is_pointer ty ≡ false → PartFits cell in_ ty
plain_in cell (Int t) ty p q = q
plain_in cell (Struct n) ty p q = q
plain_in cell (Array elem count) ty p q = q
plain_in cell (Pointer elem fixed) ty p q = false_not_true (sym p)

pub whole_part : (ty : VarTy) → PartFits 0 ty ty
whole_part (Int t) = refl
whole_part (Struct n) = refl
whole_part (Array elem count) = refl
whole_part (Pointer elem fixed) = (refl, refl)

-- what a pointer that fits points to is a live object
pub pointee_fits : (w : World) (c : Context) (elem : Elem) (fixed : Bool) (p : Cell) → IsScoped w w.depth p → Gives (LocationFits w (Some (type_of_elem elem))) (dereferenced c (Pointer elem fixed) p)
pointee_fits w c elem fixed (number v) h = absurd h
pointee_fits w c elem fixed null h = tt
pointee_fits w c elem fixed (pointer block base count index) h = go (nat_lt index count)
  where
    there : LocationFits w (Some (type_of_elem elem)) (object_at (type_of_elem elem) (block, cell_at (elem_cells (sizes c) elem) base index))
    there = record { has = refl; in_ = h.0; live = h.1; shallow = h.3; part = plain_in (cell_at (elem_cells (sizes c) elem) base index) h.0 (type_of_elem elem) h.2 (plain_elem elem); own = λ p. false_not_true (sym (plain_elem elem) ∙ p) }

    go : (b : Bool) → Gives (LocationFits w (Some (type_of_elem elem))) (if_ok (if b then Ok (block, cell_at (elem_cells (sizes c) elem) base index) else Err Bounds) (object_at (type_of_elem elem)))
    go true = there
    go false = tt

-- ---- fields

abbrev type_of_field : Field → VarTy
type_of_field x = x.ty

abbrev no_field : Field
no_field = record { name = []; ty = Int i.Int; marked = false }

abbrev no_struct : StructInfo
no_struct = record { name = []; fields = [] }

abbrev field_type_in : ℕ → StructInfo → VarTy
field_type_in k s = type_of_field (get_or s.fields k no_field)

pub field_is : (structs : List StructInfo) (n k : ℕ) (ty : VarTy) → f.field_type structs (Some (Struct n)) k ≡ Some ty → field_type structs n k ≡ ty
field_is structs n k ty h = at_struct (slice_get structs n) refl h
  where
    at_field : (s : StructInfo) (o : Option Field) → slice_get structs n ≡ Some s → slice_get s.fields k ≡ o → option_map (λ x. x.ty) o ≡ Some ty → field_type structs n k ≡ ty
    at_field s None is is' h = cc
    at_field s (Some x) is is' h =
        ap (field_type_in k) (get_or_from_slice_get structs n s no_struct is) ∙ ap type_of_field (get_or_from_slice_get s.fields k x no_field is') ∙ type_is x.ty ty h

    at_struct : (o : Option StructInfo) → slice_get structs n ≡ o → option_and_then (λ s. option_map (λ x. x.ty) (slice_get s.fields k)) o ≡ Some ty → field_type structs n k ≡ ty
    at_struct None is h = cc
    at_struct (Some s) is h = at_field s (slice_get s.fields k) is refl h
