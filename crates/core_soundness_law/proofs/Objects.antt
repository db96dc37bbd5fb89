-- Objects and pointers in a setting: what a function's code sees of the memory that fits.
use Rattle.std.proofs.Common.{◌≡◌, ◌≤◌, ℕ, zero, suc, ◌+◌, ◌*◌, ℤ, pos, negsuc, ◌+ℤ◌, refl, ap, sym, subst, arith, Bool, true, false, Some, None, Result, Ok, Err, IfOk, if◌then◌else◌, List, [], ◌∷◌, length}
use Rattle.std.specs.Prelude.{IsTrue, slice_get, slice_index_or, nat_lt, nat_le, nat_eq, is_some}
use Rattle.std.specs.List.{list_all}
use Rattle.std.specs.Map.{lookup}
use Rattle.std.proofs.lemmas.Bool.Decides.{nat_tests}
use Rattle.std.proofs.lemmas.Bool.{ltb-true}
use Rattle.pt_base.specs.declared.int_type.IntType.{IntType}
use Rattle.pt_base.specs.declared.span.Span.{Span}
use Rattle.pt_base.specs.declared.trap.Trap.{Trap}
use Rattle.pt_base.specs.declared.trap.Trap.TheVariants.{Bounds}
use Rattle.pt_base.proofs.Booleans.{both_hold_first, both_hold_second, false_not_true}
use Rattle.pt_base.proofs.Lists.{as_append_nil}
use Rattle.pt_base.proofs.Numbers.{at_most_self, zero_at_most}
use Rattle.pt_tree.specs.declared.signature.Elem.{Elem}
use Rattle.pt_tree.specs.declared.signature.Elem.TheVariants as e
use Rattle.typed_tree.specs.declared.types.VarTy.{VarTy}
use Rattle.typed_tree.specs.declared.types.VarTy.TheVariants.{Int, Struct, Array, Pointer}
use Rattle.typed_tree.specs.declared.types.StructInfo.{StructInfo}
use Rattle.typed_tree.specs.Cells.{leaves_of, repeated}
use Rattle.typed_tree.specs.Sizes.{elem_cells, sizes_of}
use Rattle.typed_tree.specs.TypeTests.{type_of_elem, is_scalar, item_of, pointee_of, element_of}
use Rattle.typed_tree.specs.WellFormed.{is_plain_type, is_variable_type, is_small, field_sound, structs_sound}
use Rattle.typed_tree.proofs.LeavesLemmas.{leaves_of_int, leaves_of_array}
use Rattle.source_meaning.proofs.SizeLemmas.{sizes}
use Rattle.runs.specs.Pointers.{Target, cell_at, up_to, at_index, moved}
use Rattle.block_memory.specs.declared.cell.Cell.{Cell}
use Rattle.block_memory.specs.declared.cell.Cell.TheVariants as cell
use Rattle.block_memory.specs.declared.cell.Pointer.TheVariants as pointer
use Rattle.block_memory.specs.declared.cell.BlockName.{BlockName}
use Rattle.block_memory.specs.declared.cell.BlockName.TheVariants.{Local, Global}
use Rattle.block_memory.specs.Blocks.{Blocks}
use Rattle.pt_core.specs.Types as type
use Rattle.pt_core.specs.Types.{Context, field_type, path_type, pointee_type}
use Rattle.pt_core.specs.Values.{◌>>?◌, at_span, pointed, target_of, Location, offset_in, field_at, along, pointee, decayed, cell_in}
use Rattle.pt_core.specs.WellFormedExpression.{is_field, is_path}
use Rattle.core_soundness_law.specs.Kept.{Kept}
use Rattle.core_soundness_law.specs.Fits.{IntegerFits, BeginsWith, LieAt, depth_of, Points, PointerFits, ValueFits, HasPointer, BlockFits}
use Rattle.core_soundness_law.specs.Laws.{ObjectLies, LocationFits}
use Rattle.core_soundness_law.proofs.Integers.{lies_in, begins_self, element_lies}
use Rattle.core_soundness_law.proofs.Leaves.{all_at, FieldOf, field_of, field_in, sound_at, IsCounted, counted}

-- What a function of this depth sees: its variables and the globals have their types, and wherever an
-- integer lies its cell fits it.
pub record Setting (kept : Kept) (c : Context) (depth : ℕ) (blocks : Blocks) : Type 0 where
  pub sound : IsTrue (structs_sound c.structs 0 c.structs)
  pub variables : (v : ℕ) (ty : VarTy) → slice_get c.variables v ≡ Some ty → BlockFits kept c.structs blocks depth ty (blocks (Local depth v)) × IsCounted ty
  pub globals : (g : ℕ) (ty : VarTy) → lookup (nat_eq g) c.globals ≡ Some ty → ((blocks (Global g)).types ≡ leaves_of c.structs ty) × IsTrue (is_plain_type (length c.structs) ty) × IsCounted ty
  pub integers : (b : BlockName) (n : ℕ) (t : IntType) → LieAt (blocks b).types n (t ∷ []) → IntegerFits kept t (slice_index_or (blocks b).cells n (cell.Int (pos 0)))

-- ---- objects

-- a part of no pointer's type
pub part_lies : (c : Context) (blocks : Blocks) (depth m : ℕ) (ty : VarTy) (at : Location) → IsTrue (is_plain_type m ty) → depth_of at.block ≤ depth → LieAt (blocks at.block).types at.cell (leaves_of c.structs ty) → ObjectLies c blocks depth ty at
part_lies c blocks depth m (Int t) at h near lies = (near, lies)
part_lies c blocks depth m (Struct n) at h near lies = (near, lies)
part_lies c blocks depth m (Array elem count) at h near lies = (near, lies)
part_lies c blocks depth m (Pointer elem fixed) at h near lies = false_not_true h

whole_lies : (structs : List StructInfo) (blocks : Blocks) (b : BlockName) (ty : VarTy) → (blocks b).types ≡ leaves_of structs ty → LieAt (blocks b).types 0 (leaves_of structs ty)
whole_lies structs blocks b ty is = subst (λ ts. BeginsWith ts (leaves_of structs ty)) (sym is) (begins_self (leaves_of structs ty))

pub variable_lies : (kept : Kept) (c : Context) (blocks : Blocks) (depth v : ℕ) (ty : VarTy) → slice_get c.variables v ≡ Some ty → BlockFits kept c.structs blocks depth ty (blocks (Local depth v)) → ObjectLies c blocks depth ty (record { block = Local depth v; cell = 0; ty = ty })
variable_lies kept c blocks depth v (Int t) is h = (at_most_self depth, whole_lies c.structs blocks (Local depth v) (Int t) h.types_are)
variable_lies kept c blocks depth v (Struct n) is h = (at_most_self depth, whole_lies c.structs blocks (Local depth v) (Struct n) h.types_are)
variable_lies kept c blocks depth v (Array elem count) is h = (at_most_self depth, whole_lies c.structs blocks (Local depth v) (Array elem count) h.types_are)
variable_lies kept c blocks depth v (Pointer elem fixed) is h = (v, is, refl, refl)

pub local_fits : (kept : Kept) (c : Context) (depth : ℕ) (blocks : Blocks) → Setting kept c depth blocks → (v : ℕ) (ty : VarTy) → slice_get c.variables v ≡ Some ty → LocationFits c blocks depth ty (record { block = Local depth v; cell = 0; ty = ty })
local_fits kept c depth blocks s v ty is = record { typed = refl; lies = variable_lies kept c blocks depth v ty is (s.variables v ty is).0 }

pub global_fits : (kept : Kept) (c : Context) (depth : ℕ) (blocks : Blocks) → Setting kept c depth blocks → (g : ℕ) (ty : VarTy) → lookup (nat_eq g) c.globals ≡ Some ty → LocationFits c blocks depth ty (record { block = Global g; cell = 0; ty = ty })
global_fits kept c depth blocks s g ty is =
    let of = s.globals g ty is in
    record { typed = refl; lies = part_lies c blocks depth (length c.structs) ty (record { block = Global g; cell = 0; ty = ty }) of.1 (zero_at_most depth) (whole_lies c.structs blocks (Global g) ty of.0) }

-- ---- along a path

field_fits : (kept : Kept) (c : Context) (depth : ℕ) (blocks : Blocks) → Setting kept c depth blocks → (n k : ℕ) (at : Location) → IsTrue (is_field c.structs (Struct n) k) → LocationFits c blocks depth (Struct n) at →
    LocationFits c blocks depth (field_type c.structs (Struct n) k) (field_at c k at)
field_fits kept c depth blocks s n k at h fits =
    let of : FieldOf c.structs n k = field_of c.structs n k h in
    let sound = sound_at c.structs n of.struct_ s.sound of.is_struct in
    let plain : IsTrue (is_plain_type n of.field.ty) =
    both_hold_first (is_plain_type n of.field.ty) (is_small c.structs of.field.ty) (all_at (field_sound c.structs n) of.struct_.fields k of.field of.is_field (both_hold_second (nat_le 1 (length of.struct_.fields)) (list_all (field_sound c.structs n) of.struct_.fields) sound)) in
    record {
      typed = ap (λ u. field_type c.structs u k) fits.typed;
      lies = part_lies c blocks depth n (field_type c.structs (Struct n) k) (field_at c k at) (subst (λ u. IsTrue (is_plain_type n u)) (sym of.typed) plain) fits.lies.0
          (subst (λ u. LieAt (blocks at.block).types (at.cell + offset_in c.structs u k) (leaves_of c.structs (field_type c.structs (Struct n) k))) (sym fits.typed)
          (lies_in (blocks at.block).types at.cell (leaves_of c.structs (Struct n)) (offset_in c.structs (Struct n) k) (leaves_of c.structs (field_type c.structs (Struct n) k)) fits.lies.1 (field_in c.structs n k s.sound h)));
    }

pub path_fits : (kept : Kept) (c : Context) (depth : ℕ) (blocks : Blocks) → Setting kept c depth blocks → (path : List ℕ) (ty : VarTy) (at : Location) → IsTrue (is_path c.structs ty path) → LocationFits c blocks depth ty at →
    LocationFits c blocks depth (path_type c.structs ty path) (along c path at)
path_fits kept c depth blocks s [] ty at h fits = fits
path_fits kept c depth blocks s (k ∷ ks) (Int t) at h fits = false_not_true h
path_fits kept c depth blocks s (k ∷ ks) (Array elem count) at h fits = false_not_true h
path_fits kept c depth blocks s (k ∷ ks) (Pointer elem fixed) at h fits = false_not_true h
path_fits kept c depth blocks s (k ∷ ks) (Struct n) at h fits =
    path_fits kept c depth blocks s ks (field_type c.structs (Struct n) k) (field_at c k at)
    (both_hold_second (is_field c.structs (Struct n) k) (is_path c.structs (field_type c.structs (Struct n) k) ks) h)
    (field_fits kept c depth blocks s n k at (both_hold_first (is_field c.structs (Struct n) k) (is_path c.structs (field_type c.structs (Struct n) k) ks) h) fits)

pub plain_variable : (n : ℕ) (ty : VarTy) → IsTrue (is_plain_type n ty) → IsTrue (is_variable_type n ty)
plain_variable n (Int t) h = h
plain_variable n (Struct m) h = h
plain_variable n (Array elem count) h = h
plain_variable n (Pointer elem fixed) h = false_not_true h

got_less : {A : Type 0} (xs : List A) (k : ℕ) (x : A) → slice_get xs k ≡ Some x → k ≤ length xs
got_less [] k x h = cc
got_less (z ∷ zs) zero x h = omega arith
got_less (z ∷ zs) (suc k) x h = let rest = got_less zs k x h in omega (arith, rest)

field_counted : (structs : List StructInfo) → IsTrue (structs_sound structs 0 structs) → (n k : ℕ) → IsTrue (is_field structs (Struct n) k) → IsCounted (field_type structs (Struct n) k)
field_counted structs sound n k h =
    let of : FieldOf structs n k = field_of structs n k h in
    let fits : IsTrue (field_sound structs n of.field) = all_at (field_sound structs n) of.struct_.fields k of.field of.is_field
    (both_hold_second (nat_le 1 (length of.struct_.fields)) (list_all (field_sound structs n) of.struct_.fields) (sound_at structs n of.struct_ sound of.is_struct)) in
    subst IsCounted (sym of.typed)
    (counted structs sound n (got_less structs n of.struct_ of.is_struct) of.field.ty (plain_variable n of.field.ty (both_hold_first (is_plain_type n of.field.ty) (is_small structs of.field.ty) fits))
    (both_hold_second (is_plain_type n of.field.ty) (is_small structs of.field.ty) fits))

pub path_counted : (structs : List StructInfo) → IsTrue (structs_sound structs 0 structs) → (path : List ℕ) (ty : VarTy) → IsTrue (is_path structs ty path) → IsCounted ty → IsCounted (path_type structs ty path)
path_counted structs sound [] ty h is = is
path_counted structs sound (k ∷ ks) (Int t) h is = false_not_true h
path_counted structs sound (k ∷ ks) (Array elem count) h is = false_not_true h
path_counted structs sound (k ∷ ks) (Pointer elem fixed) h is = false_not_true h
path_counted structs sound (k ∷ ks) (Struct n) h is =
    path_counted structs sound ks (field_type structs (Struct n) k) (both_hold_second (is_field structs (Struct n) k) (is_path structs (field_type structs (Struct n) k) ks) h)
    (field_counted structs sound n k (both_hold_first (is_field structs (Struct n) k) (is_path structs (field_type structs (Struct n) k) ks) h))

-- ---- what pointers point to

pub element_size : (structs : List StructInfo) (elem : Elem) → elem_cells (sizes_of structs) elem ≡ length (leaves_of structs (type_of_elem elem))
element_size structs (e.Int t) = sizes structs (Int t)
element_size structs (e.Struct n) = sizes structs (Struct n)

abbrev if_within : Bool → BlockName → ℕ → Result (BlockName × ℕ) Trap
if_within b block n = if b then Ok (block, n) else Err Bounds

element_object : (c : Context) (blocks : Blocks) (depth : ℕ) (elem : Elem) (at : Location) → depth_of at.block ≤ depth → LieAt (blocks at.block).types at.cell (leaves_of c.structs (type_of_elem elem)) → ObjectLies c blocks depth (type_of_elem elem) at
element_object c blocks depth (e.Int t) at near lies = (near, lies)
element_object c blocks depth (e.Struct n) at near lies = (near, lies)

reached_fits : (c : Context) (blocks : Blocks) (depth : ℕ) (elem : Elem) (s : Span) (p : Target BlockName) → Points c.structs blocks depth elem p → (b : Bool) → nat_lt p.index p.count ≡ b →
    IfOk (at_span s (if_within b p.block (cell_at (elem_cells (sizes_of c.structs) elem) p.base p.index)) >>? λ at. Ok (record { block = at.0; cell = at.1; ty = type_of_elem elem })) (LocationFits c blocks depth (type_of_elem elem))
reached_fits c blocks depth elem s p points false less = tt {0}
reached_fits c blocks depth elem s p points true less = record {
  typed = refl;
  lies = element_object c blocks depth elem (record { block = p.block; cell = cell_at (elem_cells (sizes_of c.structs) elem) p.base p.index; ty = type_of_elem elem }) points.near
      (subst (λ k. LieAt (blocks p.block).types (p.base + p.index * k) (leaves_of c.structs (type_of_elem elem))) (sym (element_size c.structs elem))
      (lies_in (blocks p.block).types p.base (repeated p.count (leaves_of c.structs (type_of_elem elem))) (p.index * length (leaves_of c.structs (type_of_elem elem))) (leaves_of c.structs (type_of_elem elem)) points.types
      (element_lies p.count p.index (leaves_of c.structs (type_of_elem elem)) (ltb-true p.index p.count less))));
}

pub pointee_fits : (kept : Kept) (c : Context) (blocks : Blocks) (depth : ℕ) (s : Span) (ty : VarTy) (v : Cell) → IsTrue (is_some (pointee_of (Some ty))) → ValueFits kept c.structs blocks depth ty v →
    IfOk (pointee c s ty v) (LocationFits c blocks depth (pointee_type ty))
pointee_fits kept c blocks depth s (Int t) v h f = false_not_true h
pointee_fits kept c blocks depth s (Struct n) v h f = false_not_true h
pointee_fits kept c blocks depth s (Array elem count) v h f = false_not_true h
pointee_fits kept c blocks depth s (Pointer elem fixed) (cell.Int v) h f = elim f [ ]
pointee_fits kept c blocks depth s (Pointer elem fixed) (cell.Sealed v) h f = elim f [ ]
pointee_fits kept c blocks depth s (Pointer elem fixed) (cell.Ptr pointer.Null) h f = tt {0}
pointee_fits kept c blocks depth s (Pointer elem fixed) (cell.Ptr (pointer.At block base count index)) h f =
    reached_fits c blocks depth elem s (record { block = block; base = base; count = count; index = index }) f (nat_lt index count) refl

-- ---- what is read and pointed to

pub read_fits : (kept : Kept) (c : Context) (depth : ℕ) (blocks : Blocks) → Setting kept c depth blocks → (ty : VarTy) (at : Location) → IsTrue (is_scalar (Some ty)) → LocationFits c blocks depth ty at → ValueFits kept c.structs blocks depth ty (cell_in blocks at)
read_fits kept c depth blocks s (Int t) at h fits = s.integers at.block at.cell t (subst (λ ts. LieAt (blocks at.block).types at.cell ts) (leaves_of_int c.structs t) fits.lies.1)
read_fits kept c depth blocks s (Struct n) at h fits = false_not_true h
read_fits kept c depth blocks s (Array elem count) at h fits = false_not_true h
read_fits kept c depth blocks s (Pointer elem fixed) at h fits =
    let own : HasPointer c.structs blocks depth elem (blocks (Local depth fits.lies.0)) = (s.variables fits.lies.0 (Pointer elem fixed) fits.lies.1).0 in
    subst (λ b. PointerFits c.structs blocks depth elem (slice_index_or (blocks b).cells at.cell (cell.Int (pos 0)))) (sym fits.lies.2)
    (subst (λ n. PointerFits c.structs blocks depth elem (slice_index_or (blocks (Local depth fits.lies.0)).cells n (cell.Int (pos 0)))) (sym fits.lies.3)
    (subst (λ cells. PointerFits c.structs blocks depth elem (slice_index_or cells 0 (cell.Int (pos 0)))) (sym own.cells) own.fits))

one_element : (structs : List StructInfo) (blocks : Blocks) (depth : ℕ) (elem : Elem) (at : Location) → depth_of at.block ≤ depth → LieAt (blocks at.block).types at.cell (leaves_of structs (type_of_elem elem)) →
    PointerFits structs blocks depth elem (cell.Ptr (pointer.At at.block at.cell 1 0))
one_element structs blocks depth elem at near lies = record {
  near = near;
  some = omega arith;
  few = omega arith;
  within = omega arith;
  types = subst (λ ts. LieAt (blocks at.block).types at.cell ts) (as_append_nil (leaves_of structs (type_of_elem elem))) lies;
}

pub address_fits : (kept : Kept) (c : Context) (blocks : Blocks) (depth : ℕ) (ty : VarTy) (at : Location) → IsTrue (is_some (element_of (Some ty))) → LocationFits c blocks depth ty at →
    ValueFits kept c.structs blocks depth (Pointer (type.element_of ty) false) (cell.Ptr (pointer.At at.block at.cell 1 0))
address_fits kept c blocks depth (Int t) at h fits = one_element c.structs blocks depth (e.Int t) at fits.lies.0 fits.lies.1
address_fits kept c blocks depth (Struct n) at h fits = one_element c.structs blocks depth (e.Struct n) at fits.lies.0 fits.lies.1
address_fits kept c blocks depth (Array elem count) at h fits = false_not_true h
address_fits kept c blocks depth (Pointer elem fixed) at h fits = false_not_true h

pub decay_fits : (kept : Kept) (c : Context) (blocks : Blocks) (depth : ℕ) (ty : VarTy) (at : Location) → IsTrue (is_some (item_of (Some ty))) → IsCounted ty → LocationFits c blocks depth ty at →
    ValueFits kept c.structs blocks depth (Pointer (type.element_of ty) false) (decayed at at.ty)
decay_fits kept c blocks depth (Int t) at h k fits = false_not_true h
decay_fits kept c blocks depth (Struct n) at h k fits = false_not_true h
decay_fits kept c blocks depth (Pointer elem fixed) at h k fits = false_not_true h
decay_fits kept c blocks depth (Array elem count) at h k fits =
    subst (λ u. PointerFits c.structs blocks depth elem (decayed at u)) (sym fits.typed)
    (record {
      near = fits.lies.0;
      some = k.0;
      few = k.1;
      within = omega arith;
      types = subst (λ ts. LieAt (blocks at.block).types at.cell ts) (leaves_of_array c.structs elem count) fits.lies.1;
    })

-- ---- moved pointers

pub moved_fits : (kept : Kept) (structs : List StructInfo) (blocks : Blocks) (depth : ℕ) (s : Span) (amount : ℤ) (ty : VarTy) (v : Cell) → ValueFits kept structs blocks depth ty v →
    IfOk (pointed (at_span s (moved amount (target_of v)))) (ValueFits kept structs blocks depth ty)
moved_fits kept structs blocks depth s amount (Int t) (cell.Int v) f = tt {0}
moved_fits kept structs blocks depth s amount (Int t) (cell.Ptr p) f = elim f [ ]
moved_fits kept structs blocks depth s amount (Int t) (cell.Sealed h) f = tt {0}
moved_fits kept structs blocks depth s amount (Struct n) v f = elim f [ ]
moved_fits kept structs blocks depth s amount (Array elem count) v f = elim f [ ]
moved_fits kept structs blocks depth s amount (Pointer elem fixed) (cell.Int v) f = elim f [ ]
moved_fits kept structs blocks depth s amount (Pointer elem fixed) (cell.Sealed h) f = elim f [ ]
moved_fits kept structs blocks depth s amount (Pointer elem fixed) (cell.Ptr pointer.Null) f = tt {0}
moved_fits kept structs blocks depth s amount (Pointer elem fixed) (cell.Ptr (pointer.At block base count index)) f = go (pos index +ℤ amount)
  where
    p : Target BlockName
    p = record { block = block; base = base; count = count; index = index }

    at_test : (n : ℕ) (b : Bool) → nat_le n count ≡ b → IfOk (pointed (at_span s (at_index p (if b then Some n else None)))) (ValueFits kept structs blocks depth (Pointer elem fixed))
    at_test n false h = tt {0}
    at_test n true h = record { near = f.near; some = f.some; few = f.few; within = grind (arith, nat_tests, h); types = f.types }

    go : (z : ℤ) → IfOk (pointed (at_span s (at_index p (up_to count z)))) (ValueFits kept structs blocks depth (Pointer elem fixed))
    go (pos n) = at_test n (nat_le n count) refl
    go (negsuc n) = tt {0}
