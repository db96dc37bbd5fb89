-- The value of a fine expression is of its class, and nothing within it computes with a handle.
use Rattle.std.proofs.Common.{◌≡◌, ◌∙◌, ◌≤◌, ◌<◌, ℕ, ◌+◌, ℤ, refl, ap, sym, subst, Bool, true, false, ◌&&◌, not, List, [], ◌∷◌, Option, Some, None, Result, Ok, Err, if◌then◌else◌, add-zero}
use Rattle.std.specs.Prelude.{nat_lt, nat_eq}
use Rattle.std.proofs.lemmas.Bool.{ltb-true, eq-eqb, or_from}
use Rattle.pt_base.specs.declared.span.Span.{Span}
use Rattle.pt_base.specs.declared.int_type.IntType.{IntType}
use Rattle.pt_base.specs.declared.trap.Trap.{Trap}
use Rattle.pt_base.specs.declared.trap.Trap.TheVariants.{Bounds}
use Rattle.typed_tree.specs.declared.types.VarTy.{VarTy}
use Rattle.typed_tree.specs.declared.types.VarTy.TheVariants.{Int, Struct, Array, Pointer}
use Rattle.typed_tree.specs.Sizes.{sizes_of, elem_cells, cells_by}
use Rattle.runs.specs.Pointers.{cell_at, moved_index, at_index, moved, directed}
use Rattle.block_memory.specs.declared.cell.Cell.{Cell}
use Rattle.block_memory.specs.declared.cell.Cell.TheVariants as cell
use Rattle.block_memory.specs.declared.cell.Pointer.TheVariants.{Null, At}
use Rattle.block_memory.specs.declared.cell.BlockName.{BlockName}
use Rattle.block_memory.specs.declared.cell.BlockName.TheVariants.{Local, Global}
use Rattle.block_memory.specs.Blocks.{Blocks}
use Rattle.pt_core.specs.CodeTree.{RootTree, local, global, deref, PlaceTree, place, ExprTree, constant, read, unary, binary, convert, null, address, decay, move, compare, difference, ProgramTree}
use Rattle.pt_core.specs.Types.{Context, type_of, place_type, root_type, element_of, path_type, pointee_type}
use Rattle.pt_core.specs.Values.{Stop, ◌>>?◌, at_span, number_in, target_of, converted, is_type, numbered, pointed, told, Location, along, pointee, decayed, cell_in, value_of, location_of, root_location}
use Rattle.pt_core.specs.Calls.{context_in}
use Rattle.pt_core.specs.Steps.{Active}
use Rattle.handle_classes.specs.Classes.{Class, World, scope_in, part, pointer_to, pointed_to, converted_class, path_offset, along_class, class_of, place_class, root_class}
use Rattle.handle_classes.specs.Judgment.{IsPlain, HasElements, IsAnArray, IsWithin, IsFine, IsFinePlace, IsFineRoot, IsFineProgram}
use Rattle.handle_classes.specs.Invariant.{Agrees, Fits, MayLie, MemoryFits, block_class, local_class}
use Rattle.handle_classes.specs.Computes.{is_handle, meets_at, meets_root, needs}
use Rattle.handle_classes.specs.Laws.{FitsIf, ValueFits, ValuesFit}
use Rattle.handle_classes.proofs.Places.{IsPart, whole_part, part_of_part, element_part, address_agrees, decay_agrees, Led, led}

-- ---- cells

pub plain_is_no_handle : (w : World) (active : List Active) (c : Class) (r : Result Cell Stop) → IsPlain c → FitsIf w active c r → is_handle r ≡ false
plain_is_no_handle w active c (Err stop) p f = refl
plain_is_no_handle w active c (Ok (cell.Int v)) p f = refl
plain_is_no_handle w active c (Ok (cell.Ptr q)) p f = refl
plain_is_no_handle w active c (Ok (cell.Sealed h)) p f = sym f.1 ∙ p.number

pub pointer_is_no_handle : (w : World) (active : List Active) (c : Class) (r : Result Cell Stop) → c.pointer ≡ true → FitsIf w active c r → is_handle r ≡ false
pointer_is_no_handle w active c (Err stop) p f = refl
pointer_is_no_handle w active c (Ok (cell.Int v)) p f = refl
pointer_is_no_handle w active c (Ok (cell.Ptr q)) p f = refl
pointer_is_no_handle w active c (Ok (cell.Sealed h)) p f = sym p ∙ f.0

pub bound : {A : Type 0} (w : World) (active : List Active) (c : Class) (r : Result A Stop) (next : A → Result Cell Stop) → ((x : A) → FitsIf w active c (next x)) → FitsIf w active c (r >>? next)
bound w active c (Ok x) next k = k x
bound w active c (Err stop) next k = tt {0}

bound_cell : (w : World) (active : List Active) (c d : Class) (r : Result Cell Stop) (next : Cell → Result Cell Stop) → FitsIf w active c r → ((v : Cell) → Fits w active c v → FitsIf w active d (next v)) → FitsIf w active d (r >>? next)
bound_cell w active c d (Ok v) next f k = k v f
bound_cell w active c d (Err stop) next f k = tt {0}

number_fits : (w : World) (active : List Active) (c : Class) (r : Result ℤ Stop) → FitsIf w active c (numbered r)
number_fits w active c (Ok v) = tt {0}
number_fits w active c (Err stop) = tt {0}

told_fits : (w : World) (active : List Active) (c : Class) (r : Result Bool Stop) → FitsIf w active c (told r)
told_fits w active c (Ok v) = tt {0}
told_fits w active c (Err stop) = tt {0}

moved_fits : (w : World) (active : List Active) (c : Class) (s : Span) (amount : ℤ) (v : Cell) → Fits w active c v → FitsIf w active c (pointed (at_span s (moved amount (target_of v))))
moved_fits w active c s amount (cell.Int v) f = tt {0}
moved_fits w active c s amount (cell.Ptr Null) f = tt {0}
moved_fits w active c s amount (cell.Sealed h) f = tt {0}
moved_fits w active c s amount (cell.Ptr (At block base count index)) f = go (moved_index count index amount)
  where
    go : (o : Option ℕ) → FitsIf w active c (pointed (at_span s (at_index (record { block = block; base = base; count = count; index = index }) o)))
    go None = tt {0}
    go (Some n) = f

converted_fits : (w : World) (active : List Active) (c : Class) (same : Bool) (to : IntType) (v : Cell) → Fits w active c v → Fits w active (converted_class same c) (converted same to v)
converted_fits w active c same to (cell.Int v) f = tt {0}
converted_fits w active c same to (cell.Ptr p) f = tt {0}
converted_fits w active c true to (cell.Sealed h) f = (refl, f.1)
converted_fits w active c false to (cell.Sealed h) f = tt {0}

unconverted : (w : World) (active : List Active) (c : Class) (same : Bool) (r : Result Cell Stop) → c.pointer ≡ false → (same ≡ false → c.may 0 ≡ false) → FitsIf w active c r → (not same && is_handle r) ≡ false
unconverted w active c true r p h f = refl
unconverted w active c false r p h f = plain_is_no_handle w active c r (record { integer = p; number = h refl }) f

-- a cell of an object
lies_fits : (w : World) (active : List Active) (c of : Class) (n : ℕ) (v : Cell) → c.pointer ≡ false → 0 < c.size → IsPart c of n → MayLie of n v → Fits w active c v
lies_fits w active c of n (cell.Int v) p room in_it m = tt {0}
lies_fits w active c of n (cell.Ptr Null) p room in_it m = tt {0}
lies_fits w active c of n (cell.Ptr (At block base count index)) p room in_it m = λ h. let no : true ≡ false = sym h ∙ p in cc
lies_fits w active c of n (cell.Sealed h) p room in_it m = (p, in_it.may 0 room (subst (λ k. of.may k ≡ true) (sym (add-zero n)) m.1))

-- ---- places

pub record Lies (w : World) (active : List Active) (blocks : Blocks) (c : Class) (ty : VarTy) (at : Location) : Type 0 where
  pub typed : at.ty ≡ ty
  pub object : c.pointer ≡ false → IsPart c (block_class w active at.block) at.cell
  pub pointer : c.pointer ≡ true → Fits w active c (cell_in blocks at)

abbrev pub LiesIf : World → List Active → Blocks → Class → VarTy → Result Location Stop → Type 0
LiesIf w active blocks c ty (Ok at) = Lies w active blocks c ty at
LiesIf w active blocks c ty (Err stop) = Unit {0}

absurd_pointer : {A : Type 0} (c : Class) → c.pointer ≡ false → c.pointer ≡ true → A
absurd_pointer c p q = let no : true ≡ false = sym q ∙ p in cc

pub same_depth : (n : ℕ) (x y : Class) → (if nat_eq n n then x else y) ≡ x
same_depth n x y = subst (λ b. (if b then x else y) ≡ x) (sym (eq-eqb n n refl)) refl

local_lies : (program : ProgramTree) (w : World) (a : Active) (rest : List Active) (blocks : Blocks) → IsFineProgram program w → MemoryFits w (a ∷ rest) blocks → (v : ℕ) (ty : VarTy) →
    Lies w (a ∷ rest) blocks (w.variable a.function v) ty (record { block = Local a.depth v; cell = 0; ty = ty })
local_lies program w a rest blocks fine mem v ty =
    record {
      typed = refl;
      object = λ h. subst (λ k. IsPart (w.variable a.function v) k 0) (sym (same_depth a.depth (w.variable a.function v) (local_class w rest a.depth v)))
          (whole_part (w.variable a.function v) h (λ n must. fine.variables a.function v n h must));
      pointer = mem.pointers.0 v;
    }

global_lies : (program : ProgramTree) (w : World) (active : List Active) (blocks : Blocks) → IsFineProgram program w → (g : ℕ) (ty : VarTy) →
    Lies w active blocks (w.global g) ty (record { block = Global g; cell = 0; ty = ty })
global_lies program w active blocks fine g ty = record {
  typed = refl;
  object = λ h. whole_part (w.global g) h (fine.globals g);
  pointer = λ h. absurd_pointer (w.global g) (fine.objects g) h;
}

abbrev if_bounded : Bool → BlockName → ℕ → Result (BlockName × ℕ) Trap
if_bounded b block n = if b then Ok (block, n) else Err Bounds

abbrev located : VarTy → BlockName × ℕ → Result Location Stop
located ty at = Ok (record { block = at.0; cell = at.1; ty = ty })

element_lies : (w : World) (active : List Active) (blocks : Blocks) (c : Class) (ty : VarTy) (s : Span) (block : BlockName) (base count index : ℕ) → Agrees c (block_class w active block) base count → (size : ℕ) → size ≡ c.size →
    (b : Bool) → nat_lt index count ≡ b →
    LiesIf w active blocks (pointed_to c) ty (at_span s (if_bounded b block (cell_at size base index)) >>? located ty)
element_lies w active blocks c ty s block base count index agrees size same true less = record {
  typed = refl;
  object = λ h. subst (λ k. IsPart (pointed_to c) (block_class w active block) (cell_at k base index)) (sym same) (element_part c (block_class w active block) base count index agrees (ltb-true index count less));
  pointer = λ h. cc;
}
element_lies w active blocks c ty s block base count index agrees size same false less = tt {0}

pointee_lies : (w : World) (active : List Active) (blocks : Blocks) (context : Context) (c : Class) (s : Span) (ty : VarTy) (v : Cell) → c.pointer ≡ true → HasElements context ty c.size → Fits w active c v →
    LiesIf w active blocks (pointed_to c) (pointee_type ty) (pointee context s ty v)
pointee_lies w active blocks context c s (Int t) v p h f = elim h [ ]
pointee_lies w active blocks context c s (Struct n) v p h f = elim h [ ]
pointee_lies w active blocks context c s (Array elem count) v p h f = elim h [ ]
pointee_lies w active blocks context c s (Pointer elem fixed) (cell.Int v) p h f = tt {0}
pointee_lies w active blocks context c s (Pointer elem fixed) (cell.Ptr Null) p h f = tt {0}
pointee_lies w active blocks context c s (Pointer elem fixed) (cell.Sealed v) p h f = tt {0}
pointee_lies w active blocks context c s (Pointer elem fixed) (cell.Ptr (At block base count index)) p h f =
    element_lies w active blocks c (pointee_type (Pointer elem fixed)) s block base count index (f p) (elem_cells (sizes_of context.structs) elem) h (nat_lt index count) refl

bound_lies : (w : World) (active : List Active) (blocks : Blocks) (c d : Class) (ty : VarTy) (r : Result Cell Stop) (next : Cell → Result Location Stop) → FitsIf w active c r → ((v : Cell) → Fits w active c v → LiesIf w active blocks d ty (next v)) → LiesIf w active blocks d ty (r >>? next)
bound_lies w active blocks c d ty (Ok v) next f k = k v f
bound_lies w active blocks c d ty (Err stop) next f k = tt {0}

inner_lies : (w : World) (active : List Active) (blocks : Blocks) (context : Context) (c : Class) (ty : VarTy) (path : List ℕ) (at : Location) → IsWithin context ty (path_type context.structs ty path) path c → Lies w active blocks c ty at →
    Lies w active blocks (along_class context ty (path_type context.structs ty path) path c) (path_type context.structs ty path) (along context path at)
inner_lies w active blocks context c ty [] at room lies = lies
inner_lies w active blocks context c ty (k ∷ ks) at room lies =
    let way : Led context (k ∷ ks) at = led context (k ∷ ks) at in
    let off : ℕ = path_offset context.structs ty (k ∷ ks) in
    let size : ℕ = cells_by (sizes_of context.structs) (path_type context.structs ty (k ∷ ks)) in
    let inside : IsPart (part off size c) (block_class w active at.block) (at.cell + off) = part_of_part c (block_class w active at.block) at.cell off size (lies.object room.0) room.1 in
    record {
      typed = way.ty ∙ ap (λ t. path_type context.structs t (k ∷ ks)) lies.typed;
      object = λ h. subst (λ b. IsPart (part off size c) (block_class w active b) (along context (k ∷ ks) at).cell) (sym way.block)
          (subst (λ n. IsPart (part off size c) (block_class w active at.block) n) (sym (way.cell ∙ ap (λ t. at.cell + path_offset context.structs t (k ∷ ks)) lies.typed)) inside);
      pointer = λ h. cc;
    }

path_lies : (w : World) (active : List Active) (blocks : Blocks) (context : Context) (c : Class) (ty : VarTy) (path : List ℕ) (r : Result Location Stop) → IsWithin context ty (path_type context.structs ty path) path c → LiesIf w active blocks c ty r →
    LiesIf w active blocks (along_class context ty (path_type context.structs ty path) path c) (path_type context.structs ty path) (r >>? λ at. Ok (along context path at))
path_lies w active blocks context c ty path (Ok at) room lies = inner_lies w active blocks context c ty path at room lies
path_lies w active blocks context c ty path (Err stop) room lies = tt {0}

read_fits : (w : World) (active : List Active) (blocks : Blocks) → MemoryFits w active blocks → (c : Class) (ty : VarTy) (r : Result Location Stop) → (c.pointer ≡ false → 0 < c.size) → LiesIf w active blocks c ty r →
    FitsIf w active c (r >>? λ at. Ok (cell_in blocks at))
read_fits w active blocks mem c ty (Err stop) room lies = tt {0}
read_fits w active blocks mem c ty (Ok at) room lies = go c.pointer refl
  where
    go : (b : Bool) → c.pointer ≡ b → Fits w active c (cell_in blocks at)
    go true p = lies.pointer p
    go false p = lies_fits w active c (block_class w active at.block) at.cell (cell_in blocks at) p (room p) (lies.object p) (mem.handles at.block at.cell)

address_fits : (w : World) (active : List Active) (blocks : Blocks) (c : Class) (ty : VarTy) (size : ℕ) (r : Result Location Stop) → c.pointer ≡ false → size ≤ c.size → LiesIf w active blocks c ty r →
    FitsIf w active (pointer_to size c) (r >>? λ at. Ok (cell.Ptr (At at.block at.cell 1 0)))
address_fits w active blocks c ty size (Err stop) p room lies = tt {0}
address_fits w active blocks c ty size (Ok at) p room lies = λ h. address_agrees c (block_class w active at.block) at.cell size (lies.object p) room

decayed_fits : (w : World) (active : List Active) (blocks : Blocks) (context : Context) (c : Class) (ty : VarTy) (at : Location) → c.pointer ≡ false → IsAnArray c (elem_cells (sizes_of context.structs) (element_of ty)) ty → Lies w active blocks c ty at →
    Fits w active (pointer_to (elem_cells (sizes_of context.structs) (element_of ty)) c) (decayed at ty)
decayed_fits w active blocks context c (Int t) at p alike lies = tt {0}
decayed_fits w active blocks context c (Struct n) at p alike lies = tt {0}
decayed_fits w active blocks context c (Pointer elem fixed) at p alike lies = tt {0}
decayed_fits w active blocks context c (Array elem count) at p alike lies = λ h. decay_agrees c (block_class w active at.block) at.cell (elem_cells (sizes_of context.structs) elem) count (lies.object p) alike

decay_fits : (w : World) (active : List Active) (blocks : Blocks) (context : Context) (c : Class) (ty : VarTy) (r : Result Location Stop) → c.pointer ≡ false → IsAnArray c (elem_cells (sizes_of context.structs) (element_of ty)) ty → LiesIf w active blocks c ty r →
    FitsIf w active (pointer_to (elem_cells (sizes_of context.structs) (element_of ty)) c) (r >>? λ at. Ok (decayed at at.ty))
decay_fits w active blocks context c ty (Err stop) p alike lies = tt {0}
decay_fits w active blocks context c ty (Ok at) p alike lies = subst (λ t. Fits w active (pointer_to (elem_cells (sizes_of context.structs) (element_of ty)) c) (decayed at t)) (sym lies.typed) (decayed_fits w active blocks context c ty at p alike lies)

-- ---- the walk

pub record RootLies (program : ProgramTree) (w : World) (a : Active) (rest : List Active) (blocks : Blocks) (root : RootTree) : Type 0 where
  pub lies : LiesIf w (a ∷ rest) blocks (root_class (scope_in program w a.function) root) (root_type (context_in program a.function) root) (root_location (context_in program a.function) a.depth root blocks)
  pub unmet : meets_root (context_in program a.function) a.depth root blocks ≡ false

pub record PlaceLies (program : ProgramTree) (w : World) (a : Active) (rest : List Active) (blocks : Blocks) (p : PlaceTree) : Type 0 where
  pub lies : LiesIf w (a ∷ rest) blocks (place_class (scope_in program w a.function) p) (place_type (context_in program a.function) p) (location_of (context_in program a.function) a.depth p blocks)
  pub unmet : meets_at (context_in program a.function) a.depth p blocks ≡ false

unneeded : (program : ProgramTree) (w : World) (a : Active) (rest : List Active) (blocks : Blocks) (e : ExprTree) → IsPlain (class_of (scope_in program w a.function) e) → ValueFits program w a rest blocks e → needs (context_in program a.function) a.depth e blocks ≡ false
unneeded program w a rest blocks e plain k = or_from _ _ k.unmet (plain_is_no_handle w (a ∷ rest) _ _ plain k.fits)

pointer_unneeded : (program : ProgramTree) (w : World) (a : Active) (rest : List Active) (blocks : Blocks) (e : ExprTree) → (class_of (scope_in program w a.function) e).pointer ≡ true → ValueFits program w a rest blocks e → needs (context_in program a.function) a.depth e blocks ≡ false
pointer_unneeded program w a rest blocks e p k = or_from _ _ k.unmet (pointer_is_no_handle w (a ∷ rest) (class_of (scope_in program w a.function) e) _ p k.fits)

abbrev pub Here : ProgramTree → World → Active → List Active → Blocks → Type 0
Here program w a rest blocks = IsFineProgram program w × MemoryFits w (a ∷ rest) blocks

mutual
  pub values : (program : ProgramTree) (w : World) (a : Active) (rest : List Active) (blocks : Blocks) → Here program w a rest blocks → (e : ExprTree) → IsFine (scope_in program w a.function) e → ValueFits program w a rest blocks e
  values program w a rest blocks here (constant t v) fine = record { fits = tt {0}; unmet = refl }
  values program w a rest blocks here (read p) fine =
      let at : PlaceLies program w a rest blocks p = places program w a rest blocks here p fine.0 in
      record { fits = read_fits w (a ∷ rest) blocks here.1 _ _ (location_of (context_in program a.function) a.depth p blocks) fine.1 at.lies; unmet = at.unmet }
  values program w a rest blocks here (unary op t x span) fine =
      let of : ValueFits program w a rest blocks x = values program w a rest blocks here x fine.0 in
      record {
        fits = bound w (a ∷ rest) _ (value_of (context_in program a.function) a.depth x blocks) _ (λ v. number_fits w (a ∷ rest) _ _);
        unmet = unneeded program w a rest blocks x fine.1 of;
      }
  values program w a rest blocks here (binary op t x y span) fine =
      let left : ValueFits program w a rest blocks x = values program w a rest blocks here x fine.0 in
      let right : ValueFits program w a rest blocks y = values program w a rest blocks here y fine.1 in
      record {
        fits = bound w (a ∷ rest) _ (value_of (context_in program a.function) a.depth x blocks) _ (λ v. bound w (a ∷ rest) _ (value_of (context_in program a.function) a.depth y blocks) _ (λ u. number_fits w (a ∷ rest) _ _));
        unmet = or_from _ _ (unneeded program w a rest blocks x fine.2 left) (unneeded program w a rest blocks y fine.3 right);
      }
  values program w a rest blocks here (convert to x) fine =
      let of : ValueFits program w a rest blocks x = values program w a rest blocks here x fine.0 in
      record {
        fits = bound_cell w (a ∷ rest) (class_of (scope_in program w a.function) x) _ (value_of (context_in program a.function) a.depth x blocks) _ of.fits (λ v f. converted_fits w (a ∷ rest) (class_of (scope_in program w a.function) x) (is_type (type_of (context_in program a.function) x) to) to v f);
        unmet = or_from _ _ of.unmet (unconverted w (a ∷ rest) (class_of (scope_in program w a.function) x) (is_type (type_of (context_in program a.function) x) to) _ fine.1 fine.2 of.fits);
      }
  values program w a rest blocks here (null elem) fine = record { fits = tt {0}; unmet = refl }
  values program w a rest blocks here (address p) fine =
      let at : PlaceLies program w a rest blocks p = places program w a rest blocks here p fine.0 in
      record { fits = address_fits w (a ∷ rest) blocks _ _ _ (location_of (context_in program a.function) a.depth p blocks) fine.1 fine.2 at.lies; unmet = at.unmet }
  values program w a rest blocks here (decay p) fine =
      let at : PlaceLies program w a rest blocks p = places program w a rest blocks here p fine.0 in
      record {
        fits = decay_fits w (a ∷ rest) blocks (context_in program a.function) (place_class (scope_in program w a.function) p) (place_type (context_in program a.function) p) (location_of (context_in program a.function) a.depth p blocks) fine.1 fine.2 at.lies;
        unmet = at.unmet;
      }
  values program w a rest blocks here (move x y back span) fine =
      let left : ValueFits program w a rest blocks x = values program w a rest blocks here x fine.0 in
      let right : ValueFits program w a rest blocks y = values program w a rest blocks here y fine.1 in
      record {
        fits = bound_cell w (a ∷ rest) (class_of (scope_in program w a.function) x) _ (value_of (context_in program a.function) a.depth x blocks) _ left.fits
            (λ v f. bound w (a ∷ rest) _ (value_of (context_in program a.function) a.depth y blocks) _ (λ u. moved_fits w (a ∷ rest) (class_of (scope_in program w a.function) x) span (directed back (number_in u)) v f));
        unmet = or_from _ _ (pointer_unneeded program w a rest blocks x fine.2 left) (unneeded program w a rest blocks y fine.3 right);
      }
  values program w a rest blocks here (compare op x y span) fine =
      let left : ValueFits program w a rest blocks x = values program w a rest blocks here x fine.0 in
      let right : ValueFits program w a rest blocks y = values program w a rest blocks here y fine.1 in
      record {
        fits = bound w (a ∷ rest) _ (value_of (context_in program a.function) a.depth x blocks) _ (λ v. bound w (a ∷ rest) _ (value_of (context_in program a.function) a.depth y blocks) _ (λ u. told_fits w (a ∷ rest) _ _));
        unmet = or_from _ _ (pointer_unneeded program w a rest blocks x fine.2 left) (pointer_unneeded program w a rest blocks y fine.3 right);
      }
  values program w a rest blocks here (difference x y span) fine =
      let left : ValueFits program w a rest blocks x = values program w a rest blocks here x fine.0 in
      let right : ValueFits program w a rest blocks y = values program w a rest blocks here y fine.1 in
      record {
        fits = bound w (a ∷ rest) _ (value_of (context_in program a.function) a.depth x blocks) _ (λ v. bound w (a ∷ rest) _ (value_of (context_in program a.function) a.depth y blocks) _ (λ u. number_fits w (a ∷ rest) _ _));
        unmet = or_from _ _ (pointer_unneeded program w a rest blocks x fine.2 left) (pointer_unneeded program w a rest blocks y fine.3 right);
      }

  pub places : (program : ProgramTree) (w : World) (a : Active) (rest : List Active) (blocks : Blocks) → Here program w a rest blocks → (p : PlaceTree) → IsFinePlace (scope_in program w a.function) p → PlaceLies program w a rest blocks p
  places program w a rest blocks here (place root path) fine =
      let at : RootLies program w a rest blocks root = roots program w a rest blocks here root fine.0 in
      record {
        lies = path_lies w (a ∷ rest) blocks (context_in program a.function) (root_class (scope_in program w a.function) root) (root_type (context_in program a.function) root) path (root_location (context_in program a.function) a.depth root blocks) fine.1 at.lies;
        unmet = at.unmet;
      }

  pub roots : (program : ProgramTree) (w : World) (a : Active) (rest : List Active) (blocks : Blocks) → Here program w a rest blocks → (root : RootTree) → IsFineRoot (scope_in program w a.function) root → RootLies program w a rest blocks root
  roots program w a rest blocks here (local v) fine = record { lies = local_lies program w a rest blocks here.0 here.1 v _; unmet = refl }
  roots program w a rest blocks here (global g) fine = record { lies = global_lies program w (a ∷ rest) blocks here.0 g _; unmet = refl }
  roots program w a rest blocks here (deref p span) fine =
      let of : ValueFits program w a rest blocks p = values program w a rest blocks here p fine.0 in
      record {
        lies = bound_lies w (a ∷ rest) blocks (class_of (scope_in program w a.function) p) _ _ (value_of (context_in program a.function) a.depth p blocks) _ of.fits
            (λ v f. pointee_lies w (a ∷ rest) blocks (context_in program a.function) (class_of (scope_in program w a.function) p) span (type_of (context_in program a.function) p) v fine.1 fine.2 f);
        unmet = pointer_unneeded program w a rest blocks p fine.1 of;
      }

pub values_fit : ValuesFit
values_fit program w a rest blocks e fine mem judged = values program w a rest blocks (fine, mem) e judged
