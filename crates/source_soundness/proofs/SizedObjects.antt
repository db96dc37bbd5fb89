-- Objects and pointers keep their sizes: what is read, stored and moved.
use Rattle.std.proofs.Common.{◌≡◌, ◌∙◌, ◌≤◌, ◌<◌, ℕ, zero, suc, ◌+◌, ◌*◌, pos, ℤ, refl, ap, sym, subst, arith, Bool, true, false, Option, Some, None, List, [], ◌∷◌, length, length-drop, length-take-le, Ok, Err, if◌then◌else◌, nat_lt}
use Rattle.std.specs.Prelude.{slice_set, slice_index_or, take, drop}
use Rattle.std.proofs.Math.Nat.{mul-le-mul_right, suc-mul}
use Rattle.pt_base.specs.declared.trap.Trap.TheVariants.{Bounds}
use Rattle.pt_base.proofs.Booleans.{false_not_true}
use Rattle.pt_base.proofs.Numbers.{nat_lt_below}
use Rattle.pt_tree.specs.declared.signature.Elem.{Elem}
use Rattle.pt_tree.specs.declared.signature.Elem.TheVariants as e
use Rattle.runs.specs.Pointers.{if_ok, moved_index, at_index, cell_at}
use Rattle.typed_tree.specs.declared.types.VarTy.{VarTy}
use Rattle.typed_tree.specs.declared.types.VarTy.TheVariants.{Int, Struct, Array, Pointer}
use Rattle.typed_tree.specs.Sizes.{cells_by, elem_cells}
use Rattle.typed_tree.specs.TypeTests.{type_of_elem}
use Rattle.source_meaning.specs.Memory.{Block, same_block, Cell, number, null, pointer, Memory, put, write, read}
use Rattle.source_meaning.specs.State.{State}
use Rattle.source_meaning.specs.Values.{Value, holds, whole, nothing, cell_of, pointer_to, moved_cell, Location}
use Rattle.source_meaning.specs.Expressions.{Context, sizes, dereferenced, object_at, loaded, write_all, stored_in}
use Rattle.source_soundness.specs.Worlds.{World, type_in, is_pointer, ValueFits, PartFits, LocationFits}
use Rattle.source_soundness.specs.Sizes.{object_cells, PointsWithin, Sized, ValueSized, LiesWithin}
use Rattle.source_soundness.proofs.Memories.{equal_blocks, type_is, same_type_in}
use Rattle.source_soundness.proofs.Objects.{plain_part, pointer_part}
use Rattle.source_soundness.proofs.Operators.{Gives}

-- ---- lists of cells

pub set_length : (cells : List Cell) (k : ℕ) (c : Cell) → length (slice_set cells k c) ≡ length cells
set_length [] k c = refl
set_length (x ∷ xs) zero c = refl
set_length (x ∷ xs) (suc k) c = ap suc (set_length xs k c)

-- the first cell, where there is one
set_read : (cells : List Cell) (k : ℕ) (c : Cell) → length cells ≡ 1 → k ≡ 0 → slice_index_or (slice_set cells k c) 0 (number (pos 0)) ≡ c
set_read [] k c h e = absurd (not_one zero h refl)
  where
    not_one : (n : ℕ) → n ≡ 1 → n ≡ zero → ⊥
    not_one n h e = omega (arith, h, e)
set_read (x ∷ xs) k c h e = ap (λ i. slice_index_or (slice_set (x ∷ xs) i c) 0 (number (pos 0))) e

part_length : (n at : ℕ) (cells : List Cell) → at + n ≤ length cells → length (take n (drop at cells)) ≡ n
part_length n at cells h = let rest = length-drop at cells in length-take-le n (drop at cells) (omega (arith, rest, h))

-- ---- sizes

pub elem_object : (ss : List ℕ) (elem : Elem) → object_cells ss (type_of_elem elem) ≡ elem_cells ss elem
elem_object ss (e.Int t) = refl
elem_object ss (e.Struct n) = refl

-- a variable lies in itself
pub whole_within : (w : World) (ss : List ℕ) (b : Block) (a ty : VarTy) → a ≡ ty → type_in w b ≡ Some ty → LiesWithin w ss (record { block = b; cell = 0; ty = a })
whole_within w ss b a ty e live t is = let same : object_cells ss a ≡ object_cells ss t = ap (object_cells ss) (e ∙ same_type_in w b ty t live is) in omega (arith, same)

-- ---- pointers

-- a moved pointer points into the same elements
pub moves_within : (w : World) (ss : List ℕ) (elem : Elem) (amount : ℤ) (c : Cell) → PointsWithin w ss elem c → Gives (PointsWithin w ss elem) (moved_cell amount c)
moves_within w ss elem amount (number v) h = tt
moves_within w ss elem amount null h = tt
moves_within w ss elem amount (pointer block base count index) h = go (moved_index count index amount)
  where
    go : (o : Option ℕ) → Gives (PointsWithin w ss elem) (if_ok (at_index (record { block = block; base = base; count = count; index = index }) o) pointer_to)
    go None = tt
    go (Some i) = h

pub within_of_pointer : (w : World) (ss : List ℕ) (elem : Elem) (fixed : Bool) (v : Value) → ValueSized w ss (Some (Pointer elem fixed)) v → PointsWithin w ss elem (cell_of v)
within_of_pointer w ss elem fixed (holds c) h = h
within_of_pointer w ss elem fixed (whole cells) h = tt
within_of_pointer w ss elem fixed nothing h = tt

-- an element that a pointer reaches lies within
element_fits : (base count index size own all : ℕ) → index < count → own ≡ size → base + count * size ≤ all → base + index * size + own ≤ all
element_fits base count index size own all lt e h =
    let next : suc index ≤ count = omega (arith, lt) in
    let up : suc index * size ≤ count * size = mul-le-mul_right size next in
    let one : suc index * size ≡ index * size + size = suc-mul index size in
    omega (arith, up, one, e, h)

pub pointee_within : (w : World) (c : Context) (elem : Elem) (fixed : Bool) (p : Cell) → PointsWithin w (sizes c) elem p → Gives (LiesWithin w (sizes c)) (dereferenced c (Pointer elem fixed) p)
pointee_within w c elem fixed (number v) h = tt
pointee_within w c elem fixed null h = tt
pointee_within w c elem fixed (pointer block base count index) h = go (nat_lt index count) refl
  where
    go : (b : Bool) → nat_lt index count ≡ b → Gives (LiesWithin w (sizes c)) (if_ok (if b then Ok (block, cell_at (elem_cells (sizes c) elem) base index) else Err Bounds) (object_at (type_of_elem elem)))
    go true lt = λ ty is. element_fits base count index (elem_cells (sizes c) elem) (object_cells (sizes c) (type_of_elem elem)) (object_cells (sizes c) ty) (nat_lt_below index count lt) (elem_object (sizes c) elem) (h ty is)
    go false lt = tt

-- ---- memories

-- what is put at a pointer variable points within
abbrev PutPoints : World → List ℕ → Block → List Cell → Type 0
PutPoints w ss b cells = (elem : Elem) (fixed : Bool) → type_in w b ≡ Some (Pointer elem fixed) → PointsWithin w ss elem (slice_index_or cells 0 (number (pos 0)))

pub put_sized : (w : World) (ss : List ℕ) (m : Memory) (b : Block) (cells : List Cell) → Sized w ss m → ((ty : VarTy) → type_in w b ≡ Some ty → length cells ≡ object_cells ss ty) → PutPoints w ss b cells → Sized w ss (put m b cells)
put_sized w ss m b cells z long points = record {
  cells = λ other ty is. at_cells other ty is (same_block other b) refl;
  pointers = λ other elem fixed is. at_pointer other elem fixed is (same_block other b) refl;
}
  where
    at_cells : (other : Block) (ty : VarTy) → type_in w other ≡ Some ty → (t : Bool) → same_block other b ≡ t → length (if t then cells else m other) ≡ object_cells ss ty
    at_cells other ty is true e = long ty (sym (ap (type_in w) (equal_blocks other b e)) ∙ is)
    at_cells other ty is false e = z.cells other ty is

    at_pointer : (other : Block) (elem : Elem) (fixed : Bool) → type_in w other ≡ Some (Pointer elem fixed) → (t : Bool) → same_block other b ≡ t → PointsWithin w ss elem (slice_index_or (if t then cells else m other) 0 (number (pos 0)))
    at_pointer other elem fixed is true e = points elem fixed (sym (ap (type_in w) (equal_blocks other b e)) ∙ is)
    at_pointer other elem fixed is false e = z.pointers other elem fixed is

-- an object that is no pointer variable may hold what it will
no_pointer : (w : World) (b : Block) (in_ : VarTy) (elem : Elem) (fixed : Bool) → type_in w b ≡ Some in_ → is_pointer in_ ≡ false → type_in w b ≡ Some (Pointer elem fixed) → true ≡ false
no_pointer w b in_ elem fixed live plain is = ap is_pointer (same_type_in w b (Pointer elem fixed) in_ is live) ∙ plain

pub cell_written : (w : World) (ss : List ℕ) (m : Memory) (b : Block) (at : ℕ) (c : Cell) (in_ : VarTy) → Sized w ss m → type_in w b ≡ Some in_ → is_pointer in_ ≡ false → Sized w ss (write m b at c)
cell_written w ss m b at c in_ z live plain =
    put_sized w ss m b (slice_set (m b) at c) z (λ ty is. set_length (m b) at c ∙ z.cells b ty is)
    (λ elem fixed is. false_not_true (sym (no_pointer w b in_ elem fixed live plain is)))

cells_written : (w : World) (ss : List ℕ) (m : Memory) (b : Block) (at : ℕ) (cells : List Cell) (in_ : VarTy) → Sized w ss m → type_in w b ≡ Some in_ → is_pointer in_ ≡ false → Sized w ss (write_all m b at cells)
cells_written w ss m b at [] in_ z live plain = z
cells_written w ss m b at (c ∷ cs) in_ z live plain = cells_written w ss (write m b at c) b (at + 1) cs in_ (cell_written w ss m b at c in_ z live plain) live plain

-- a pointer is written to its variable
pointer_written : (w : World) (ss : List ℕ) (m : Memory) (b : Block) (at : ℕ) (c : Cell) (elem : Elem) (fixed : Bool) → Sized w ss m → type_in w b ≡ Some (Pointer elem fixed) → at ≡ 0 → PointsWithin w ss elem c → Sized w ss (write m b at c)
pointer_written w ss m b at c elem fixed z live first h =
    put_sized w ss m b (slice_set (m b) at c) z (λ ty is. set_length (m b) at c ∙ z.cells b ty is)
    (λ other g is. subst (λ x. PointsWithin w ss other x) (sym (set_read (m b) at c (z.cells b (Pointer elem fixed) live) first)) (subst (λ x. PointsWithin w ss x c) (same_elem elem fixed other g (same_type_in w b (Pointer elem fixed) (Pointer other g) live is)) h))
  where
    same_elem : (a : Elem) (f : Bool) (b : Elem) (g : Bool) → Pointer a f ≡ Pointer b g → a ≡ b
    same_elem a f b g e = cc

-- ---- objects

loaded_as : (w : World) (c : Context) (at : Location) (st : State) (in_ ty : VarTy) → Sized w (sizes c) st.memory → type_in w at.block ≡ Some in_ → PartFits at.cell in_ ty → at.cell + object_cells (sizes c) ty ≤ object_cells (sizes c) in_ → ValueSized w (sizes c) (Some ty) (loaded c at ty st)
loaded_as w c at st in_ (Int t) z live part lies = tt
loaded_as w c at st in_ (Struct n) z live part lies = let long = z.cells at.block in_ live in part_length (cells_by (sizes c) (Struct n)) at.cell (st.memory at.block) (omega (arith, long, lies))
loaded_as w c at st in_ (Array elem count) z live part lies = tt
loaded_as w c at st in_ (Pointer elem fixed) z live part lies =
    let p = pointer_part at.cell in_ (Pointer elem fixed) part refl in
    subst (λ i. PointsWithin w (sizes c) elem (read st.memory at.block i)) (sym p.first) (z.pointers at.block elem fixed (live ∙ ap Some p.whole_is))

pub loaded_sized : (w : World) (c : Context) (at : Location) (st : State) (ty : VarTy) → LocationFits w (Some ty) at → LiesWithin w (sizes c) at → Sized w (sizes c) st.memory → ValueSized w (sizes c) (Some ty) (loaded c at at.ty st)
loaded_sized w c at st ty l lies z =
    subst (λ t. ValueSized w (sizes c) (Some t) (loaded c at at.ty st)) (sym (type_is ty at.ty l.has)) (loaded_as w c at st l.in_ at.ty z l.live l.part (lies l.in_ l.live))

pub plain_stored : (w : World) (ss : List ℕ) (m : Memory) (at : Location) (v : Value) (in_ : VarTy) → Sized w ss m → type_in w at.block ≡ Some in_ → is_pointer in_ ≡ false → Sized w ss (stored_in m at v)
plain_stored w ss m at (holds c) in_ z live plain = cell_written w ss m at.block at.cell c in_ z live plain
plain_stored w ss m at (whole cells) in_ z live plain = cells_written w ss m at.block at.cell cells in_ z live plain
plain_stored w ss m at nothing in_ z live plain = z

stored_as : (w : World) (ss : List ℕ) (m : Memory) (at : Location) (v : Value) (in_ ty : VarTy) → Sized w ss m → type_in w at.block ≡ Some in_ → PartFits at.cell in_ ty → ValueFits w (Some ty) v → ValueSized w ss (Some ty) v → Sized w ss (stored_in m at v)
stored_as w ss m at v in_ (Int t) z live part fit size = plain_stored w ss m at v in_ z live (plain_part at.cell in_ (Int t) part refl)
stored_as w ss m at v in_ (Struct n) z live part fit size = plain_stored w ss m at v in_ z live (plain_part at.cell in_ (Struct n) part refl)
stored_as w ss m at v in_ (Array elem count) z live part fit size = plain_stored w ss m at v in_ z live (plain_part at.cell in_ (Array elem count) part refl)
stored_as w ss m at v in_ (Pointer elem fixed) z live part fit size =
    let p = pointer_part at.cell in_ (Pointer elem fixed) part refl in
    subst (λ x. Sized w ss (stored_in m at x)) (sym fit.1)
    (pointer_written w ss m at.block at.cell fit.0 elem fixed z (live ∙ ap Some p.whole_is) p.first (subst (λ x. ValueSized w ss (Some (Pointer elem fixed)) x) fit.1 size))

pub stored_sized : (w : World) (ss : List ℕ) (m : Memory) (at : Location) (v : Value) (ty : VarTy) → LocationFits w (Some ty) at → ValueFits w (Some ty) v → ValueSized w ss (Some ty) v → Sized w ss m → Sized w ss (stored_in m at v)
stored_sized w ss m at v ty l fit size z =
    let same = type_is ty at.ty l.has in
    stored_as w ss m at v l.in_ at.ty z l.live l.part (subst (λ t. ValueFits w (Some t) v) same fit) (subst (λ t. ValueSized w ss (Some t) v) same size)
