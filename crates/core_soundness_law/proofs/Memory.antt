-- What keeps that the memory fits: one block is put in the place of another of its types.
use Rattle.std.proofs.Common.{◌≡◌, ◌∙◌, ◌≤◌, ℕ, zero, suc, ◌+◌, pos, nat_eq, refl, ap, sym, subst, arith, Bool, true, false, Option, Some, None, List, [], ◌∷◌, length, if◌then◌else◌}
use Rattle.std.specs.Prelude.{slice_get, slice_set, take, drop, replicate}
use Rattle.std.specs.Map.{lookup}
use Rattle.pt_base.specs.declared.int_type.IntType.{IntType}
use Rattle.pt_base.proofs.Numbers.{as_plus_one}
use Rattle.pt_tree.specs.declared.signature.Elem.{Elem}
use Rattle.typed_tree.specs.declared.types.VarTy.{VarTy}
use Rattle.typed_tree.specs.declared.types.VarTy.TheVariants.{Int, Struct, Array, Pointer}
use Rattle.typed_tree.specs.declared.types.StructInfo.{StructInfo}
use Rattle.typed_tree.specs.Cells.{leaves_of, repeated}
use Rattle.typed_tree.specs.TypeTests.{type_of_elem}
use Rattle.block_memory.specs.declared.cell.Cell.{Cell}
use Rattle.block_memory.specs.declared.cell.Cell.TheVariants as cell
use Rattle.block_memory.specs.declared.cell.Pointer.TheVariants as pointer
use Rattle.block_memory.specs.declared.cell.BlockName.{BlockName}
use Rattle.block_memory.specs.declared.cell.BlockName.TheVariants.{Local, Global, Received}
use Rattle.block_memory.specs.Block.{Block, no_block, fresh, with_cell}
use Rattle.block_memory.specs.Blocks.{Blocks, is_same_name, put}
use Rattle.block_memory.proofs.BlocksLemmas.{is_same_name-self, same_name}
use Rattle.pt_core.specs.CodeTree.{ProgramTree}
use Rattle.pt_core.specs.Types.{shape_of}
use Rattle.pt_core.specs.Values.{written, all_written}
use Rattle.pt_core.specs.Calls.{context_in}
use Rattle.pt_core.specs.Steps.{Active}
use Rattle.core_soundness_law.specs.Kept.{Kept}
use Rattle.core_soundness_law.specs.Fits.{IntegerFits, IntegersFit, BeginsWith, LieAt, depth_of, PointerFits, HasPointer, BlockFits, LocalFits, variables_at, MemoryFits}
use Rattle.core_soundness_law.proofs.Numbers.{zero_fits}

-- ---- pointers see the types of blocks alone

-- up to this depth the blocks have the same types
abbrev pub SameTypes : Blocks → Blocks → ℕ → Type 0
SameTypes blocks others depth = (b : BlockName) → depth_of b ≤ depth → (blocks b).types ≡ (others b).types

pub pointer_stays : (structs : List StructInfo) (blocks others : Blocks) (depth : ℕ) (elem : Elem) (v : Cell) → SameTypes blocks others depth → PointerFits structs blocks depth elem v → PointerFits structs others depth elem v
pointer_stays structs blocks others depth elem (cell.Int v) same f = f
pointer_stays structs blocks others depth elem (cell.Sealed h) same f = f
pointer_stays structs blocks others depth elem (cell.Ptr pointer.Null) same f = f
pointer_stays structs blocks others depth elem (cell.Ptr (pointer.At block base count index)) same f = record {
  near = f.near;
  some = f.some;
  few = f.few;
  within = f.within;
  types = subst (λ ts. LieAt ts base (repeated count (leaves_of structs (type_of_elem elem)))) (same block f.near) f.types;
}

-- a deeper function may hold what a shallower one may
pub pointer_deeper : (structs : List StructInfo) (blocks : Blocks) (depth deeper : ℕ) (elem : Elem) (v : Cell) → depth ≤ deeper → PointerFits structs blocks depth elem v → PointerFits structs blocks deeper elem v
pointer_deeper structs blocks depth deeper elem (cell.Int v) less f = f
pointer_deeper structs blocks depth deeper elem (cell.Sealed h) less f = f
pointer_deeper structs blocks depth deeper elem (cell.Ptr pointer.Null) less f = f
pointer_deeper structs blocks depth deeper elem (cell.Ptr (pointer.At block base count index)) less f =
    record { near = further f.near less; some = f.some; few = f.few; within = f.within; types = f.types }
  where
    further : {a b c : ℕ} → a ≤ b → b ≤ c → a ≤ c
    further h k = omega (arith, h, k)

pub block_stays : (kept : Kept) (structs : List StructInfo) (blocks others : Blocks) (depth : ℕ) (ty : VarTy) (block : Block) → SameTypes blocks others depth → BlockFits kept structs blocks depth ty block → BlockFits kept structs others depth ty block
block_stays kept structs blocks others depth (Int t) block same f = f
block_stays kept structs blocks others depth (Struct n) block same f = f
block_stays kept structs blocks others depth (Array elem count) block same f = f
block_stays kept structs blocks others depth (Pointer elem fixed) block same f = record { none = f.none; held = f.held; cells = f.cells; fits = pointer_stays structs blocks others depth elem f.held same f.fits }

pub local_stays : (kept : Kept) (structs : List StructInfo) (blocks others : Blocks) (depth : ℕ) (o : Option VarTy) (block : Block) → SameTypes blocks others depth → LocalFits kept structs blocks depth o block → LocalFits kept structs others depth o block
local_stays kept structs blocks others depth None block same f = f
local_stays kept structs blocks others depth (Some ty) block same f = block_stays kept structs blocks others depth ty block same f

-- ---- one block is replaced

abbrev block_of : List IntType → List Cell → Block
block_of types cells = record { types = types; cells = cells }

-- the block may stand under the name
abbrev pub Suits : Kept → ProgramTree → List Active → Blocks → BlockName → Block → Type 0
Suits kept program active blocks (Local depth v) block = LocalFits kept program.structs blocks depth (slice_get (variables_at program active depth) v) block
Suits kept program active blocks (Global g) block = IntegersFit kept block.types block.cells
Suits kept program active blocks (Received n) block = IntegersFit kept block.types block.cells

abbrev types_in : Block → List IntType
types_in block = block.types

-- integers of no types are none
pub emptied : (kept : Kept) (block : Block) → block.types ≡ [] → IntegersFit kept block.types block.cells → block ≡ no_block
emptied kept block none fits = go block.types block.cells none fits
  where
    go : (types : List IntType) (cells : List Cell) → types ≡ [] → IntegersFit kept types cells → block_of types cells ≡ no_block
    go [] [] e f = refl
    go [] (c ∷ cells) e f = elim f [ ]
    go (t ∷ types) cells e f = cc

pub replaced : (kept : Kept) (program : ProgramTree) (active : List Active) (blocks : Blocks) (name : BlockName) (block : Block) → MemoryFits kept program active blocks → block.types ≡ (blocks name).types → Suits kept program active blocks name block → MemoryFits kept program active (put blocks name block)
replaced kept program active blocks name block mem types suits = record {
  locals = λ depth v. local_stays kept program.structs blocks (put blocks name block) depth (slice_get (variables_at program active depth) v) (put blocks name block (Local depth v)) (λ b _. same b)
      (at_local depth v (is_same_name name (Local depth v)) refl);
  globals = λ g ty is. sym (same (Global g)) ∙ mem.globals g ty is;
  global_cells = λ g. at_global g (is_same_name name (Global g)) refl;
  received_cells = λ n. at_received n (is_same_name name (Received n)) refl;
  beyond = λ g unknown. at_unknown g unknown (is_same_name name (Global g)) refl;
}
  where
    same : (b : BlockName) → (blocks b).types ≡ (put blocks name block b).types
    same b = go (is_same_name name b) refl
      where
        go : (t : Bool) → is_same_name name b ≡ t → (blocks b).types ≡ (if t then block else blocks b).types
        go true h = ap (λ n. (blocks n).types) (sym (same_name name b h)) ∙ sym types
        go false h = refl

    at_local : (depth v : ℕ) (t : Bool) → is_same_name name (Local depth v) ≡ t → LocalFits kept program.structs blocks depth (slice_get (variables_at program active depth) v) (if t then block else blocks (Local depth v))
    at_local depth v true h = subst (λ n. Suits kept program active blocks n block) (same_name name (Local depth v) h) suits
    at_local depth v false h = mem.locals depth v

    at_global : (g : ℕ) (t : Bool) → is_same_name name (Global g) ≡ t → IntegersFit kept (if t then block else blocks (Global g)).types (if t then block else blocks (Global g)).cells
    at_global g true h = subst (λ n. Suits kept program active blocks n block) (same_name name (Global g) h) suits
    at_global g false h = mem.global_cells g

    at_received : (n : ℕ) (t : Bool) → is_same_name name (Received n) ≡ t → IntegersFit kept (if t then block else blocks (Received n)).types (if t then block else blocks (Received n)).cells
    at_received n true h = subst (λ k. Suits kept program active blocks k block) (same_name name (Received n) h) suits
    at_received n false h = mem.received_cells n

    at_unknown : (g : ℕ) → lookup (nat_eq g) (context_in program 0).globals ≡ None → (t : Bool) → is_same_name name (Global g) ≡ t → (if t then block else blocks (Global g)) ≡ no_block
    at_unknown g unknown true h = emptied kept block (types ∙ ap (λ k. (blocks k).types) (same_name name (Global g) h) ∙ ap types_in (mem.beyond g unknown)) (subst (λ n. Suits kept program active blocks n block) (same_name name (Global g) h) suits)
    at_unknown g unknown false h = mem.beyond g unknown

-- ---- a cell is written

integers_written : (kept : Kept) (types : List IntType) (cells : List Cell) (n : ℕ) (t : IntType) (c : Cell) → IntegersFit kept types cells → LieAt types n (t ∷ []) → IntegerFits kept t c → IntegersFit kept types (slice_set cells n c)
integers_written kept [] cells zero t c fit h f = elim h [ ]
integers_written kept [] cells (suc n) t c fit h f = elim h [ ]
integers_written kept (x ∷ types) [] n t c fit h f = elim fit [ ]
integers_written kept (x ∷ types) (d ∷ cells) zero t c fit h f = (subst (λ u. IntegerFits kept u c) (sym h.0) f, fit.1)
integers_written kept (x ∷ types) (d ∷ cells) (suc n) t c fit h f = (fit.0, integers_written kept types cells n t c fit.1 h f)

nowhere : (block : Block) (n : ℕ) (t : IntType) (X : Type 0) → block.types ≡ [] → LieAt block.types n (t ∷ []) → X
nowhere block n t X none h = go n (subst (λ ts. LieAt ts n (t ∷ [])) none h)
  where
    go : (n : ℕ) → LieAt [] n (t ∷ []) → X
    go zero h = elim h [ ]
    go (suc n) h = elim h [ ]

local_written : (kept : Kept) (structs : List StructInfo) (blocks : Blocks) (depth : ℕ) (o : Option VarTy) (block : Block) (n : ℕ) (t : IntType) (c : Cell) → LocalFits kept structs blocks depth o block → LieAt block.types n (t ∷ []) → IntegerFits kept t c →
    LocalFits kept structs blocks depth o (with_cell block n c)
local_written kept structs blocks depth None block n t c fit h f = nowhere block n t _ (ap types_in fit) h
local_written kept structs blocks depth (Some (Int u)) block n t c fit h f = record { types_are = fit.types_are; cells = integers_written kept block.types block.cells n t c fit.cells h f }
local_written kept structs blocks depth (Some (Struct m)) block n t c fit h f = record { types_are = fit.types_are; cells = integers_written kept block.types block.cells n t c fit.cells h f }
local_written kept structs blocks depth (Some (Array elem count)) block n t c fit h f = record { types_are = fit.types_are; cells = integers_written kept block.types block.cells n t c fit.cells h f }
local_written kept structs blocks depth (Some (Pointer elem fixed)) block n t c fit h f = nowhere block n t _ fit.none h

pub integer_written : (kept : Kept) (program : ProgramTree) (active : List Active) (blocks : Blocks) (name : BlockName) (n : ℕ) (t : IntType) (c : Cell) → MemoryFits kept program active blocks → LieAt (blocks name).types n (t ∷ []) → IntegerFits kept t c →
    MemoryFits kept program active (written blocks name n c)
integer_written kept program active blocks name n t c mem h f = replaced kept program active blocks name (with_cell (blocks name) n c) mem refl (go name h)
  where
    go : (name : BlockName) → LieAt (blocks name).types n (t ∷ []) → Suits kept program active blocks name (with_cell (blocks name) n c)
    go (Local depth v) h = local_written kept program.structs blocks depth (slice_get (variables_at program active depth) v) (blocks (Local depth v)) n t c (mem.locals depth v) h f
    go (Global g) h = integers_written kept (blocks (Global g)).types (blocks (Global g)).cells n t c (mem.global_cells g) h f
    go (Received k) h = integers_written kept (blocks (Received k)).types (blocks (Received k)).cells n t c (mem.received_cells k) h f

-- ---- all cells of an object

begins_first : (types : List IntType) (t : IntType) (ts : List IntType) → BeginsWith types (t ∷ ts) → BeginsWith types (t ∷ [])
begins_first [] t ts h = elim h [ ]
begins_first (x ∷ types) t ts h = (h.0, tt {0})

first_lies : (types : List IntType) (n : ℕ) (t : IntType) (ts : List IntType) → LieAt types n (t ∷ ts) → LieAt types n (t ∷ [])
first_lies types zero t ts h = begins_first types t ts h
first_lies [] (suc n) t ts h = elim h [ ]
first_lies (x ∷ types) (suc n) t ts h = first_lies types n t ts h

rest_begins : (types : List IntType) (t : IntType) (ts : List IntType) → BeginsWith types (t ∷ ts) → LieAt types (suc zero) ts
rest_begins [] t ts h = elim h [ ]
rest_begins (x ∷ types) t ts h = h.1

rest_lies : (types : List IntType) (n : ℕ) (t : IntType) (ts : List IntType) → LieAt types n (t ∷ ts) → LieAt types (suc n) ts
rest_lies types zero t ts h = rest_begins types t ts h
rest_lies [] (suc n) t ts h = elim h [ ]
rest_lies (x ∷ types) (suc n) t ts h = rest_lies types n t ts h

types_kept : (blocks : Blocks) (name : BlockName) (n : ℕ) (c : Cell) → (blocks name).types ≡ (written blocks name n c name).types
types_kept blocks name n c = ap (λ t. (if t then with_cell (blocks name) n c else blocks name).types) (sym (is_same_name-self name))

pub integers_all_written : (kept : Kept) (program : ProgramTree) (active : List Active) (blocks : Blocks) (name : BlockName) (n : ℕ) (ts : List IntType) (cs : List Cell) → MemoryFits kept program active blocks → LieAt (blocks name).types n ts → IntegersFit kept ts cs →
    MemoryFits kept program active (all_written blocks name n cs)
integers_all_written kept program active blocks name n [] [] mem h f = mem
integers_all_written kept program active blocks name n [] (c ∷ cs) mem h f = elim f [ ]
integers_all_written kept program active blocks name n (t ∷ ts) [] mem h f = elim f [ ]
integers_all_written kept program active blocks name n (t ∷ ts) (c ∷ cs) mem h f =
    integers_all_written kept program active (written blocks name n c) name (n + 1) ts cs (integer_written kept program active blocks name n t c mem (first_lies (blocks name).types n t ts h) f.0)
    (subst (λ xs. LieAt xs (n + 1) ts) (types_kept blocks name n c) (subst (λ k. LieAt (blocks name).types k ts) (as_plus_one n) (rest_lies (blocks name).types n t ts h))) f.1

-- the cells where types lie fit them
taken_fit : (kept : Kept) (types ts : List IntType) (cells : List Cell) → IntegersFit kept types cells → BeginsWith types ts → IntegersFit kept ts (take (length ts) cells)
taken_fit kept types [] cells f h = tt {0}
taken_fit kept [] (t ∷ ts) cells f h = elim h [ ]
taken_fit kept (x ∷ types) (t ∷ ts) [] f h = elim f [ ]
taken_fit kept (x ∷ types) (t ∷ ts) (c ∷ cells) f h = (subst (λ u. IntegerFits kept u c) h.0 f.0, taken_fit kept types ts cells f.1 h.1)

pub cells_fit : (kept : Kept) (types : List IntType) (cells : List Cell) (n : ℕ) (ts : List IntType) → IntegersFit kept types cells → LieAt types n ts → IntegersFit kept ts (take (length ts) (drop n cells))
cells_fit kept types cells zero ts f h = taken_fit kept types ts cells f h
cells_fit kept [] cells (suc n) ts f h = elim h [ ]
cells_fit kept (x ∷ types) [] (suc n) ts f h = elim f [ ]
cells_fit kept (x ∷ types) (c ∷ cells) (suc n) ts f h = cells_fit kept types cells n ts f.1 h

none_fit : (kept : Kept) (ts : List IntType) (cells : List Cell) (n : ℕ) → LieAt [] n ts → IntegersFit kept ts (take (length ts) (drop n cells))
none_fit kept [] cells n h = tt {0}
none_fit kept (t ∷ ts) cells zero h = elim h [ ]
none_fit kept (t ∷ ts) cells (suc n) h = elim h [ ]

pub object_cells_fit : (kept : Kept) (program : ProgramTree) (active : List Active) (blocks : Blocks) (name : BlockName) (n : ℕ) (ts : List IntType) → MemoryFits kept program active blocks → LieAt (blocks name).types n ts → IntegersFit kept ts (take (length ts) (drop n (blocks name).cells))
object_cells_fit kept program active blocks (Global g) n ts mem h = cells_fit kept (blocks (Global g)).types (blocks (Global g)).cells n ts (mem.global_cells g) h
object_cells_fit kept program active blocks (Received k) n ts mem h = cells_fit kept (blocks (Received k)).types (blocks (Received k)).cells n ts (mem.received_cells k) h
object_cells_fit kept program active blocks (Local depth v) n ts mem h = go (slice_get (variables_at program active depth) v) (mem.locals depth v)
  where
    go : (o : Option VarTy) → LocalFits kept program.structs blocks depth o (blocks (Local depth v)) → IntegersFit kept ts (take (length ts) (drop n (blocks (Local depth v)).cells))
    go None f = none_fit kept ts (blocks (Local depth v)).cells n (subst (λ xs. LieAt xs n ts) (ap types_in f) h)
    go (Some (Int t)) f = cells_fit kept (blocks (Local depth v)).types (blocks (Local depth v)).cells n ts f.cells h
    go (Some (Struct m)) f = cells_fit kept (blocks (Local depth v)).types (blocks (Local depth v)).cells n ts f.cells h
    go (Some (Array elem count)) f = cells_fit kept (blocks (Local depth v)).types (blocks (Local depth v)).cells n ts f.cells h
    go (Some (Pointer elem fixed)) f = none_fit kept ts (blocks (Local depth v)).cells n (subst (λ xs. LieAt xs n ts) f.none h)

-- ---- fresh blocks

zeros_fit : (kept : Kept) (ts : List IntType) → IntegersFit kept ts (replicate (length ts) (cell.Int (pos 0)))
zeros_fit kept [] = tt {0}
zeros_fit kept (t ∷ ts) = (zero_fits kept t, zeros_fit kept ts)

pub fresh_fits : (kept : Kept) (structs : List StructInfo) (blocks : Blocks) (depth : ℕ) (ty : VarTy) → BlockFits kept structs blocks depth ty (fresh (shape_of structs ty))
fresh_fits kept structs blocks depth (Int t) = record { types_are = refl; cells = zeros_fit kept (leaves_of structs (Int t)) }
fresh_fits kept structs blocks depth (Struct n) = record { types_are = refl; cells = zeros_fit kept (leaves_of structs (Struct n)) }
fresh_fits kept structs blocks depth (Array elem count) = record { types_are = refl; cells = zeros_fit kept (leaves_of structs (Array elem count)) }
fresh_fits kept structs blocks depth (Pointer elem fixed) = record { none = refl; held = cell.Ptr pointer.Null; cells = refl; fits = tt {0} }

pub types_of_block : (kept : Kept) (structs : List StructInfo) (blocks : Blocks) (depth : ℕ) (ty : VarTy) (a b : Block) → BlockFits kept structs blocks depth ty a → BlockFits kept structs blocks depth ty b → a.types ≡ b.types
types_of_block kept structs blocks depth (Int t) a b f g = f.types_are ∙ sym g.types_are
types_of_block kept structs blocks depth (Struct n) a b f g = f.types_are ∙ sym g.types_are
types_of_block kept structs blocks depth (Array elem count) a b f g = f.types_are ∙ sym g.types_are
types_of_block kept structs blocks depth (Pointer elem fixed) a b f g = f.none ∙ sym g.none

-- ---- values go to places

pub pointer_written : (kept : Kept) (program : ProgramTree) (active : List Active) (blocks : Blocks) (depth v : ℕ) (elem : Elem) (fixed : Bool) (c : Cell) → MemoryFits kept program active blocks → slice_get (variables_at program active depth) v ≡ Some (Pointer elem fixed) →
    PointerFits program.structs blocks depth elem c → MemoryFits kept program active (written blocks (Local depth v) 0 c)
pointer_written kept program active blocks depth v elem fixed c mem is f = replaced kept program active blocks (Local depth v) (with_cell (blocks (Local depth v)) 0 c) mem refl
    (subst (λ o. LocalFits kept program.structs blocks depth o (with_cell (blocks (Local depth v)) 0 c)) (sym is) (go (subst (λ o. LocalFits kept program.structs blocks depth o (blocks (Local depth v))) is (mem.locals depth v))))
  where
    go : HasPointer program.structs blocks depth elem (blocks (Local depth v)) → HasPointer program.structs blocks depth elem (with_cell (blocks (Local depth v)) 0 c)
    go h = record { none = h.none; held = c; cells = ap (λ cs. slice_set cs 0 c) h.cells; fits = f }
