-- Where more handles stand for numbers, what fits goes on fitting.
use Rattle.std.proofs.Common.{ℕ, zero, suc, refl, List, [], ◌∷◌, Option, Some, None}
use Rattle.std.specs.Prelude.{slice_get}
use Rattle.pt_base.specs.declared.int_type.IntType.{IntType}
use Rattle.pt_tree.specs.declared.signature.Param.{Param}
use Rattle.typed_tree.specs.declared.types.VarTy.{VarTy}
use Rattle.typed_tree.specs.declared.types.VarTy.TheVariants.{Int, Struct, Array, Pointer}
use Rattle.typed_tree.specs.declared.types.StructInfo.{StructInfo}
use Rattle.typed_tree.specs.WellFormedExpression.{param_type}
use Rattle.block_memory.specs.declared.cell.Cell.{Cell}
use Rattle.block_memory.specs.declared.cell.Cell.TheVariants as cell
use Rattle.block_memory.specs.declared.cell.BlockName.TheVariants.{Local, Global, Received}
use Rattle.block_memory.specs.Block.{Block}
use Rattle.block_memory.specs.Blocks.{Blocks}
use Rattle.pt_core.specs.CodeTree.{ProgramTree}
use Rattle.pt_core.specs.Steps.{Active}
use Rattle.core_soundness_law.specs.Kept.{Kept, IsWithin}
use Rattle.core_soundness_law.specs.Fits.{IntegerFits, IntegersFit, ValueFits, LocalFits, variables_at, MemoryFits}
use Rattle.core_soundness_law.specs.Outside.{ArgumentsFit, GivenFits, MoreIsKept, TypesTell}

pub integer_more : (kept more : Kept) (t : IntType) (c : Cell) → IsWithin kept more → IntegerFits kept t c → IntegerFits more t c
integer_more kept more t (cell.Int v) within f = f
integer_more kept more t (cell.Ptr p) within f = f
integer_more kept more t (cell.Sealed h) within f = within t h f

pub integers_more : (kept more : Kept) (ts : List IntType) (cs : List Cell) → IsWithin kept more → IntegersFit kept ts cs → IntegersFit more ts cs
integers_more kept more [] [] within f = f
integers_more kept more [] (c ∷ cs) within f = f
integers_more kept more (t ∷ ts) [] within f = f
integers_more kept more (t ∷ ts) (c ∷ cs) within f = (integer_more kept more t c within f.0, integers_more kept more ts cs within f.1)

pub value_more : (kept more : Kept) (structs : List StructInfo) (blocks : Blocks) (depth : ℕ) (ty : VarTy) (v : Cell) → IsWithin kept more → ValueFits kept structs blocks depth ty v → ValueFits more structs blocks depth ty v
value_more kept more structs blocks depth (Int t) v within f = integer_more kept more t v within f
value_more kept more structs blocks depth (Struct n) v within f = f
value_more kept more structs blocks depth (Array elem count) v within f = f
value_more kept more structs blocks depth (Pointer elem fixed) v within f = f

pub arguments_more : (kept more : Kept) (structs : List StructInfo) (blocks : Blocks) (depth : ℕ) (ps : List Param) (vs : List Cell) → IsWithin kept more → ArgumentsFit kept structs blocks depth ps vs → ArgumentsFit more structs blocks depth ps vs
arguments_more kept more structs blocks depth [] [] within f = f
arguments_more kept more structs blocks depth [] (v ∷ vs) within f = f
arguments_more kept more structs blocks depth (p ∷ ps) [] within f = f
arguments_more kept more structs blocks depth (p ∷ ps) (v ∷ vs) within f =
    (value_more kept more structs blocks depth (param_type p.kind) v within f.0, arguments_more kept more structs blocks depth ps vs within f.1)

pub given_more : (kept more : Kept) (result : Option IntType) (v : Option Cell) → IsWithin kept more → GivenFits kept result v → GivenFits more result v
given_more kept more None None within f = f
given_more kept more None (Some v) within f = f
given_more kept more (Some t) None within f = f
given_more kept more (Some t) (Some v) within f = integer_more kept more t v within f

local_more : (kept more : Kept) (structs : List StructInfo) (blocks : Blocks) (depth : ℕ) (o : Option VarTy) (b : Block) → IsWithin kept more → LocalFits kept structs blocks depth o b → LocalFits more structs blocks depth o b
local_more kept more structs blocks depth None b within f = f
local_more kept more structs blocks depth (Some (Int t)) b within f = record { types_are = f.types_are; cells = integers_more kept more b.types b.cells within f.cells }
local_more kept more structs blocks depth (Some (Struct n)) b within f = record { types_are = f.types_are; cells = integers_more kept more b.types b.cells within f.cells }
local_more kept more structs blocks depth (Some (Array elem count)) b within f = record { types_are = f.types_are; cells = integers_more kept more b.types b.cells within f.cells }
local_more kept more structs blocks depth (Some (Pointer elem fixed)) b within f = f

pub memory_more : (kept more : Kept) (program : ProgramTree) (active : List Active) (blocks : Blocks) → IsWithin kept more → MemoryFits kept program active blocks → MemoryFits more program active blocks
memory_more kept more program active blocks within mem = record {
  locals = λ depth v. local_more kept more program.structs blocks depth (slice_get (variables_at program active depth) v) (blocks (Local depth v)) within (mem.locals depth v);
  globals = mem.globals;
  global_cells = λ g. integers_more kept more (blocks (Global g)).types (blocks (Global g)).cells within (mem.global_cells g);
  received_cells = λ n. integers_more kept more (blocks (Received n)).types (blocks (Received n)).cells within (mem.received_cells n);
  beyond = mem.beyond;
}

pub more_is_kept : MoreIsKept
more_is_kept kept more monitor program m within fits = record { memory = memory_more kept more program m.active m.blocks within fits.memory; active = fits.active; awaited = fits.awaited }

-- ---- stores

pub types_tell : TypesTell
types_tell [] t handle = refl
types_tell (entry ∷ store) t zero = refl
types_tell (entry ∷ store) t (suc handle) = types_tell store t handle
