-- What a call sends: its arguments, and each block that they point into, whole and once.
use Rattle.std.specs.Prelude.{ℕ, suc, pos, List, [], ◌∷◌, ◌++◌, Bool, true, false, not, ◌&&◌, map, if◌then◌else◌}
use Rattle.std.specs.List.{list_any, zip}
use Rattle.pt_base.specs.declared.int_type.IntType.{IntType}
use Rattle.pt_tree.specs.declared.signature.Param.{Param}
use Rattle.block_memory.specs.declared.cell.Cell.{Cell}
use Rattle.block_memory.specs.declared.cell.Cell.TheVariants.{Int, Ptr, Sealed}
use Rattle.block_memory.specs.declared.cell.Pointer.TheVariants.{Null, At}
use Rattle.block_memory.specs.declared.cell.BlockName.{BlockName}
use Rattle.block_memory.specs.Block.{Block}
use Rattle.block_memory.specs.Blocks.{Blocks, is_same_name}
use Rattle.wire.specs.declared.cell.Arg.{Arg}
use Rattle.wire.specs.declared.cell.Arg.TheVariants as argument
use Rattle.wire.specs.declared.cell.WireCell.{WireCell}
use Rattle.wire.specs.declared.cell.WireCell.TheVariants as wire
use Rattle.wire.specs.declared.message.CallBody.{CallBody}

-- ---- blocks by first use

abbrev pub is_among : List BlockName → BlockName → Bool
is_among names name = list_any (λ n. is_same_name n name) names

abbrev pub with_name : List BlockName → BlockName → List BlockName
with_name names name = if is_among names name then names else names ++ name ∷ []

-- the names, with that of the block into which the argument points
abbrev pub with_target : List BlockName → Cell → List BlockName
with_target names (Int v) = names
with_target names (Ptr Null) = names
with_target names (Ptr (At block base count index)) = with_name names block
with_target names (Sealed handle) = names

abbrev pub names_from : List BlockName → List Cell → List BlockName
names_from names [] = names
names_from names (c ∷ args) = names_from (with_target names c) args

-- the blocks into which the arguments point, each once, in the order of the first arguments that do
abbrev pub names_of : List Cell → List BlockName
names_of args = names_from [] args

-- no name comes twice
abbrev pub are_distinct : List BlockName → Bool
are_distinct [] = true
are_distinct (n ∷ names) = not (is_among names n) && are_distinct names

-- the argument points into a block
abbrev pub points : Cell → Bool
points (Int v) = false
points (Ptr Null) = false
points (Ptr (At block base count index)) = true
points (Sealed handle) = false

-- the place of a name among the names
abbrev pub number_of : List BlockName → BlockName → ℕ
number_of [] name = 0
number_of (n ∷ names) name = if is_same_name n name then 0 else suc (number_of names name)

-- ---- arguments and cells as they are sent

-- A handle is sent where the parameter is marked, and stands for 0 elsewhere. Pointers keep all but their block's name.
abbrev pub packed_argument : List BlockName → Param → Cell → Arg
packed_argument names p (Int v) = argument.Number v
packed_argument names p (Ptr Null) = argument.Null
packed_argument names p (Ptr (At block base count index)) = argument.At (number_of names block) base count index
packed_argument names p (Sealed handle) = if p.marked then argument.Sealed handle else argument.Number (pos 0)

abbrev pub packed_arguments : List BlockName → List Param → List Cell → List Arg
packed_arguments names params args = map (λ given. packed_argument names given.0 given.1) (zip params args)

-- a cell of integers, where no pointer stands
abbrev pub packed_cell : Cell → WireCell
packed_cell (Int v) = wire.Number v
packed_cell (Ptr p) = wire.Number (pos 0)
packed_cell (Sealed handle) = wire.Sealed handle

abbrev pub packed_typed : IntType × Cell → IntType × WireCell
packed_typed typed = (typed.0, packed_cell typed.1)

abbrev pub packed_block : Block → List (IntType × WireCell)
packed_block block = map packed_typed (zip block.types block.cells)

-- the body of a call with these arguments
abbrev pub packed : Blocks → List Param → List Cell → CallBody
packed blocks params args = record {
  args = packed_arguments (names_of args) params args;
  blocks = map (λ name. packed_block (blocks name)) (names_of args);
}
