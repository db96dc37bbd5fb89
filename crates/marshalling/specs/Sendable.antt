-- When a memory with arguments may be sent: each value is of its type, and each handle stands where one may stand and is
-- one of the receiver's store, for a number of that type.
use Rattle.std.specs.Prelude.{List, [], ◌∷◌, Bool, true, false, ◌&&◌, slice_get, nat_le}
use Rattle.std.specs.List.{list_all}
use Rattle.pt_base.specs.declared.int_type.IntType.{IntType}
use Rattle.pt_int.specs.Conversion.{is_in_range}
use Rattle.pt_tree.specs.declared.signature.Param.{Param}
use Rattle.pt_tree.specs.declared.signature.ParamKind.{ParamKind}
use Rattle.pt_tree.specs.declared.signature.ParamKind.TheVariants as kind
use Rattle.typed_tree.specs.declared.types.StructInfo.{StructInfo}
use Rattle.block_memory.specs.declared.cell.Cell.{Cell}
use Rattle.block_memory.specs.declared.cell.Cell.TheVariants.{Int, Ptr, Sealed}
use Rattle.block_memory.specs.declared.cell.Pointer.TheVariants.{Null, At}
use Rattle.block_memory.specs.Blocks.{Blocks}
use Rattle.wire.specs.declared.cell.WireCell.{WireCell}
use Rattle.wire.specs.declared.cell.WireCell.TheVariants as wire
use Rattle.marshalling.specs.declared.leaf.Leaf.{Leaf}
use Rattle.marshalling.specs.Handles.{Entries}
use Rattle.marshalling.specs.Leaves.{leaves_of}
use Rattle.marshalling.specs.Packing.{names_of, packed_block}
use Rattle.marshalling.specs.Shape.{fits_block}
pub use Rattle.typed_tree.specs.TypeTests.{is_stored as is_kept}

-- a number of the type, or the handle of one
abbrev pub holds_wire : Entries → IntType → WireCell → Bool
holds_wire store t (wire.Number v) = is_in_range t v
holds_wire store t (wire.Sealed handle) = is_kept t (slice_get store handle)

abbrev pub holds : Entries → IntType × WireCell → Bool
holds store typed = holds_wire store typed.0 typed.1

-- an argument for an integer parameter
abbrev pub sends_integer : Entries → Bool → IntType → Cell → Bool
sends_integer store marked t (Int v) = is_in_range t v
sends_integer store marked t (Ptr p) = false
sends_integer store marked t (Sealed handle) = marked && is_kept t (slice_get store handle)

-- an argument for a pointer parameter: its range is one for the parameter as it is sent
abbrev pub sends_pointer : Blocks → Bool → List Leaf → Cell → Bool
sends_pointer blocks marked leaves (Int v) = false
sends_pointer blocks marked leaves (Sealed handle) = false
sends_pointer blocks marked leaves (Ptr Null) = true
sends_pointer blocks marked leaves (Ptr (At block base count index)) =
    (nat_le 1 count && nat_le index count) && fits_block marked leaves base count (packed_block (blocks block))

abbrev pub sends_kind : Entries → List StructInfo → Blocks → Bool → ParamKind → Cell → Bool
sends_kind store structs blocks marked (kind.Int t) c = sends_integer store marked t c
sends_kind store structs blocks marked (kind.Ptr elem fixed) c = sends_pointer blocks marked (leaves_of structs elem) c

-- as many arguments as parameters, each for its own
abbrev pub sends_all : Entries → List StructInfo → Blocks → List Param → List Cell → Bool
sends_all store structs blocks [] [] = true
sends_all store structs blocks [] (c ∷ args) = false
sends_all store structs blocks (p ∷ params) [] = false
sends_all store structs blocks (p ∷ params) (c ∷ args) = sends_kind store structs blocks p.marked p.kind c && sends_all store structs blocks params args

abbrev pub is_sendable : Entries → List StructInfo → List Param → Blocks → List Cell → Bool
is_sendable store structs params blocks args =
    sends_all store structs blocks params args && list_all (λ name. list_all (holds store) (packed_block (blocks name))) (names_of args)
