-- What the receiver of a call makes of its body: each handle is replaced by what the store keeps for it, and a handle
-- without a value of the right type is a fault.
use Rattle.std.specs.Prelude.{◌≡◌, ℕ, ℤ, pos, List, [], ◌∷◌, map, Option, Some, None, Result, Ok, Err, slice_get, if◌then◌else◌}
use Rattle.pt_base.specs.declared.int_type.IntType.{IntType}
use Rattle.pt_tree.specs.declared.signature.Param.{Param}
use Rattle.pt_tree.specs.declared.signature.ParamKind.{ParamKind}
use Rattle.pt_tree.specs.declared.signature.ParamKind.TheVariants as kind
use Rattle.typed_tree.specs.declared.types.StructInfo.{StructInfo}
use Rattle.typed_tree.specs.TypeTests.{same_int}
use Rattle.block_memory.specs.declared.cell.Cell.{Cell}
use Rattle.block_memory.specs.declared.cell.Cell.TheVariants.{Int, Ptr}
use Rattle.block_memory.specs.declared.cell.Pointer.TheVariants.{Null, At}
use Rattle.block_memory.specs.declared.cell.BlockName.TheVariants.{Received}
use Rattle.wire.specs.declared.cell.Arg.{Arg}
use Rattle.wire.specs.declared.cell.Arg.TheVariants as argument
use Rattle.wire.specs.declared.cell.WireCell.{WireCell}
use Rattle.wire.specs.declared.cell.WireCell.TheVariants as wire
use Rattle.wire.specs.declared.message.CallBody.{CallBody}
use Rattle.marshalling.specs.declared.fault.BadCall.{BadCall}
use Rattle.marshalling.specs.declared.fault.BadCall.TheVariants.{Shape, BadHandle, WrongType, Memory}
use Rattle.marshalling.specs.declared.inputs.Inputs.{Inputs}
use Rattle.marshalling.specs.Shape.{is_shaped}

-- the entries of a store
abbrev pub Entries : Type 0
Entries = List (IntType × ℤ)

-- ---- the first faulty handle

-- the first of two faults
abbrev pub or_else : Option BadCall → Option BadCall → Option BadCall
or_else None other = other
or_else (Some fault) other = Some fault

-- the fault of a handle that has this entry and stands for a number of the type
abbrev pub entry_fault : IntType → ℕ → Option (IntType × ℤ) → Option BadCall
entry_fault t handle None = Some (BadHandle handle)
entry_fault t handle (Some entry) = if same_int t entry.0 then None else Some (WrongType handle)

abbrev pub wire_fault : Entries → IntType → WireCell → Option BadCall
wire_fault store t (wire.Number v) = None
wire_fault store t (wire.Sealed handle) = entry_fault t handle (slice_get store handle)

abbrev pub cell_fault : Entries → IntType × WireCell → Option BadCall
cell_fault store typed = wire_fault store typed.0 typed.1

abbrev pub argument_fault : Entries → ParamKind → Arg → Option BadCall
argument_fault store (kind.Int t) (argument.Sealed handle) = entry_fault t handle (slice_get store handle)
argument_fault store of a = None

abbrev pub block_fault : Entries → List (IntType × WireCell) → Option BadCall
block_fault store [] = None
block_fault store (cell ∷ cells) = or_else (cell_fault store cell) (block_fault store cells)

abbrev pub blocks_fault : Entries → List (List (IntType × WireCell)) → Option BadCall
blocks_fault store [] = None
blocks_fault store (block ∷ blocks) = or_else (block_fault store block) (blocks_fault store blocks)

abbrev pub arguments_fault : Entries → List Param → List Arg → Option BadCall
arguments_fault store [] args = None
arguments_fault store (p ∷ params) [] = None
arguments_fault store (p ∷ params) (a ∷ args) = or_else (argument_fault store p.kind a) (arguments_fault store params args)

-- by arguments, then by blocks
abbrev pub handle_fault : Entries → List Param → CallBody → Option BadCall
handle_fault store params body = or_else (arguments_fault store params body.args) (blocks_fault store body.blocks)

-- ---- handles replaced by values

abbrev pub entry_value : Option (IntType × ℤ) → ℤ
entry_value None = pos 0
entry_value (Some entry) = entry.1

abbrev pub stored : Entries → ℕ → ℤ
stored store handle = entry_value (slice_get store handle)

abbrev pub wire_value : Entries → WireCell → ℤ
wire_value store (wire.Number v) = v
wire_value store (wire.Sealed handle) = stored store handle

abbrev pub unpacked_cell : Entries → IntType × WireCell → Cell
unpacked_cell store typed = Int (wire_value store typed.1)

abbrev pub unpacked_argument : Entries → Arg → Cell
unpacked_argument store (argument.Number v) = Int v
unpacked_argument store (argument.Sealed handle) = Int (stored store handle)
unpacked_argument store argument.Null = Ptr Null
unpacked_argument store (argument.At block base count index) = Ptr (At (Received block) base count index)

-- the same arguments and blocks, each number in its place
abbrev pub unpacked : Entries → CallBody → Inputs
unpacked store body = record {
  args = map (unpacked_argument store) body.args;
  blocks = map (map (unpacked_cell store)) body.blocks;
}

-- ---- the answer

abbrev pub inputs_unless : Option BadCall → Inputs → Result Inputs BadCall
inputs_unless None inputs = Ok inputs
inputs_unless (Some fault) inputs = Err fault

-- the whole body's shape counts before any handle
abbrev pub unpacking : Entries → List StructInfo → List Param → CallBody → Result Inputs BadCall
unpacking store structs params body =
    if is_shaped structs params body then inputs_unless (handle_fault store params body) (unpacked store body) else Err Shape

-- the result is the answer, unless memory ran out
abbrev pub Answers : Result Inputs BadCall → Result Inputs BadCall → Type 0
Answers (Ok inputs) answer = Ok inputs ≡ answer
Answers (Err Shape) answer = Err Shape ≡ answer
Answers (Err (BadHandle handle)) answer = Err (BadHandle handle) ≡ answer
Answers (Err (WrongType handle)) answer = Err (WrongType handle) ≡ answer
Answers (Err Memory) answer = Unit {0}

-- the same of a part: its values where no handle is faulty, else the first fault
abbrev pub Opens : {X Y : Type 0} → (X → Y) → Result X BadCall → Option BadCall → Y → Type 0
Opens view (Ok x) fault values = (fault ≡ None) × (view x ≡ values)
Opens view (Err Shape) fault values = fault ≡ Some Shape
Opens view (Err (BadHandle handle)) fault values = fault ≡ Some (BadHandle handle)
Opens view (Err (WrongType handle)) fault values = fault ≡ Some (WrongType handle)
Opens view (Err Memory) fault values = Unit {0}

-- the types of a store
abbrev pub store_types : Entries → List IntType
store_types store = map (λ entry. entry.0) store

-- a store of these types, and 0 for each value
abbrev pub blank : List IntType → Entries
blank types = map (λ t. (t, pos 0)) types
