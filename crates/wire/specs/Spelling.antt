-- How messages are spelled: a tag and the fields, each number big-endian, each list behind its count.
use Rattle.std.specs.Prelude.{ℕ, ℤ, Bool, true, false, List, [], ◌∷◌, ◌++◌, length, Option, Some, None}
use Rattle.std.specs.List.{flat_map}
use Rattle.std.specs.Int.{w32, w64, w128, to_be_bytes, cast_unsigned}
use Rattle.pt_base.specs.declared.int_type.IntType.{IntType}
use Rattle.pt_base.specs.declared.int_type.IntType.TheVariants.{Char, SChar, UChar, Short, UShort, Int, UInt, Long, ULong}
use Rattle.pt_base.specs.declared.trap.Trap.{Trap}
use Rattle.pt_base.specs.declared.trap.Trap.TheVariants as trap
use Rattle.wire.specs.declared.cell.Arg.{Arg}
use Rattle.wire.specs.declared.cell.Arg.TheVariants as argument
use Rattle.wire.specs.declared.cell.WireCell.{WireCell}
use Rattle.wire.specs.declared.cell.WireCell.TheVariants as cell
use Rattle.wire.specs.declared.message.CallBody.{CallBody}
use Rattle.wire.specs.declared.message.ReplyBody.{ReplyBody}
use Rattle.wire.specs.declared.message.Message.{Message}
use Rattle.wire.specs.declared.message.Message.TheVariants as message

-- a number of 32 or 64 bits
unfoldable pub four_bytes : ℕ → List ℕ
four_bytes n = to_be_bytes w32 n

unfoldable pub eight_bytes : ℕ → List ℕ
eight_bytes n = to_be_bytes w64 n

-- signed numbers of 32 or 128 bits, in two's complement
unfoldable pub four_signed_bytes : ℤ → List ℕ
four_signed_bytes z = to_be_bytes w32 (cast_unsigned w32 z)

unfoldable pub sixteen_signed_bytes : ℤ → List ℕ
sixteen_signed_bytes z = to_be_bytes w128 (cast_unsigned w128 z)

abbrev pub truth_byte : Bool → ℕ
truth_byte false = 0
truth_byte true = 1

-- the place of the type among the integer types
abbrev pub type_byte : IntType → ℕ
type_byte Char = 0
type_byte SChar = 1
type_byte UChar = 2
type_byte Short = 3
type_byte UShort = 4
type_byte Int = 5
type_byte UInt = 6
type_byte Long = 7
type_byte ULong = 8

-- the number of the kind of trap
abbrev pub kind_byte : Trap → ℕ
kind_byte trap.Overflow = 1
kind_byte trap.DivZero = 2
kind_byte trap.Shift = 3
kind_byte trap.Bounds = 4
kind_byte trap.Null = 5
kind_byte trap.PtrRange = 6
kind_byte trap.PtrCompare = 7
kind_byte trap.Depth = 8
kind_byte trap.NoReturn = 9

abbrev pub cell_bytes : WireCell → List ℕ
cell_bytes (cell.Number n) = 0 ∷ sixteen_signed_bytes n
cell_bytes (cell.Sealed handle) = 1 ∷ eight_bytes handle

abbrev pub argument_bytes : Arg → List ℕ
argument_bytes (argument.Number n) = 0 ∷ sixteen_signed_bytes n
argument_bytes (argument.Sealed handle) = 1 ∷ eight_bytes handle
argument_bytes argument.Null = 2 ∷ []
argument_bytes (argument.At block base count index) = 3 ∷ block ∷ four_bytes base ++ (four_bytes count ++ four_bytes index)

abbrev pub typed_cell_bytes : IntType × WireCell → List ℕ
typed_cell_bytes typed = type_byte typed.0 ∷ cell_bytes typed.1

abbrev pub block_bytes : List (IntType × WireCell) → List ℕ
block_bytes cells = four_bytes (length cells) ++ flat_map typed_cell_bytes cells

abbrev pub call_bytes : CallBody → List ℕ
call_bytes body = length body.args ∷ flat_map argument_bytes body.args ++ (length body.blocks ∷ flat_map block_bytes body.blocks)

abbrev pub result_bytes : Option WireCell → List ℕ
result_bytes None = 0 ∷ []
result_bytes (Some result) = 1 ∷ cell_bytes result

abbrev pub reply_bytes : ReplyBody → List ℕ
reply_bytes body = result_bytes body.result ++ (four_bytes (length body.cells) ++ flat_map cell_bytes body.cells)

-- a message without its frame
abbrev pub payload : Message → List ℕ
payload (message.Boot piece) = 0 ∷ piece
payload (message.Call turns function depth wants body) = 1 ∷ eight_bytes turns ++ (four_bytes function ++ (depth ∷ truth_byte wants ∷ call_bytes body))
payload (message.Emit turns bytes) = 2 ∷ eight_bytes turns ++ bytes
payload (message.Exit turns status) = 3 ∷ eight_bytes turns ++ four_signed_bytes status
payload (message.Trap turns kind span) = 4 ∷ eight_bytes turns ++ (kind_byte kind ∷ four_bytes span.from ++ four_bytes span.to)
payload (message.Park turns) = 5 ∷ eight_bytes turns
payload (message.Reply body) = 6 ∷ reply_bytes body

-- the message in its frame: the payload behind its length
abbrev pub spelling : Message → List ℕ
spelling m = four_bytes (length (payload m)) ++ payload m
