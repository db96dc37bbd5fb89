-- Reading a message from left to right: the value of each field and the bytes behind it, or nothing.
use Rattle.std.specs.Prelude.{◌≡◌, ℕ, ℤ, zero, suc, ◌-◌, Bool, true, false, List, [], ◌∷◌, length, take, drop, Option, Some, None, Result, Ok, Err, nat_lt, nat_le, ◌==◌, ◌&&◌, if◌then◌else◌, slice_get}
use Rattle.std.specs.Int.{Width, w32, w64, w128, byte_len, from_be_bytes, cast_signed}
use Rattle.pt_base.specs.declared.int_type.IntType.{IntType}
use Rattle.pt_base.specs.declared.int_type.IntType.TheVariants.{Char, SChar, UChar, Short, UShort, Int, UInt, Long, ULong}
use Rattle.pt_base.specs.declared.trap.Trap.{Trap}
use Rattle.pt_base.specs.declared.trap.Trap.TheVariants as trap
use Rattle.wire.specs.declared.cell.Arg.{Arg}
use Rattle.wire.specs.declared.cell.Arg.TheVariants as argument
use Rattle.wire.specs.declared.cell.WireCell.{WireCell}
use Rattle.wire.specs.declared.cell.WireCell.TheVariants as cell
use Rattle.wire.specs.declared.message.CallBody.{CallBody}
use Rattle.wire.specs.declared.message.ReplyBody.{ReplyBody}
use Rattle.wire.specs.declared.message.Message.{Message}
use Rattle.wire.specs.declared.message.Message.TheVariants as message
use Rattle.wire.specs.declared.fault.ReadError.{ReadError}
use Rattle.wire.specs.declared.fault.ReadError.TheVariants as errors
use Rattle.wire.specs.Limits.{longest_piece, most_in_a_call, most_in_a_block}

infixl 10 ◌>>=◌
abbrev pub ◌>>=◌ : {A B : Type 0} → Option A → (A → Option B) → Option B
(Some x) >>= f = f x
None >>= f = None

-- reading gives nothing, unless memory ran out
abbrev pub Fails : {Y : Type 0} → ReadError → Option Y → Type 0
Fails errors.Memory read = Unit {0}
Fails errors.Bad read = read ≡ None

-- what a function returned, seen by view, is what reading gives, unless memory ran out
abbrev pub Gives : {X Y : Type 0} → (X → Y) → Result X ReadError → Option Y → Type 0
Gives view (Ok x) read = read ≡ Some (view x)
Gives view (Err e) read = Fails e read

-- ---- fields

-- a value and the bytes behind it
abbrev pub Field : Type 0 → Type 0
Field A = Option (A × List ℕ)

unfoldable pub byte_at : List ℕ → Field ℕ
byte_at [] = None
byte_at (b ∷ rest) = Some (b, rest)

abbrev pub number_at : Width → List ℕ → Field ℕ
number_at w bytes = if nat_lt (length bytes) (byte_len w) then None else Some (from_be_bytes w (take (byte_len w) bytes), drop (byte_len w) bytes)

unfoldable pub signed_at : Width → List ℕ → Field ℤ
signed_at w bytes = do
  n ← number_at w bytes
  Some (cast_signed w n.0, n.1)

unfoldable pub truth_at : List ℕ → Field Bool
truth_at [] = None
truth_at (zero ∷ rest) = Some (false, rest)
truth_at (suc zero ∷ rest) = Some (true, rest)
truth_at (suc (suc b) ∷ rest) = None

-- the integer types in order
abbrev pub types : List IntType
types = Char ∷ SChar ∷ UChar ∷ Short ∷ UShort ∷ Int ∷ UInt ∷ Long ∷ ULong ∷ []

-- the kinds of traps in order
abbrev pub kinds : List Trap
kinds = trap.Overflow ∷ trap.DivZero ∷ trap.Shift ∷ trap.Bounds ∷ trap.Null ∷ trap.PtrRange ∷ trap.PtrCompare ∷ trap.Depth ∷ trap.NoReturn ∷ []

unfoldable pub type_of : ℕ → Option IntType
type_of n = slice_get types n

unfoldable pub kind_of : ℕ → Option Trap
kind_of n = if n == 0 then None else slice_get kinds (n - 1)

unfoldable pub cell_at : List ℕ → Field WireCell
cell_at [] = None
cell_at (zero ∷ rest) = do
  n ← signed_at w128 rest
  Some (cell.Number n.0, n.1)
cell_at (suc zero ∷ rest) = do
  handle ← number_at w64 rest
  Some (cell.Sealed handle.0, handle.1)
cell_at (suc (suc b) ∷ rest) = None

unfoldable pub pointer_at : List ℕ → Field Arg
pointer_at bytes = do
  block ← byte_at bytes
  base ← number_at w32 block.1
  count ← number_at w32 base.1
  index ← number_at w32 count.1
  Some (argument.At block.0 base.0 count.0 index.0, index.1)

unfoldable pub argument_at : List ℕ → Field Arg
argument_at [] = None
argument_at (zero ∷ rest) = do
  n ← signed_at w128 rest
  Some (argument.Number n.0, n.1)
argument_at (suc zero ∷ rest) = do
  handle ← number_at w64 rest
  Some (argument.Sealed handle.0, handle.1)
argument_at (suc (suc zero) ∷ rest) = Some (argument.Null, rest)
argument_at (suc (suc (suc zero)) ∷ rest) = pointer_at rest
argument_at (suc (suc (suc (suc b))) ∷ rest) = None

unfoldable pub typed_cell_at : List ℕ → Field (IntType × WireCell)
typed_cell_at bytes = do
  b ← byte_at bytes
  ty ← type_of b.0
  found ← cell_at b.1
  Some ((ty, found.0), found.1)

-- ---- lists

-- so many fields one behind the other
unfoldable pub many : {A : Type 0} → (List ℕ → Field A) → ℕ → List ℕ → Field (List A)
many read zero bytes = Some ([], bytes)
many read (suc n) bytes = do
  first ← read bytes
  others ← many read n first.1
  Some (first.0 ∷ others.0, others.1)

unfoldable pub block_at : List ℕ → Field (List (IntType × WireCell))
block_at bytes = do
  n ← number_at w32 bytes
  if nat_le 1 n.0 && nat_le n.0 most_in_a_block then many typed_cell_at n.0 n.1 else None

-- a list behind its count in a byte
unfoldable pub few : {A : Type 0} → (List ℕ → Field A) → List ℕ → Field (List A)
few read bytes = do
  n ← byte_at bytes
  if nat_le n.0 most_in_a_call then many read n.0 n.1 else None

unfoldable pub call_at : List ℕ → Field CallBody
call_at bytes = do
  args ← few argument_at bytes
  blocks ← few block_at args.1
  Some (record { args = args.0; blocks = blocks.0 }, blocks.1)

unfoldable pub result_at : List ℕ → Field (Option WireCell)
result_at [] = None
result_at (zero ∷ rest) = Some (None, rest)
result_at (suc zero ∷ rest) = do
  found ← cell_at rest
  Some (Some found.0, found.1)
result_at (suc (suc b) ∷ rest) = None

unfoldable pub reply_at : List ℕ → Field ReplyBody
reply_at bytes = do
  found ← result_at bytes
  n ← number_at w32 found.1
  cells ← many cell_at n.0 n.1
  Some (record { result = found.0; cells = cells.0 }, cells.1)

-- ---- payloads

-- the value, where no bytes are left over
abbrev pub alone : {A : Type 0} → A × List ℕ → Option A
alone found = if length found.1 == 0 then Some found.0 else None

unfoldable pub boot_of : List ℕ → Option Message
boot_of bytes = if nat_le (length bytes) longest_piece then Some (message.Boot bytes) else None

unfoldable pub call_of : List ℕ → Option Message
call_of bytes = do
  turns ← number_at w64 bytes
  function ← number_at w32 turns.1
  depth ← byte_at function.1
  wants ← truth_at depth.1
  body ← call_at wants.1
  alone (message.Call turns.0 function.0 depth.0 wants.0 body.0, body.1)

unfoldable pub emit_of : List ℕ → Option Message
emit_of bytes = do
  turns ← number_at w64 bytes
  Some (message.Emit turns.0 turns.1)

unfoldable pub exit_of : List ℕ → Option Message
exit_of bytes = do
  turns ← number_at w64 bytes
  status ← signed_at w32 turns.1
  alone (message.Exit turns.0 status.0, status.1)

unfoldable pub trap_of : List ℕ → Option Message
trap_of bytes = do
  turns ← number_at w64 bytes
  b ← byte_at turns.1
  kind ← kind_of b.0
  start ← number_at w32 b.1
  end ← number_at w32 start.1
  alone (message.Trap turns.0 kind (record { from = start.0; to = end.0 }), end.1)

unfoldable pub park_of : List ℕ → Option Message
park_of bytes = do
  turns ← number_at w64 bytes
  alone (message.Park turns.0, turns.1)

unfoldable pub reply_of : List ℕ → Option Message
reply_of bytes = do
  body ← reply_at bytes
  alone (message.Reply body.0, body.1)

-- the message whose payload the bytes are
unfoldable pub payload_of : List ℕ → Option Message
payload_of [] = None
payload_of (zero ∷ rest) = boot_of rest
payload_of (suc zero ∷ rest) = call_of rest
payload_of (suc (suc zero) ∷ rest) = emit_of rest
payload_of (suc (suc (suc zero)) ∷ rest) = exit_of rest
payload_of (suc (suc (suc (suc zero))) ∷ rest) = trap_of rest
payload_of (suc (suc (suc (suc (suc zero)))) ∷ rest) = park_of rest
payload_of (suc (suc (suc (suc (suc (suc zero))))) ∷ rest) = reply_of rest
payload_of (suc (suc (suc (suc (suc (suc (suc tag)))))) ∷ rest) = None
