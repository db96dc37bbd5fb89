-- A call that crosses: what holds where it is sent, and what of the body that was served.
use Rattle.std.specs.Prelude.{◌≡◌, ◌<◌, ℕ, ℤ, List, [], Bool, true, false, map, length, Option, Ok, slice_get, slice_index_or}
use Rattle.std.specs.List.{list_all}
use Rattle.std.specs.Option.{option_map}
use Rattle.pt_base.specs.declared.int_type.IntType.{IntType}
use Rattle.pt_tree.specs.declared.signature.Param.{Param}
use Rattle.pt_tree.specs.declared.signature.Signature.{Signature}
use Rattle.typed_tree.specs.declared.types.StructInfo.{StructInfo}
use Rattle.block_memory.specs.declared.cell.Cell.{Cell}
use Rattle.block_memory.specs.declared.cell.Cell.TheVariants as cell
use Rattle.block_memory.specs.declared.cell.BlockName.{BlockName}
use Rattle.block_memory.specs.declared.cell.BlockName.TheVariants.{Local, Global, Received}
use Rattle.block_memory.specs.Block.{no_block}
use Rattle.block_memory.specs.Blocks.{Blocks}
use Rattle.pt_core.specs.CodeTree.{ProgramTree}
use Rattle.pt_core.specs.Calls.{number_cell}
use Rattle.pt_core.specs.Values.{number_in}
use Rattle.marshalling.specs.Handles.{Entries, unpacking}
use Rattle.marshalling.specs.HonestCalls.{AreKnown, for_callee, hold_integers}
use Rattle.marshalling.specs.Packing.{is_among, names_of, number_of, packed}
use Rattle.marshalling.specs.Replies.{AreServed, IsResult, types_in}
use Rattle.marshalling.specs.Sendable.{is_sendable}
use Rattle.marshalling.specs.Taking.{Taken, are_whole, call_crossing, comes_back}
use Rattle.part_views_law.specs.Views.{IsView, Lies, View, has_global, is_own, seen, seen_block, seen_cell, served_view, slave_view}

-- ---- where both views show one memory

-- What the slave's memory x beside the monitor's m and the memory y of a body have in common: the body's globals are the
-- monitor's, what it received is what is seen of the blocks that were packed, no local is deeper than the caller, and each
-- other block is the slave's.
pub record Meet (slave monitor : ProgramTree) (base : ℕ) (names : List BlockName) (store : Entries) (x m y others : Blocks) : Type 0 where
  pub apart : (g : ℕ) → has_global monitor g ≡ true → has_global slave g ≡ false
  pub globals : (g : ℕ) → has_global monitor g ≡ true → seen_block (served_view monitor base names others) (y (Global g)) ≡ m (Global g)
  pub received : (name : BlockName) → is_among names name ≡ true → is_own monitor base name ≡ false →
      seen_block (served_view monitor base names others) (y (Received (number_of names name))) ≡ seen (slave_view slave store m) x name
  pub locals : (depth v : ℕ) → base < depth → (x (Local depth v) ≡ no_block) × (y (Local depth v) ≡ no_block)
  pub beside : (name : BlockName) → is_own monitor base name ≡ false → is_among names name ≡ false → others name ≡ seen (slave_view slave store m) x name

-- ---- where a call is sent

abbrev pub is_number : Cell → Bool
is_number (cell.Int v) = true
is_number (cell.Ptr p) = false
is_number (cell.Sealed handle) = false

-- each of these globals holds numbers alone
abbrev pub HoldNumbersAlone : ProgramTree → Blocks → Type 0
HoldNumbersAlone part blocks = (g : ℕ) → has_global part g ≡ true → list_all is_number (blocks (Global g)).cells ≡ true

-- The slave's memory x may be sent with these arguments, from a function of depth `base`, beside the monitor's m: the halves
-- share no global, no local of the slave is deeper, and what its arguments point into is none of the body's own.
pub record IsSent (slave monitor : ProgramTree) (base : ℕ) (store : Entries) (structs : List StructInfo) (params : List Param)
    (x m : Blocks) (args : List Cell) : Type 0 where
  pub sendable : is_sendable store structs params x args ≡ true
  pub whole : are_whole x args ≡ true
  pub integers : hold_integers x args ≡ true
  pub known : AreKnown store x
  pub apart : (g : ℕ) → has_global monitor g ≡ true → has_global slave g ≡ false
  pub free : (depth v : ℕ) → base < depth → x (Local depth v) ≡ no_block
  pub outside : (name : BlockName) → is_among (names_of args) name ≡ true → is_own monitor base name ≡ false
  pub there : (g : ℕ) → is_among (names_of args) (Global g) ≡ true → has_global slave g ≡ true
  pub numbers : HoldNumbersAlone monitor m

-- ---- where its body begins

-- the blocks that were sent, under their numbers, over the monitor's globals
abbrev pub with_received : List (List IntType) → List (List Cell) → Blocks → Blocks
with_received types cells m (Local depth v) = no_block
with_received types cells m (Global g) = m (Global g)
with_received types cells m (Received k) = record { types = slice_index_or types k []; cells = slice_index_or cells k [] }

-- the memory in which the body of a call is started
abbrev pub body_memory : Entries → List Param → Blocks → Blocks → List Cell → Blocks
body_memory store params x m args = with_received (types_in (packed x params args)) (for_callee store x args).blocks m

-- the whole's memory
abbrev pub whole_memory : ProgramTree → Entries → Blocks → Blocks → Blocks
whole_memory slave store m x = seen (slave_view slave store m) x

-- the view of the body of a call: beside it lies what the whole has
abbrev pub body_view : ProgramTree → ProgramTree → ℕ → Entries → Blocks → Blocks → List Cell → View
body_view slave monitor base store x m args = served_view monitor base (names_of args) (whole_memory slave store m x)

-- Where the call begins: its receiver opens the body to the slave's own arguments and blocks; what the body gets are the
-- whole's arguments, of the same numbers, and both views show the whole's memory.
pub record IsBegun (slave monitor : ProgramTree) (base : ℕ) (store : Entries) (structs : List StructInfo) (params : List Param)
    (x m : Blocks) (args : List Cell) : Type 0 where
  pub opened : unpacking store structs params (packed x params args) ≡ Ok (for_callee store x args)
  pub args_are : map (seen_cell (body_view slave monitor base store x m args)) (for_callee store x args).args ≡ map (seen_cell (slave_view slave store m)) args
  pub numbers_are : map number_in (map (seen_cell (slave_view slave store m)) args) ≡ map number_in (for_callee store x args).args
  pub meet : Meet slave monitor base (names_of args) store x m (body_memory store params x m args) (whole_memory slave store m x)
  pub memory : seen (body_view slave monitor base store x m args) (body_memory store params x m args) ≡ whole_memory slave store m x

-- The view of such a body is one, and each received block lies under the name that was packed.
pub record IsBodyView (slave monitor : ProgramTree) (base : ℕ) (store : Entries) (x m : Blocks) (args : List Cell) : Type 0 where
  pub view : IsView (body_view slave monitor base store x m args) base monitor
  pub received : (k : ℕ) → k < length (names_of args) → Lies (body_view slave monitor base store x m args) (Received k)

-- ---- where it ends

-- What the body has left: in the received blocks a number of its type in each cell, in those cells that don't come back the
-- number that was sent, and the types that were sent; numbers in the monitor's globals, and no other global changed; none of
-- its locals. The monitor goes on with these globals.
pub record IsWorked (monitor : ProgramTree) (base : ℕ) (store : Entries) (structs : List StructInfo) (sig : Signature)
    (x m : Blocks) (args : List Cell) (z after : Blocks) (value : Option ℤ) : Type 0 where
  pub numbers : AreServed z 0 (types_in (packed x sig.params args))
  pub result : IsResult sig.result value
  pub types : (k : ℕ) → k < length (names_of args) → (z (Received k)).types ≡ (body_memory store sig.params x m args (Received k)).types
  pub stays : (k i : ℕ) → k < length (names_of args) → comes_back (call_crossing structs sig.params args k i) ≡ false →
      slice_get (z (Received k)).cells i ≡ slice_get (body_memory store sig.params x m args (Received k)).cells i
  pub free : (depth v : ℕ) → base < depth → z (Local depth v) ≡ no_block
  pub alone : HoldNumbersAlone monitor z
  pub others : (g : ℕ) → has_global monitor g ≡ false → z (Global g) ≡ m (Global g)
  pub left : (g : ℕ) → after (Global g) ≡ z (Global g)

-- Where the slave has taken the reply, or has posted the call: with the new store the slave's memory beside the monitor's is
-- the whole's as the body left it, and its result is the body's.
pub record IsEnded (slave monitor : ProgramTree) (base : ℕ) (store new : Entries) (x m : Blocks) (args : List Cell)
    (z after : Blocks) (value : Option ℤ) (taken : Taken) : Type 0 where
  pub next : taken.next ≡ length new
  pub known : AreKnown new taken.blocks
  pub result : option_map (seen_cell (body_view slave monitor base store x m args)) (number_cell value) ≡ option_map (seen_cell (slave_view slave new after)) taken.result
  pub meet : Meet slave monitor base (names_of args) new taken.blocks after z (whole_memory slave store m x)
  pub memory : seen (body_view slave monitor base store x m args) z ≡ whole_memory slave new after taken.blocks
