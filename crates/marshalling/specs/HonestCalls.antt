-- A call that is answered honestly. The callee works on the blocks that it was sent, and the caller takes the reply: then
-- the caller has what the callee would have left in the caller's own memory, with handles for what is kept from it.
use Rattle.std.specs.Prelude.{◌≡◌, ℕ, suc, ℤ, List, [], ◌∷◌, ◌++◌, Bool, true, false, length, map, Option, Ok, nat_lt, slice_get, slice_index_or}
use Rattle.std.specs.List.{list_all}
use Rattle.std.specs.Option.{option_map}
use Rattle.pt_tree.specs.declared.signature.Signature.{Signature}
use Rattle.typed_tree.specs.declared.types.StructInfo.{StructInfo}
use Rattle.block_memory.specs.declared.cell.BlockName.{BlockName}
use Rattle.block_memory.specs.declared.cell.BlockName.TheVariants.{Received}
use Rattle.block_memory.specs.declared.cell.Cell.{Cell}
use Rattle.block_memory.specs.declared.cell.Cell.TheVariants as cell
use Rattle.block_memory.specs.declared.cell.Pointer.TheVariants.{Null, At}
use Rattle.block_memory.specs.Block.{Block}
use Rattle.block_memory.specs.Blocks.{Blocks}
use Rattle.wire.specs.declared.message.ReplyBody.{ReplyBody}
use Rattle.marshalling.specs.declared.crossing.Crossing.{Crossing}
use Rattle.marshalling.specs.declared.crossing.Crossing.TheVariants.{Stays, Plain, Sealed}
use Rattle.marshalling.specs.declared.inputs.Inputs.{Inputs}
use Rattle.marshalling.specs.Handles.{Entries, stored, unpacking}
use Rattle.marshalling.specs.Packing.{is_among, names_of, number_of, packed}
use Rattle.marshalling.specs.Replies.{AreServed, IsResult, kept_results, next_after, next_by, number_in, packed_results, places_from, result_places, types_in}
use Rattle.marshalling.specs.Sendable.{is_sendable}
use Rattle.marshalling.specs.Taking.{Taken, after_reply, are_whole, call_crossing, is_reply}

-- ---- a memory with values in the place of handles

abbrev pub revealed : Entries → Cell → Cell
revealed store (cell.Int v) = cell.Int v
revealed store (cell.Ptr p) = cell.Ptr p
revealed store (cell.Sealed handle) = cell.Int (stored store handle)

abbrev pub revealed_block : Entries → Block → Block
revealed_block store block = record { types = block.types; cells = map (revealed store) block.cells }

abbrev pub revealed_blocks : Entries → Blocks → Blocks
revealed_blocks store blocks name = revealed_block store (blocks name)

-- a handle is one of the store
abbrev pub is_known : Entries → Cell → Bool
is_known store (cell.Int v) = true
is_known store (cell.Ptr p) = true
is_known store (cell.Sealed handle) = nat_lt handle (length store)

-- each handle of the memory is
abbrev pub AreKnown : Entries → Blocks → Type 0
AreKnown store blocks = (name : BlockName) → list_all (is_known store) (blocks name).cells ≡ true

-- no pointer
abbrev pub is_integer : Cell → Bool
is_integer (cell.Int v) = true
is_integer (cell.Ptr p) = false
is_integer (cell.Sealed handle) = true

-- no pointer stands in a block that an argument points into
abbrev pub hold_integers : Blocks → List Cell → Bool
hold_integers blocks args = list_all (λ name. list_all is_integer (blocks name).cells) (names_of args)

-- ---- what the callee gets

-- an argument, with the number of a block in the place of its name
abbrev pub renamed : List BlockName → Cell → Cell
renamed names (cell.Int v) = cell.Int v
renamed names (cell.Ptr Null) = cell.Ptr Null
renamed names (cell.Ptr (At block base count index)) = cell.Ptr (At (Received (number_of names block)) base count index)
renamed names (cell.Sealed handle) = cell.Sealed handle

-- the caller's own arguments and blocks, with values in the place of handles
abbrev pub for_callee : Entries → Blocks → List Cell → Inputs
for_callee store blocks args = record {
  args = map (renamed (names_of args)) (map (revealed store) args);
  blocks = map (λ name. (revealed_block store (blocks name)).cells) (names_of args);
}

-- ---- what a reply leaves

-- a cell, where this number comes back for it, and where the next handle is this one
abbrev pub left_cell : Crossing → ℕ → Cell → ℤ → Cell
left_cell Stays handle c v = c
left_cell Plain handle c v = cell.Int v
left_cell Sealed handle c v = cell.Sealed handle

-- the cells of a block from cell i on
abbrev pub left_cells : (ℕ → Crossing) → ℕ → ℕ → List Cell → List ℤ → List Cell
left_cells way i handle [] values = []
left_cells way i handle (c ∷ cells) [] = c ∷ cells
left_cells way i handle (c ∷ cells) (v ∷ values) = left_cell (way i) handle c v ∷ left_cells way (suc i) (next_by (way i) handle) cells values

-- The blocks of these names, of which the first has the number k, have what was left in the received ones: numbers, and
-- handles from this one on, in order. What doesn't come back is as it was.
abbrev pub AreLeft : (ℕ → ℕ → Crossing) → ℕ → List BlockName → ℕ → Blocks → Blocks → Blocks → Type 0
AreLeft crossing k [] handle before served after = Unit {0}
AreLeft crossing k (name ∷ names) handle before served after =
    ((after name).cells ≡ left_cells (crossing k) 0 handle (before name).cells (map number_in (served (Received k)).cells))
    × AreLeft crossing (suc k) names (next_after handle (places_from crossing k 0 (before name).types)) before served after

-- ---- a call

-- the callee's answer
abbrev pub answered : Entries → List StructInfo → Signature → Blocks → List Cell → Blocks → Option ℤ → ReplyBody
answered store structs sig blocks args served value = packed_results (length store) structs sig (packed blocks sig.params args) served value

-- the store by then
abbrev pub grown : Entries → List StructInfo → Signature → Blocks → List Cell → Blocks → Option ℤ → Entries
grown store structs sig blocks args served value = store ++ kept_results structs sig (packed blocks sig.params args) served value

-- what the caller then has
abbrev pub returned : Entries → List StructInfo → Signature → Blocks → List Cell → Blocks → Option ℤ → Taken
returned store structs sig blocks args served value =
    after_reply (length store) blocks structs sig args (answered store structs sig blocks args served value)

-- A call that may be made where the store has these values, and what its callee leaves: a number of its type in each cell
-- that it was sent, and such a result.
pub record IsServed (store : Entries) (structs : List StructInfo) (sig : Signature) (blocks : Blocks) (args : List Cell)
    (served : Blocks) (value : Option ℤ) : Type 0 where
  pub sendable : is_sendable store structs sig.params blocks args ≡ true
  pub whole : are_whole blocks args ≡ true
  pub integers : hold_integers blocks args ≡ true
  pub known : AreKnown store blocks
  pub numbers : AreServed served 0 (types_in (packed blocks sig.params args))
  pub result : IsResult sig.result value

-- The callee gets the caller's arguments and blocks, each block under its number. Its reply is one that the call can have, and leaves each cell as it
-- was, as the callee's number, or as a handle for that; the store's new values are those of the new handles.
pub record IsAnswered (store : Entries) (structs : List StructInfo) (sig : Signature) (blocks : Blocks) (args : List Cell)
    (served : Blocks) (value : Option ℤ) : Type 0 where
  pub opened : unpacking store structs sig.params (packed blocks sig.params args) ≡ Ok (for_callee store blocks args)
  pub numbered : (name : BlockName) → is_among (names_of args) name ≡ true
      → slice_index_or (for_callee store blocks args).blocks (number_of (names_of args) name) [] ≡ (revealed_blocks store blocks name).cells
  pub fits : is_reply (length store) blocks structs sig args (answered store structs sig blocks args served value) ≡ true
  pub next : (returned store structs sig blocks args served value).next ≡ length (grown store structs sig blocks args served value)
  pub result : option_map (revealed (grown store structs sig blocks args served value)) (returned store structs sig blocks args served value).result
      ≡ option_map cell.Int value
  pub cells : AreLeft (call_crossing structs sig.params args) 0 (names_of args) (next_after (length store) (result_places sig sig.result)) blocks served
      (returned store structs sig blocks args served value).blocks
  pub types : (name : BlockName) → ((returned store structs sig blocks args served value).blocks name).types ≡ (blocks name).types
  pub beside : (name : BlockName) → is_among (names_of args) name ≡ false
      → (returned store structs sig blocks args served value).blocks name ≡ blocks name
  pub known : AreKnown (grown store structs sig blocks args served value) (returned store structs sig blocks args served value).blocks

-- ---- the call made in the caller's own memory

-- Made there, the work of the callee leads from `start` to `ends`: the same as in the received blocks, under the blocks'
-- own names. It changes only cells that come back.
pub record IsSameWork (crossing : ℕ → ℕ → Crossing) (names : List BlockName) (start served ends : Blocks) : Type 0 where
  pub same : (name : BlockName) → is_among names name ≡ true → (served (Received (number_of names name))).cells ≡ (ends name).cells
  pub stays : (name : BlockName) (i : ℕ) → is_among names name ≡ true → crossing (number_of names name) i ≡ Stays
      → slice_get (ends name).cells i ≡ slice_get (start name).cells i
  pub beside : (name : BlockName) → is_among names name ≡ false → (ends name).cells ≡ (start name).cells
  pub types : (name : BlockName) → (ends name).types ≡ (start name).types

-- ---- the laws

abbrev pub HonestCallsReturn : Type 0
HonestCallsReturn =
    (store : Entries) (structs : List StructInfo) (sig : Signature) (blocks : Blocks) (args : List Cell) (served : Blocks) (value : Option ℤ)
    → IsServed store structs sig blocks args served value → IsAnswered store structs sig blocks args served value

-- With values in the place of handles, the caller has the memory that the callee's work would have left in it.
abbrev pub CallsAreTransparent : Type 0
CallsAreTransparent =
    (store : Entries) (structs : List StructInfo) (sig : Signature) (blocks : Blocks) (args : List Cell) (served ends : Blocks) (value : Option ℤ)
    → IsServed store structs sig blocks args served value
    → IsSameWork (call_crossing structs sig.params args) (names_of args) (revealed_blocks store blocks) served ends
    → revealed_blocks (grown store structs sig blocks args served value) (returned store structs sig blocks args served value).blocks ≡ ends
