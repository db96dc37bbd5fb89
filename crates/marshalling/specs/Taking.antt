-- What the caller makes of a reply: cells that stay stay, each other one gets what the reply has for it.
use Rattle.std.specs.Prelude.{ℕ, suc, ℤ, pos, List, [], ◌∷◌, Bool, true, false, ◌&&◌, length, drop, map, Option, Some, None, nat_eq, nat_le, option_to_list, if◌then◌else◌}
use Rattle.std.specs.List.{list_all}
use Rattle.std.specs.Option.{option_map}
use Rattle.pt_base.specs.declared.int_type.IntType.{IntType}
use Rattle.pt_int.specs.Conversion.{is_in_range}
use Rattle.pt_tree.specs.declared.signature.Param.{Param}
use Rattle.pt_tree.specs.declared.signature.Signature.{Signature}
use Rattle.typed_tree.specs.declared.types.StructInfo.{StructInfo}
use Rattle.block_memory.specs.declared.cell.Cell.{Cell}
use Rattle.block_memory.specs.declared.cell.Cell.TheVariants as cell
use Rattle.block_memory.specs.declared.cell.BlockName.{BlockName}
use Rattle.block_memory.specs.Block.{Block, with_cell}
use Rattle.block_memory.specs.Blocks.{Blocks, put}
use Rattle.wire.specs.declared.cell.WireCell.{WireCell}
use Rattle.wire.specs.declared.cell.WireCell.TheVariants as wire
use Rattle.wire.specs.declared.message.ReplyBody.{ReplyBody}
use Rattle.marshalling.specs.declared.crossing.Crossing.{Crossing}
use Rattle.marshalling.specs.declared.crossing.Crossing.TheVariants.{Stays, Plain, Sealed}
use Rattle.marshalling.specs.Crossings.{crossing_of}
use Rattle.marshalling.specs.Packing.{names_of, packed_arguments}
use Rattle.marshalling.specs.Replies.{Place, places_of, result_places, next_by, next_after, reply_of}

-- ---- which replies a call can have

-- a cell of a reply for a place that comes back, where the next handle is this one
abbrev pub is_sent_by : Crossing → IntType → ℕ → WireCell → Bool
is_sent_by Stays t handle c = false
is_sent_by Plain t handle (wire.Number v) = is_in_range t v
is_sent_by Plain t handle (wire.Sealed given) = false
is_sent_by Sealed t handle (wire.Number v) = false
is_sent_by Sealed t handle (wire.Sealed given) = nat_eq given handle

-- whether a place comes back at all
abbrev pub comes_back : Crossing → Bool
comes_back Stays = false
comes_back Plain = true
comes_back Sealed = true

-- the cells are what is sent of numbers of these places, with handles from this one on
abbrev pub are_sent : ℕ → List Place → List WireCell → Bool
are_sent handle [] [] = true
are_sent handle [] (c ∷ cells) = false
are_sent handle (p ∷ places) [] = if comes_back p.way then false else are_sent handle places []
are_sent handle (p ∷ places) (c ∷ cells) =
    if comes_back p.way then is_sent_by p.way p.ty handle c && are_sent (next_by p.way handle) places cells else are_sent handle places (c ∷ cells)

-- ---- what a reply leaves

-- the number of a cell that has one
abbrev pub number_of : WireCell → ℤ
number_of (wire.Number v) = v
number_of (wire.Sealed handle) = pos 0

-- the cells of a reply that aren't taken yet, the next handle, and the memory by then
pub record Part : Type 0 where
  pub sent : List WireCell
  pub next : ℕ
  pub blocks : Blocks

abbrev pub with_number : BlockName → ℕ → List WireCell → ℕ → Blocks → Part
with_number name i [] next blocks = record { sent = []; next = next; blocks = blocks }
with_number name i (s ∷ sent) next blocks = record
    { sent = sent; next = next; blocks = put blocks name (with_cell (blocks name) i (cell.Int (number_of s))) }

abbrev pub with_handle : BlockName → ℕ → List WireCell → ℕ → Blocks → Part
with_handle name i sent next blocks = record
    { sent = drop 1 sent; next = suc next; blocks = put blocks name (with_cell (blocks name) i (cell.Sealed next)) }

-- The cell i of a block, as it comes back. A number is what the reply has, a handle the next one, which the reply has too.
abbrev pub taken_cell : Crossing → BlockName → ℕ → Part → Part
taken_cell Stays name i part = part
taken_cell Plain name i part = with_number name i part.sent part.next part.blocks
taken_cell Sealed name i part = with_handle name i part.sent part.next part.blocks

-- the cells of block k that have these types, from cell i on
abbrev pub taken_cells : (ℕ → ℕ → Crossing) → BlockName → ℕ → ℕ → List IntType → Part → Part
taken_cells crossing name k i [] part = part
taken_cells crossing name k i (t ∷ types) part = taken_cells crossing name k (suc i) types (taken_cell (crossing k i) name i part)

-- the blocks of these names, of which the first has the number k
abbrev pub taken_blocks : (ℕ → ℕ → Crossing) → ℕ → List BlockName → Part → Part
taken_blocks crossing k [] part = part
taken_blocks crossing k (name ∷ names) part = taken_blocks crossing (suc k) names (taken_cells crossing name k 0 (part.blocks name).types part)

abbrev pub result_by : Crossing → ℕ → Option WireCell → Option Cell
result_by Stays next sent = None
result_by Plain next sent = option_map (λ s. cell.Int (number_of s)) sent
result_by Sealed next sent = Some (cell.Sealed next)

-- the result, as it comes back
abbrev pub taken_result : List Place → ℕ → Option WireCell → Option Cell
taken_result [] next sent = None
taken_result (p ∷ places) next sent = result_by p.way next sent

-- ---- a call seen by the caller

-- how the cell i of block k comes back
abbrev pub call_crossing : List StructInfo → List Param → List Cell → ℕ → ℕ → Crossing
call_crossing structs params args = crossing_of structs params (packed_arguments (names_of args) params args)

-- the cells of the blocks with these names
abbrev pub block_places : (ℕ → ℕ → Crossing) → List BlockName → Blocks → List Place
block_places crossing names blocks = places_of crossing 0 (map (λ name. (blocks name).types) names)

-- the places of the cells of a call's blocks
abbrev pub call_places : Blocks → List StructInfo → List Param → List Cell → List Place
call_places blocks structs params args = block_places (call_crossing structs params args) (names_of args) blocks

-- the reply has a result and cells for these places, where the next handle is this one
abbrev pub is_reply_for : ℕ → List Place → List Place → ReplyBody → Bool
is_reply_for handle results places reply = are_sent handle results (option_to_list reply.result) && are_sent
    (next_after handle results) places reply.cells

-- the reply is one that the signature and the arguments give
abbrev pub is_reply : ℕ → Blocks → List StructInfo → Signature → List Cell → ReplyBody → Bool
is_reply handle blocks structs sig args reply = is_reply_for handle (result_places sig sig.result) (call_places blocks structs sig.params args) reply

-- what is there after a reply was taken: the result, the next handle and the blocks
pub record Taken : Type 0 where
  pub result : Option Cell
  pub next : ℕ
  pub blocks : Blocks

abbrev pub ended : Option Cell → Part → Taken
ended result part = record { result = result; next = part.next; blocks = part.blocks }

abbrev pub after_reply_for : ℕ → Blocks → (ℕ → ℕ → Crossing) → List BlockName → List Place → ReplyBody → Taken
after_reply_for handle blocks crossing names results reply =
    ended (taken_result results handle reply.result)
    (taken_blocks crossing 0 names (record { sent = reply.cells; next = next_after handle results; blocks = blocks }))

abbrev pub after_reply : ℕ → Blocks → List StructInfo → Signature → List Cell → ReplyBody → Taken
after_reply handle blocks structs sig args reply = after_reply_for handle blocks (call_crossing structs sig.params args) (names_of args)
    (result_places sig sig.result) reply

-- ---- without waiting

-- a number for each place
abbrev pub zeros : List Place → List ℤ
zeros places = map (λ p. pos 0) places

-- the one reply of a call whose reply holds no number
abbrev pub known_reply : ℕ → Blocks → List StructInfo → Signature → List Cell → ReplyBody
known_reply handle blocks structs sig args =
    let results = result_places sig sig.result in
    let places = call_places blocks structs sig.params args in
    reply_of handle results (zeros results) places (zeros places)

-- what posting a call leaves: what taking its one reply would
abbrev pub after_posting : ℕ → Blocks → List StructInfo → Signature → List Cell → Taken
after_posting handle blocks structs sig args = after_reply handle blocks structs sig args (known_reply handle blocks structs sig args)

-- ---- what a caller has to have

-- as many types as cells in each block that an argument points into, and no more than an object has
abbrev pub is_whole : Block → Bool
is_whole block = nat_eq (length block.types) (length block.cells) && nat_le (length block.cells) 65_536

abbrev pub are_whole : Blocks → List Cell → Bool
are_whole blocks args = list_all (λ name. is_whole (blocks name)) (names_of args)
