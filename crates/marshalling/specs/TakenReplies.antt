-- What a reply leaves that the call can have, cell by cell.
use Rattle.std.specs.Prelude.{◌≡◌, ℕ, suc, List, [], ◌∷◌, ◌++◌, true, false, map, slice_get, if◌then◌else◌}
use Rattle.std.specs.Option.{option_map}
use Rattle.pt_tree.specs.declared.signature.Signature.{Signature}
use Rattle.typed_tree.specs.declared.types.StructInfo.{StructInfo}
use Rattle.block_memory.specs.declared.cell.BlockName.{BlockName}
use Rattle.block_memory.specs.declared.cell.Cell.{Cell}
use Rattle.block_memory.specs.declared.cell.Cell.TheVariants as cell
use Rattle.block_memory.specs.Blocks.{Blocks}
use Rattle.wire.specs.declared.cell.WireCell.{WireCell}
use Rattle.wire.specs.declared.cell.WireCell.TheVariants as wire
use Rattle.wire.specs.declared.message.ReplyBody.{ReplyBody}
use Rattle.marshalling.specs.declared.crossing.Crossing.{Crossing}
use Rattle.marshalling.specs.declared.crossing.Crossing.TheVariants.{Stays}
use Rattle.marshalling.specs.Packing.{is_among, names_of, number_of}
use Rattle.marshalling.specs.Replies.{next_after, result_places}
use Rattle.marshalling.specs.Taking.{Taken, after_reply, are_whole, call_crossing, call_places, comes_back, is_reply}

-- a cell as a reply has it
abbrev pub as_sent : WireCell → Cell
as_sent (wire.Number v) = cell.Int v
as_sent (wire.Sealed handle) = cell.Sealed handle

-- those of a block's cells that come back, from cell i on
abbrev pub back_from : (ℕ → Crossing) → ℕ → List Cell → List Cell
back_from way i [] = []
back_from way i (c ∷ cells) = if comes_back (way i) then c ∷ back_from way (suc i) cells else back_from way (suc i) cells

-- those of the blocks of these names, of which the first has the number k
abbrev pub back_of : (ℕ → ℕ → Crossing) → ℕ → List BlockName → Blocks → List Cell
back_of crossing k [] blocks = []
back_of crossing k (name ∷ names) blocks = back_from (crossing k) 0 (blocks name).cells ++ back_of crossing (suc k) names blocks

-- The result and the cells that come back are those of the reply, in its order, and the next handle is behind the reply's.
-- All other cells are as they were.
pub record IsTaken (handle : ℕ) (blocks : Blocks) (structs : List StructInfo) (sig : Signature) (args : List Cell) (reply : ReplyBody)
    (after : Taken) : Type 0 where
  pub result : after.result ≡ option_map as_sent reply.result
  pub cells : back_of (call_crossing structs sig.params args) 0 (names_of args) after.blocks ≡ map as_sent reply.cells
  pub next : after.next ≡ next_after (next_after handle (result_places sig sig.result)) (call_places blocks structs sig.params args)
  pub stays : (name : BlockName) (i : ℕ) → is_among (names_of args) name ≡ true
      → call_crossing structs sig.params args (number_of (names_of args) name) i ≡ Stays
      → slice_get (after.blocks name).cells i ≡ slice_get (blocks name).cells i
  pub beside : (name : BlockName) → is_among (names_of args) name ≡ false → after.blocks name ≡ blocks name
  pub types : (name : BlockName) → (after.blocks name).types ≡ (blocks name).types

-- A reply that the call can have leaves just what it says.
abbrev pub RepliesAreTaken : Type 0
RepliesAreTaken =
    (handle : ℕ) (structs : List StructInfo) (sig : Signature) (blocks : Blocks) (args : List Cell) (reply : ReplyBody)
    → are_whole blocks args ≡ true → is_reply handle blocks structs sig args reply ≡ true
    → IsTaken handle blocks structs sig args reply (after_reply handle blocks structs sig args reply)
